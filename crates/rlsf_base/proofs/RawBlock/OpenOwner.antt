-- An owner of bytes behind a `&mut`: it is opened, which shows where its bytes lie in a block, and closed at other bytes there. Assumes `Logic`.
use Rattle.std.proofs.Common.{◌≡◌, ℕ, zero, suc, ◌+◌, ◌-◌, ◌^◌, ◌<◌, ◌≤◌, List, [], ◌∷◌, ◌++◌, length, take, drop, refl, sym, ap, ◌∙◌, MutBor, arith}
use Rattle.std.proofs.Common.{length-append, length-take, length-drop}
use seplogic.Ra.Ura.{Ura}
use base.Fraction.{full_share}
use base.Logic.{ent, sep, emp}
use base.Fml.{Lft, Share, Fml, ftrue, feq, fsep, flft, froom, fobs, fauth, fobor}
use mir.Syntax.{named}
use mir.Val.{Val}
use types.Logic.{Logic, sem}
use types.Kit.{Item, Goal, Soaks, Seq, Step, step, ‵, ◌⊛◌, prop, ◌$◌, ◌∵◌, !, qed, done, move, frame, use1, use2, join, split, rewrite, fsplit, fsplit3, fjoin, fjoin3, flt_i}
use types.SemTy.{Body}
use denote.Memory.{mem, cell_at}
use denote.RawPtr.{Ptr, block_ptr}
use denote.Ref.{MutRef, mut_vals, at_last}
use denote.Steps.{nothing, opens, closes}
use Rattle.rlsf_base.specs.Out.{kept_at}
use Rattle.rlsf_base.specs.Steps.Owners.{HasOwn, values_with, changes_with}
use Rattle.rlsf_base.specs.Steps.Ownership.{bytes_ty, held, bytes_own, ways_of, own_unit}
use Rattle.rlsf_base.proofs.RawBlock.Parts.{in_its_block}
use Rattle.rlsf_base.proofs.RawBlock.Rows.{Row, Around, room_out, written}
use Rattle.rlsf_base.proofs.RawBlock.Units.{ways-same, unit-written}
use Rattle.rlsf_base.proofs.RawBlock.Values.{mark_own}
use Rattle.rlsf_base.specs.contracts.memory.block.Bytes as owner

abbrev pub Owner : Type 0
Owner = (owner.the_row).Denot

-- its bytes in the block b, which begins at o, and the ways of their units
abbrev pub bytes_in : Owner → ℕ → ℕ → Fml
bytes_in d b o = held (kept_at d.out) 0 d.bytes b (d.skip + o)

abbrev pub ways_in : Owner → ℕ → ℕ → Fml
ways_in d b o = ways_of (own_unit d.out d.skip (length d.bytes)) 0 d.units b o

-- what there is besides while it is open
abbrev pub open_owner : Lft → Share → MutBor Owner → List Val → Fml
open_owner κ q m us =
    fsep (mark_own us)
    (fsep (cell_at full_share (owner.the_row).mir us m.ref_ptr.0 m.ref_ptr.1)
    (fsep (fobor κ q (Body (mem owner.the_row) m.ref_ptr.0 m.ref_ptr.1 m.ghost_name))
    (fsep (fobs m.ghost_name ((owner.the_row).coded.code m.now))
    (fsep (fauth m.ghost_name ((owner.the_row).coded.code m.now)) (feq (List Val) (mut_vals m) (mut_vals m))))))

module _ {M : Type 1} {𝓤 : Ura M} {𝓛 : Logic 𝓤} {K : Type 0} {Γ : List (Item 𝓤)} {G : Goal 𝓤 𝓛.H} where
  pub opens_owner : K → Soaks G → (κ : Lft) (q : Share) (m : MutBor Owner)
      → ((us : List Val) (b o : ℕ) → m.now.at ≡ block_ptr b o → length m.now.bytes < 2 ^ 63
      → Seq K 𝓛 (‵ (bytes_in m.now b o) ∷ ‵ (ways_in m.now b o) ∷ ‵ (open_owner κ q m us) ∷ Γ) G)
      → Seq K 𝓛 (‵ ((MutRef (named 0) κ owner.the_row).own_val m (mut_vals m)) ∷ ‵ (flft κ q) ∷ Γ) G
  opens_owner t z κ q m inside =
      fsplit3 t $ move t (1 ∷ 2 ∷ 3 ∷ []) $ opens t z owner.the_row {κ = κ} {q = q} {h = m.now} {γ = m.ghost_name} m.ref_ptr.0 m.ref_ptr.1 (λ us.
      move t (1 ∷ []) $ fsplit t $
      -- [the mark; the bytes; the mark's cell; the open borrow; ..]
      move t (5 ∷ 6 ∷ []) $ fjoin t $ move t (5 ∷ 0 ∷ []) $ fjoin t $ move t (4 ∷ 0 ∷ []) $ fjoin t $ move t (3 ∷ 0 ∷ []) $ fjoin t $ move t (1 ∷ 0 ∷ []) $ fjoin t $
      move t (1 ∷ []) $ in_its_block t m.now.at m.now.skip m.now.bytes m.now.out m.now.units (inside us))

  pub closes_owner : K → Soaks G → (κ : Lft) (q : Share) (m : MutBor Owner) (us : List Val) (new : Owner) (b o : ℕ) → new.at ≡ block_ptr b o
      → length new.bytes < 2 ^ 63
      → Step K 𝓛 (‵ ((MutRef (named 0) κ owner.the_row).own_val (at_last m new) (mut_vals m)) ∷ ‵ (flft κ q) ∷ Γ) G
      (‵ (bytes_in new b o) ∷ ‵ (ways_in new b o) ∷ ‵ (open_owner κ q m us) ∷ Γ) G
  closes_owner t z κ q m us new b o e small = step (λ s.
      fjoin t $ flt_i t (length new.bytes) (2 ^ 63) small $ fjoin t $
      rewrite t 0 (λ (p : Ptr). ‵ (bytes_own p new.skip new.bytes new.out new.units)) (sym e) refl $ move t (1 ∷ []) $ fsplit t $ move t (0 ∷ 2 ∷ []) $ fjoin t $
      -- [what it owns; its cell with the open borrow; ..]
      move t (1 ∷ []) $ fsplit t $ move t (1 ∷ []) $ fsplit3 t $ move t (2 ∷ []) $ fsplit t $ move t (4 ∷ 5 ∷ 2 ∷ 3 ∷ 0 ∷ []) $
      closes t z owner.the_row new us m.ref_ptr.0 m.ref_ptr.1 $ move t (3 ∷ 0 ∷ 1 ∷ []) $ fjoin3 t $ s)

-- ---- the end of a function that has closed its owner and has nothing of its n other parameters
abbrev pub trues : ℕ → Fml
trues zero = ftrue
trues (suc n) = fsep ftrue (trues n)

module _ {M : Type 1} {𝓤 : Ura M} {𝓛 : Logic 𝓤} {K : Type 0} where
  trues_there : K → (n : ℕ) {Γ : List (Item 𝓤)} {G : Goal 𝓤 𝓛.H} → Step K 𝓛 (‵ (trues n) ∷ Γ) G Γ G
  trues_there t zero = nothing t
  trues_there t (suc n) = step (λ s. trues_there t n $ nothing t $ fjoin t $ s)

  pub ends_kept : (n : ℕ) → K → {O L R : Fml}
      → Seq K 𝓛 (‵ O ∷ ‵ L ∷ ‵ R ∷ []) (prop (sep 𝓤 (sep 𝓤 (sem 𝓛 L) (emp 𝓤)) (sep 𝓤 (sem 𝓛 (fsep O (trues n))) (sem 𝓛 R))))
  ends_kept n t = nothing t $ move t (2 ∷ 0 ∷ []) $ join t $ frame t $ trues_there t n $ move t (1 ∷ 0 ∷ []) $ fjoin t $ done t

-- ---- n of the owner's bytes are written, from a place on
module _ {M : Type 1} {𝓤 : Ura M} (𝓛 : Logic 𝓤) (d : Owner) (b o place n : ℕ) (has : HasOwn d place n) where
  abbrev i : ℕ
  i = place - d.skip

  abbrev pub Others : Fml
  Others = Around 𝓛 b (kept_at d.out) (d.skip + o) d.bytes i n

  within : i + n ≤ length d.bytes
  within = omega (arith, has.0)

  there : i + (d.skip + o) ≡ place + o
  there = omega (arith, has.0)

  pub room_of_run : ent 𝓤 (sem 𝓛 (bytes_in d b o)) (sep 𝓤 (𝓛.H.room (bytes_ty n) b (place + o)) (sem 𝓛 Others))
  room_of_run = qed 𝓛 (‵ (bytes_in d b o) ∷ []) ∵
      use1 𝓛 (‵ (froom (bytes_ty n) b (i + (d.skip + o))) ⊛ ‵ Others) (room_out 𝓛 b d.out (d.skip + o) d.bytes i n within has.1) $ split ! $
      rewrite ! 0 (λ (k : ℕ). ‵ (froom (bytes_ty n) b k)) there refl $ done !

  module _ (ws : List ℕ) (same : n ≡ length ws) where
    abbrev pub written_owner : Owner
    written_owner = record { mark = d.mark; at = d.at; skip = d.skip; bytes = values_with d place n ws; out = changes_with d place n; of = d.of; units = d.units }

    pub written_as_long : length (values_with d place n ws) ≡ length d.bytes
    written_as_long =
        omega (
          arith,
          within,
          same,
          length-append (take i d.bytes) (ws ++ drop (i + n) d.bytes),
          length-append ws (drop (i + n) d.bytes),
          length-take i d.bytes,
          length-drop (i + n) d.bytes,
        )

    pub run_written : ent 𝓤 (sep 𝓤 (sem 𝓛 (Row 𝓛 b (place + o) ws)) (sep 𝓤 (sem 𝓛 Others) (sem 𝓛 (ways_in d b o))))
        (sep 𝓤 (sem 𝓛 (bytes_in written_owner b o)) (sem 𝓛 (ways_in written_owner b o)))
    run_written = qed 𝓛 (‵ (Row 𝓛 b (place + o) ws) ∷ ‵ Others ∷ ‵ (ways_in d b o) ∷ []) ∵
        rewrite ! 0 (λ (k : ℕ). ‵ (Row 𝓛 b k ws)) (sym there) refl $
        use2 𝓛 (‵ (bytes_in written_owner b o)) (written 𝓛 b d.out (d.skip + o) d.bytes i n within ws same) $
        rewrite ! 1 (λ (F : Fml). ‵ F)
        (ways-same 𝓛 b (own_unit d.out d.skip (length d.bytes)) (own_unit (changes_with d place n) d.skip (length (values_with d place n ws))) 0 d.units o
        (λ u. unit-written d.out d.skip (length d.bytes) i n u has.1 ∙ ap (λ k. own_unit (changes_with d place n) d.skip k u) (sym written_as_long))) refl $ done !
