-- Room for units holds room for bytes, and is complete again once that room is returned. Assumes `Logic`.
use Rattle.std.proofs.Common.{◌≡◌, ℕ, ◌+◌, ◌-◌, ◌*◌, ◌≤◌, Bool, true, [], ◌∷◌, refl, sym, ◌∙◌, arith, w8}
use Rattle.std.proofs.Math.Bool.{not}
use seplogic.Ra.Ura.{Ura}
use mir.Syntax.{ty_int}
use base.Logic.{SProp, ent, sep, wand}
use base.Fml.{Fml}
use types.Logic.{Logic, sem}
use types.Kit.{‵, raw, ◌⊛◌, ◌$◌, ◌∵◌, !, qed, by, move, use1, use2, split, frame, assume, rewrite, done}
use denote.RawPtr.Room.{room_cut, room_glue, past, past_bytes}
use Rattle.rlsf_base.specs.Steps.Ownership.{bytes_ty, units_ty, ways_of, begins_in}
use Rattle.rlsf_base.proofs.RawBlock.Units.{others, ways_all, ways_part, ways_join}
use Rattle.rlsf_base.proofs.RawBlock.OpenedUnits.{ways, opened, closed}

module _ {M : Type 1} {𝓤 : Ura M} (𝓛 : Logic 𝓤) (b : ℕ) where
  open 𝓛 use {H}

  abbrev Room : ℕ → ℕ → SProp 𝓤
  Room n o = H.room (bytes_ty n) b o

  -- the bytes after the first m
  behind : (m o : ℕ) → past (ty_int w8) m o ≡ m + o
  behind m o = past_bytes m o ∙ omega arith

  cuts : (m n k o : ℕ) → k ≡ m + n → ent 𝓤 (Room k o) (sep 𝓤 (Room m o) (Room n (m + o)))
  cuts m n k o e = qed 𝓛 (raw (Room k o) ∷ []) ∵ rewrite ! 0 (λ (j : ℕ). raw (Room j o)) e refl $
      use1 𝓛 (raw (Room m o) ⊛ raw (Room n (past (ty_int w8) m o))) (room_cut 𝓛 (ty_int w8) m n b o) $ split ! $ rewrite ! 1 (λ (d : ℕ). raw (Room n d)) (behind m o)
      refl $ done !

  glues : (m n k o : ℕ) → k ≡ m + n → ent 𝓤 (sep 𝓤 (Room m o) (Room n (m + o))) (Room k o)
  glues m n k o e = qed 𝓛 (raw (Room m o) ∷ raw (Room n (m + o)) ∷ []) ∵ rewrite ! 1 (λ (d : ℕ). raw (Room n d)) (sym (behind m o)) refl $
      use2 𝓛 (raw (Room (m + n) o)) (room_glue 𝓛 (ty_int w8) m n b o) $ rewrite ! 0 (λ (j : ℕ). raw (Room j o)) (sym e) refl $ done !

  -- with the ways of the units that begin in the bytes; those of the others stay behind
  pub retypes : (units skip len o : ℕ) → skip + len ≤ units * 16
      → ent 𝓤 (H.room (units_ty units) b o)
      (sep 𝓤 (Room len (skip + o))
      (sep 𝓤 (sem 𝓛 (ways_of (begins_in skip len) 0 units b o))
      (wand 𝓤 (Room len (skip + o)) (wand 𝓤 (sem 𝓛 (ways_of (begins_in skip len) 0 units b o)) (H.room (units_ty units) b o)))))
  retypes units skip len o within =
      let all = units * 16 in let rest = all - (skip + len) in let Units : SProp 𝓤 = H.room (units_ty units) b o in
      let every : ℕ → Bool = λ u. true in let in_them = begins_in skip len in let elsewhere : ℕ → Bool = λ u. not (begins_in skip len u) in
      let of_all : ways_of every 0 units b o ≡ ways units b o = ways_all 𝓛 b every 0 units o o (omega arith) (λ v lo hi. refl) in
      qed 𝓛 (raw Units ∷ []) ∵ use1 𝓛 (raw (Room all o) ⊛ ‵ (ways units b o)) (opened 𝓛 b units o) $ split ! $
      use1 𝓛 (raw (Room skip o) ⊛ raw (Room (len + rest) (skip + o))) (cuts skip (len + rest) all o (omega (arith, within))) $ split ! $ move ! (1 ∷ []) $
      use1 𝓛 (raw (Room len (skip + o)) ⊛ raw (Room rest (len + (skip + o)))) (cuts len rest (len + rest) (skip + o) (omega arith)) $ split ! $ move ! (3 ∷ []) $
      rewrite ! 0 (λ (F : Fml). ‵ F) (sym of_all) refl $
      use1 𝓛 (‵ (ways_of in_them 0 units b o) ⊛ ‵ (ways_of elsewhere 0 units b o)) (ways_part 𝓛 b every elsewhere in_them 0 units o (λ v. others (in_them v))) $ split
      ! $
      -- [the ways in the bytes; the others; the bytes; what is behind them; what is before them]
      move ! (2 ∷ []) $ frame ! $ frame ! $ assume ! (raw (Room len (skip + o))) $ assume ! (‵ (ways_of in_them 0 units b o)) $
      -- [the ways in the bytes; the bytes; the other ways; behind; before]
      move ! (0 ∷ 2 ∷ []) $ use2 𝓛 (‵ (ways_of every 0 units b o)) (ways_join 𝓛 b every elsewhere in_them 0 units o (λ v. others (in_them v))) $
      rewrite ! 0 (λ (F : Fml). ‵ F) of_all refl $ move ! (1 ∷ 2 ∷ []) $
      use2 𝓛 (raw (Room (len + rest) (skip + o))) (glues len rest (len + rest) (skip + o) (omega arith)) $ move ! (2 ∷ 0 ∷ []) $
      use2 𝓛 (raw (Room all o)) (glues skip (len + rest) all o (omega (arith, within))) $ by ! (closed 𝓛 b units o)
