-- Room for units as room for integers of fewer bytes, with a way back for each unit: so a block can have more units or fewer while values are in
-- its first bytes. Assumes `Logic`.
use Rattle.std.proofs.Common.{◌≡◌, ℕ, zero, suc, ◌+◌, ◌-◌, ◌*◌, ◌/◌, ◌%◌, ◌≤◌, [], ◌∷◌, refl, sym, ap, subst, ◌∙◌, arith, suc-mul, zero-mul, ◌^◌, ◌<◌, List, ◌++◌, IfSome, None}
use Rattle.std.proofs.Common.{Some, Bool}
use seplogic.Ra.Ura.{Ura}
use mir.Syntax.{Ty, Width, w8, w16, w32, w64, w128, ty_int, ty_array}
use mir.Val.{bytes, Val, vcons, vnil, of_list, vstruct}
use base.Logic.{SProp, ent, sep, wand, apply∗, fst∗, via, never, id⊢, emp}
use base.Fml.{Fml, fwand, froom, fex, fsep}
use prog.Memory.{size, align, capped}
use prog.Align.{Dv, dv→, dv_self, align_w, align-bytes, align_size}
use types.Logic.{Logic, sem}
use types.Kit.{‵, raw, ◌⊛◌, ◌$◌, ◌∵◌, !, qed, by, move, drop, use0, use1, use2, split, fsplit, fjoin, rewrite, done, Item, Goal, Seq, frame, fpick, fpack, feq_l}
use denote.RawPtr.Room.{past, room_cut, room_glue}
use denote.RawPtr.{block_ptr, Ptr, room_for, in_a_block, RawPtr, ptr_val}
use denote.Steps.{nothing, only}
use Rattle.rlsf_base.specs.Steps.Ownership.{units_ty, bytes_ty, ways_of, begins_in, units_from, room_at}
use Rattle.rlsf_local_heap.specs.Ownership.{beside_value, grains, ways_back, block_token}
use prog.Capped.{capped_is, capped_small}
use types.Match.{live}
use denote.RattleType.{RattleType}
use denote.Shadow.{pure_l, shadow, makes_shadow}
use Rattle.rlsf_base.specs.Ledger.{extent, ticket_owns}
use Rattle.rlsf_base.specs.OpenSpace.{Home}
use Rattle.rlsf_base.specs.UnitPayload.{IsUnitPointer}
use Rattle.rlsf_base.proofs.RawBlock.PointerValues.{room-complete, spot_val, spot_own, spot_told}
use Rattle.rlsf_heap.specs.Heap.{Identity}
use Rattle.rlsf_heap.specs.Units.{IsCompleteOf, payload_len}
use mir.Raw.{raw as bare}
use prog.RawLaws.{size-raw}
use denote.Param.{layout}
use Rattle.core.proofs.ptr.Rows.{El, room_split, glued, add_times}
use Rattle.rlsf_base.proofs.Changes.{in_run-yes}
use Rattle.rlsf_base.proofs.RawBlock.Units.{units_in-aligned, ways_all}
use Rattle.rlsf_base.proofs.RawBlock.OpenedUnits.{ways, opened as opened_bytes, closed as closed_bytes}
use Rattle.rlsf_base.proofs.RawBlock.Values.{plainly}
use Rattle.core.specs.contracts.option.Option as option
use Rattle.rlsf_base.specs.contracts.memory.unit_payload.UnitPayload as payload

-- ---- counts of integers of w bytes

pub divides_16 : (w : Width) → Dv (bytes w) 16
divides_16 w8 = tt
divides_16 w16 = tt
divides_16 w32 = tt
divides_16 w64 = tt
divides_16 w128 = tt

sixteen : (w : Width) → 16 / bytes w * bytes w ≡ 16
sixteen w = grind arith

pub exact : (w : Width) (x : ℕ) → x % bytes w ≡ 0 → x / bytes w * bytes w ≡ x
exact w x e = grind arith

shares : (w : Width) (x y : ℕ) → x % bytes w ≡ 0 → (x + y) / bytes w ≡ x / bytes w + y / bytes w
shares w x y e = grind arith

in_units : (w : Width) (n : ℕ) → n * (16 / bytes w) ≡ n * 16 / bytes w
in_units w n = grind arith

-- where the integers end
past_grains : (w : Width) (m o : ℕ) → past (ty_int w) m o ≡ o + m * bytes w
past_grains w zero o = (let e : o ≡ o + 0 = omega arith in e) ∙ ap (λ (k : ℕ). o + k) (sym (zero-mul (bytes w)))
past_grains w (suc m) o = past_grains w m (o + bytes w) ∙ (let e : o + bytes w + m * bytes w ≡ o + suc m * bytes w = omega (arith, suc-mul m (bytes w)) in e)

pub sixteens : (w : Width) (x : ℕ) → x % 16 ≡ 0 → x % bytes w ≡ 0
sixteens w x e = grind arith

pub differs : (w : Width) (x y : ℕ) → x % bytes w ≡ 0 → y % bytes w ≡ 0 → (x - y) % bytes w ≡ 0
differs w x y e f = grind arith

module _ {M : Type 1} {𝓤 : Ura M} (𝓛 : Logic 𝓤) (w : Width) (b : ℕ) where
  open 𝓛 use {H}

  abbrev Room : ℕ → ℕ → SProp 𝓤
  Room n o = H.room (grains w n) b o

  -- room for x bytes, as integers
  abbrev pub Bytes : ℕ → ℕ → SProp 𝓤
  Bytes x o = H.room (grains w (x / bytes w)) b o

  abbrev Way : ℕ → Fml
  Way o = fwand (froom (grains w (16 / bytes w)) b o) (froom (ty_int w128) b o)

  pub cuts : (x y o : ℕ) → x % bytes w ≡ 0 → ent 𝓤 (Bytes (x + y) o) (sep 𝓤 (Bytes x o) (Bytes y (o + x)))
  cuts x y o e =
      qed 𝓛 (raw (Bytes (x + y) o) ∷ []) ∵ rewrite ! 0 (λ (k : ℕ). raw (Room k o)) (shares w x y e) refl $
      use1 𝓛 (raw (Room (x / bytes w) o) ⊛ raw (Room (y / bytes w) (o + x)))
      (subst (λ (k : ℕ). ent 𝓤 (Room (x / bytes w + y / bytes w) o) (sep 𝓤 (Room (x / bytes w) o) (Room (y / bytes w) k)))
      (past_grains w (x / bytes w) o ∙ ap (λ (k : ℕ). o + k) (exact w x e)) (room_cut 𝓛 (ty_int w) (x / bytes w) (y / bytes w) b o)) $ split ! $ done !

  pub glues : (x y o : ℕ) → x % bytes w ≡ 0 → ent 𝓤 (sep 𝓤 (Bytes x o) (Bytes y (o + x))) (Bytes (x + y) o)
  glues x y o e =
      qed 𝓛 (raw (Bytes x o) ∷ raw (Bytes y (o + x)) ∷ []) ∵
      use2 𝓛 (raw (Room (x / bytes w + y / bytes w) o))
      (subst (λ (k : ℕ). ent 𝓤 (sep 𝓤 (Room (x / bytes w) o) (Room (y / bytes w) k)) (Room (x / bytes w + y / bytes w) o))
      (past_grains w (x / bytes w) o ∙ ap (λ (k : ℕ). o + k) (exact w x e)) (room_glue 𝓛 (ty_int w) (x / bytes w) (y / bytes w) b o)) $
      rewrite ! 0 (λ (k : ℕ). raw (Room k o)) (sym (shares w x y e)) refl $ done !

  -- ---- units

  opened : (n o : ℕ) → ent 𝓤 (H.room (units_ty n) b o) (sep 𝓤 (Bytes (n * 16) o) (sem 𝓛 (ways_back w n b o)))
  opened zero o =
      qed 𝓛 (raw (H.room (units_ty zero) b o) ∷ []) ∵ drop ! $ nothing ! $
      use0 𝓛 (raw (Room zero o)) (𝓛.laws.room_nil (ty_int w) b o) $
      rewrite ! 0 (λ (k : ℕ). raw (Room k o)) {x = zero * 16 / bytes w} {y = zero} (sym (zero-mul (16 / bytes w)) ∙ in_units w zero) refl $ done !
  opened (suc n) o =
      qed 𝓛 (raw (H.room (units_ty (suc n)) b o) ∷ []) ∵
      use1 𝓛 (raw (H.room (ty_int w128) b o) ⊛ raw (H.room (units_ty n) b (o + 16))) (𝓛.laws.room_uncons (ty_int w128) n b o) $ split ! $
      use1 𝓛 (raw (Bytes 16 o) ⊛ ‵ (Way o)) (𝓛.laws.room_as (ty_int w128) (grains w (16 / bytes w)) b o (sixteen w) (divides_16 w)) $ split ! $
      move ! (2 ∷ []) $ use1 𝓛 (raw (Bytes (n * 16) (o + 16)) ⊛ ‵ (ways_back w n b (o + 16))) (opened n (o + 16)) $ split ! $ move ! (2 ∷ 0 ∷ []) $
      use2 𝓛 (raw (Bytes (16 + n * 16) o)) (glues 16 (n * 16) o (dv→ (bytes w) 16 (divides_16 w))) $
      rewrite ! 0 (λ (k : ℕ). raw (Bytes k o)) {x = suc n * 16} {y = 16 + n * 16} (let e : 16 + n * 16 ≡ suc n * 16 = omega arith in e) refl $
      move ! (2 ∷ 1 ∷ []) $ fjoin ! $ move ! (1 ∷ 0 ∷ []) $ done !

  closed : (n o : ℕ) → ent 𝓤 (sep 𝓤 (Bytes (n * 16) o) (sem 𝓛 (ways_back w n b o))) (H.room (units_ty n) b o)
  closed zero o = qed 𝓛 (raw (Bytes (zero * 16) o) ∷ ‵ (ways_back w zero b o) ∷ []) ∵ drop ! $ drop ! $ by ! (𝓛.laws.room_nil (ty_int w128) b o)
  closed (suc n) o =
      qed 𝓛 (raw (Bytes (suc n * 16) o) ∷ ‵ (ways_back w (suc n) b o) ∷ []) ∵ move ! (1 ∷ []) $ fsplit ! $ move ! (2 ∷ []) $
      rewrite ! 0 (λ (k : ℕ). raw (Bytes k o)) {x = 16 + n * 16} {y = suc n * 16} (let e : suc n * 16 ≡ 16 + n * 16 = omega arith in e) refl $
      use1 𝓛 (raw (Bytes 16 o) ⊛ raw (Bytes (n * 16) (o + 16))) (cuts 16 (n * 16) o (dv→ (bytes w) 16 (divides_16 w))) $ split ! $
      move ! (0 ∷ 2 ∷ []) $ use2 𝓛 (raw (H.room (ty_int w128) b o)) (apply∗ 𝓤 (Bytes 16 o) (H.room (ty_int w128) b o)) $ move ! (1 ∷ 2 ∷ []) $
      use2 𝓛 (raw (H.room (units_ty n) b (o + 16))) (closed n (o + 16)) $ move ! (1 ∷ 0 ∷ []) $ by ! (𝓛.laws.room_cons (ty_int w128) n b o)

  whole_units : (m : ℕ) → m % 16 ≡ 0 → m / 16 * 16 ≡ m
  whole_units m e = omega (arith, e)

  pub opens : (m o : ℕ) → m % 16 ≡ 0 → ent 𝓤 (H.room (units_ty (m / 16)) b o) (sep 𝓤 (Bytes m o) (sem 𝓛 (ways_back w (m / 16) b o)))
  opens m o e = subst (λ (k : ℕ). ent 𝓤 (H.room (units_ty (m / 16)) b o) (sep 𝓤 (Bytes k o) (sem 𝓛 (ways_back w (m / 16) b o)))) (whole_units m e) (opened (m / 16) o)

  pub closes : (m o : ℕ) → m % 16 ≡ 0 → ent 𝓤 (sep 𝓤 (Bytes m o) (sem 𝓛 (ways_back w (m / 16) b o))) (H.room (units_ty (m / 16)) b o)
  closes m o e = subst (λ (k : ℕ). ent 𝓤 (sep 𝓤 (Bytes k o) (sem 𝓛 (ways_back w (m / 16) b o))) (H.room (units_ty (m / 16)) b o)) (whole_units m e) (closed (m / 16) o)

  -- the ways of units side by side
  joined : (n k o : ℕ) → ent 𝓤 (sep 𝓤 (sem 𝓛 (ways_back w n b o)) (sem 𝓛 (ways_back w k b (o + n * 16)))) (sem 𝓛 (ways_back w (n + k) b o))
  joined zero k o =
      qed 𝓛 (‵ (ways_back w zero b o) ∷ ‵ (ways_back w k b (o + zero * 16)) ∷ []) ∵ drop ! $
      rewrite ! 0 (λ (u : ℕ × ℕ). ‵ (ways_back w u.0 b u.1)) {x = (zero + k, o)} {y = (k, o + zero * 16)}
      (λ i. (let e : k ≡ zero + k = omega arith in e i, let e : o + zero * 16 ≡ o = omega arith in e i)) refl $ done !
  joined (suc n) k o =
      qed 𝓛 (‵ (ways_back w (suc n) b o) ∷ ‵ (ways_back w k b (o + suc n * 16)) ∷ []) ∵ fsplit ! $ move ! (1 ∷ 2 ∷ []) $
      rewrite ! 1 (λ (j : ℕ). ‵ (ways_back w k b j)) {x = o + 16 + n * 16} {y = o + suc n * 16} (let e : o + suc n * 16 ≡ o + 16 + n * 16 = omega arith in e) refl $
      use2 𝓛 (‵ (ways_back w (n + k) b (o + 16))) (joined n k (o + 16)) $ move ! (1 ∷ 0 ∷ []) $ fjoin ! $
      rewrite ! 0 (λ (j : ℕ). ‵ (ways_back w j b o)) {x = suc n + k} {y = suc (n + k)} (let e : suc (n + k) ≡ suc n + k = omega arith in e) refl $ done !

  pub ways-join : (m k o : ℕ) → m % 16 ≡ 0 → ent 𝓤 (sep 𝓤 (sem 𝓛 (ways_back w (m / 16) b o)) (sem 𝓛 (ways_back w (k / 16) b (o + m)))) (sem 𝓛 (ways_back w ((m + k) / 16) b o))
  ways-join m k o e =
      subst (λ (j : ℕ). ent 𝓤 (sep 𝓤 (sem 𝓛 (ways_back w (m / 16) b o)) (sem 𝓛 (ways_back w (k / 16) b (o + m)))) (sem 𝓛 (ways_back w j b o)))
      (let f : m / 16 + k / 16 ≡ (m + k) / 16 = omega (arith, e) in f)
      (subst (λ (j : ℕ). ent 𝓤 (sep 𝓤 (sem 𝓛 (ways_back w (m / 16) b o)) (sem 𝓛 (ways_back w (k / 16) b (o + j)))) (sem 𝓛 (ways_back w (m / 16 + k / 16) b o))) (whole_units m e)
      (joined (m / 16) (k / 16) o))

  ways_parted : (n k o : ℕ) → ent 𝓤 (sem 𝓛 (ways_back w (n + k) b o)) (sep 𝓤 (sem 𝓛 (ways_back w n b o)) (sem 𝓛 (ways_back w k b (o + n * 16))))
  ways_parted zero k o =
      qed 𝓛 (‵ (ways_back w (zero + k) b o) ∷ []) ∵ nothing ! $ move ! (1 ∷ []) $
      rewrite ! 0 (λ (u : ℕ × ℕ). ‵ (ways_back w u.0 b u.1)) {x = (k, o + zero * 16)} {y = (zero + k, o)}
      (λ i. (let e : zero + k ≡ k = omega arith in e i, let e : o ≡ o + zero * 16 = omega arith in e i)) refl $ move ! (1 ∷ 0 ∷ []) $ done !
  ways_parted (suc n) k o =
      qed 𝓛 (‵ (ways_back w (suc n + k) b o) ∷ []) ∵
      rewrite ! 0 (λ (j : ℕ). ‵ (ways_back w j b o)) {x = suc (n + k)} {y = suc n + k} (let e : suc n + k ≡ suc (n + k) = omega arith in e) refl $ fsplit ! $ move ! (1 ∷ []) $
      use1 𝓛 (‵ (ways_back w n b (o + 16)) ⊛ ‵ (ways_back w k b (o + 16 + n * 16))) (ways_parted n k (o + 16)) $ split ! $ move ! (2 ∷ 0 ∷ []) $ fjoin ! $ move ! (1 ∷ []) $
      rewrite ! 0 (λ (j : ℕ). ‵ (ways_back w k b j)) {x = o + suc n * 16} {y = o + 16 + n * 16} (let e : o + 16 + n * 16 ≡ o + suc n * 16 = omega arith in e) refl $
      move ! (1 ∷ 0 ∷ []) $ done !

  pub ways-part : (m k o : ℕ) → m % 16 ≡ 0 → ent 𝓤 (sem 𝓛 (ways_back w ((m + k) / 16) b o)) (sep 𝓤 (sem 𝓛 (ways_back w (m / 16) b o)) (sem 𝓛 (ways_back w (k / 16) b (o + m))))
  ways-part m k o e =
      subst (λ (j : ℕ). ent 𝓤 (sem 𝓛 (ways_back w j b o)) (sep 𝓤 (sem 𝓛 (ways_back w (m / 16) b o)) (sem 𝓛 (ways_back w (k / 16) b (o + m)))))
      (let f : m / 16 + k / 16 ≡ (m + k) / 16 = omega (arith, e) in f)
      (subst (λ (j : ℕ). ent 𝓤 (sem 𝓛 (ways_back w (m / 16 + k / 16) b o)) (sep 𝓤 (sem 𝓛 (ways_back w (m / 16) b o)) (sem 𝓛 (ways_back w (k / 16) b (o + j))))) (whole_units m e)
      (ways_parted (m / 16) (k / 16) o))

  -- ---- room for a type of the alignment

  module _ (τ : Ty) (x o : ℕ) (sized : size τ ≡ x) (aligned : align τ ≡ bytes w) where
    fits : x % bytes w ≡ 0
    fits = subst (λ (u : ℕ × ℕ). u.0 % u.1 ≡ 0) (λ i. (sized i, aligned i)) (dv→ (align τ) (size τ) (align_size τ))

    pub typed : ent 𝓤 (Bytes x o) (H.room τ b o)
    typed =
        via 𝓤 (sep 𝓤 (H.room τ b o) (wand 𝓤 (H.room τ b o) (Bytes x o)))
        (𝓛.laws.room_as (grains w (x / bytes w)) τ b o (sized ∙ sym (exact w x fits)) (subst (λ (k : ℕ). Dv k (bytes w)) (sym aligned) (dv_self (bytes w))))
        (fst∗ 𝓤 (H.room τ b o) (wand 𝓤 (H.room τ b o) (Bytes x o)))

    pub untyped : ent 𝓤 (H.room τ b o) (Bytes x o)
    untyped =
        via 𝓤 (sep 𝓤 (Bytes x o) (wand 𝓤 (Bytes x o) (H.room τ b o)))
        (𝓛.laws.room_as τ (grains w (x / bytes w)) b o (exact w x fits ∙ sym sized) (subst (λ (k : ℕ). Dv (bytes w) k) (sym aligned) (dv_self (bytes w))))
        (fst∗ 𝓤 (Bytes x o) (wand 𝓤 (Bytes x o) (H.room τ b o)))

-- ---- a block

module _ {M : Type 1} {𝓤 : Ura M} (𝓛 : Logic 𝓤) (τ : Ty) (b o m : ℕ) (short : size τ ≤ m) (units : m % 16 ≡ 0) where
  open 𝓛 use {H}

  abbrev wide : Width
  wide = align_w τ

  n-whole : size τ % bytes wide ≡ 0
  n-whole = subst (λ (k : ℕ). size τ % k ≡ 0) (align-bytes τ) (dv→ (align τ) (size τ) (align_size τ))

  total : size τ + (m - size τ) ≡ m
  total = omega (arith, short)

  -- the units of a payload are room for a type, and what the block has beside it
  pub handed : ent 𝓤 (H.room (units_ty (m / 16)) b o) (sep 𝓤 (H.room τ b o) (sem 𝓛 (beside_value wide (size τ) m (block_ptr b o))))
  handed =
      qed 𝓛 (raw (H.room (units_ty (m / 16)) b o) ∷ []) ∵
      use1 𝓛 (raw (Bytes 𝓛 wide b m o) ⊛ ‵ (ways_back wide (m / 16) b o)) (opens 𝓛 wide b m o units) $ split ! $
      rewrite ! 0 (λ (k : ℕ). raw (Bytes 𝓛 wide b k o)) (sym total) refl $
      use1 𝓛 (raw (Bytes 𝓛 wide b (size τ) o) ⊛ ‵ (froom (grains wide ((m - size τ) / bytes wide)) b (o + size τ))) (cuts 𝓛 wide b (size τ) (m - size τ) o n-whole) $ split ! $
      use1 𝓛 (raw (H.room τ b o)) (typed 𝓛 wide b τ (size τ) o refl (align-bytes τ)) $ move ! (1 ∷ 2 ∷ []) $ fjoin ! $ move ! (1 ∷ 0 ∷ []) $ done !

  -- and back
  pub returned : ent 𝓤 (sep 𝓤 (H.room τ b o) (sem 𝓛 (beside_value wide (size τ) m (block_ptr b o)))) (H.room (units_ty (m / 16)) b o)
  returned =
      qed 𝓛 (raw (H.room τ b o) ∷ ‵ (beside_value wide (size τ) m (block_ptr b o)) ∷ []) ∵
      use1 𝓛 (raw (Bytes 𝓛 wide b (size τ) o)) (untyped 𝓛 wide b τ (size τ) o refl (align-bytes τ)) $ move ! (1 ∷ []) $ fsplit ! $ move ! (2 ∷ 0 ∷ []) $
      use2 𝓛 (raw (Bytes 𝓛 wide b (size τ + (m - size τ)) o)) (glues 𝓛 wide b (size τ) (m - size τ) o n-whole) $
      rewrite ! 0 (λ (k : ℕ). raw (Bytes 𝓛 wide b k o)) total refl $ by ! (closes 𝓛 wide b m o units)

-- ---- the two cases of what `take` returns, and a payload as room for a type. Assumes `Logic`

abbrev pub Taken : RattleType
Taken = option.the_row payload.the_row

abbrev pub Told : Identity → ℕ → ℕ → Taken.Denot → Type 0
Told r n a x = IfSome x (λ p. IsCompleteOf p r × (p.len ≡ payload_len n) × (n < 2 ^ 63) × (a ≤ 16))

pub holds : (n : ℕ) → n ≤ payload_len n
holds n = omega arith

pub whole : (n : ℕ) → payload_len n % 16 ≡ 0
whole n = omega arith

-- the units of a payload for n bytes are room for a type of that size, and what the block has beside it is in its token
pub hands_out : {M : Type 1} {𝓤 : Ura M} (𝓛 : Logic 𝓤) (r : Identity) (τ : Ty) (b o start key n a : ℕ) → capped (size τ) ≡ n → capped (align τ) ≡ a
    → IsUnitPointer r.home (block_ptr b o) start (payload_len n) → n < 2 ^ 63 → a ≤ 16
    → ent 𝓤 (sep 𝓤 (sem 𝓛 (ticket_owns r.ledger key (extent start (payload_len n) 16))) (sem 𝓛 (froom (units_ty (payload_len n / 16)) b o)))
    (sep 𝓤 (𝓛.H.room τ b o) (sem 𝓛 (block_token r τ (block_ptr b o))))
hands_out {𝓤 = 𝓤} 𝓛 r τ b o start key n a sized aligned placed small slim =
    let p : Ptr = block_ptr b o in
    let short : size τ < 2 ^ 63 = capped_small (size τ) (omega arith) in
    let same : n ≡ size τ = sym sized ∙ capped_is (size τ) (omega arith) in
    let m = payload_len (size τ) in
    let is : IsUnitPointer r.home p start m = subst (λ (k : ℕ). IsUnitPointer r.home p start (payload_len k)) same placed in
    qed 𝓛 (‵ (ticket_owns r.ledger key (extent start (payload_len n) 16)) ∷ ‵ (froom (units_ty (payload_len n / 16)) b o) ∷ []) ∵
    rewrite ! 0 (λ (k : ℕ). ‵ (ticket_owns r.ledger key (extent start (payload_len k) 16))) same refl $
    rewrite ! 1 (λ (k : ℕ). ‵ (froom (units_ty (payload_len k / 16)) b o)) same refl $ move ! (1 ∷ []) $
    use1 𝓛 (‵ (froom τ b o) ⊛ ‵ (beside_value (align_w τ) (size τ) m p)) (handed 𝓛 τ b o m (holds (size τ)) (whole (size τ))) $ split ! $ frame ! $
    move ! (1 ∷ 0 ∷ []) $ fjoin ! $
    fpack ! (IsUnitPointer r.home p start m × (size τ < 2 ^ 63)) (λ _. fsep (ticket_owns r.ledger key (extent start m 16)) (beside_value (align_w τ) (size τ) m p))
    (is, short) $
    fpack ! ℕ (λ k. fex (IsUnitPointer r.home p start m × (size τ < 2 ^ 63))
    (λ _. fsep (ticket_owns r.ledger k (extent start m 16)) (beside_value (align_w τ) (size τ) m p))) key $
    fpack ! ℕ (λ j. fex ℕ (λ k. fex (IsUnitPointer r.home p j m × (size τ < 2 ^ 63))
    (λ _. fsep (ticket_owns r.ledger k (extent j m 16)) (beside_value (align_w τ) (size τ) m p)))) start $ done !

module _ {M : Type 1} {𝓤 : Ura M} {𝓛 : Logic 𝓤} {K : Type 0} {Γ : List (Item 𝓤)} {G : Goal 𝓤 𝓛.H} where
  pub taken : K → (r : Identity) (n a : ℕ) (x : Taken.Denot) (v : Val) → Told r n a x
      → ((b o start key : ℕ) → IsUnitPointer r.home (block_ptr b o) start (payload_len n) → payload_len n < 2 ^ 64 → n < 2 ^ 63 → a ≤ 16
      → v ≡ live 1 (vcons (spot_val (block_ptr b o) (payload_len n)) vnil)
      → Seq K 𝓛 (‵ (ticket_owns r.ledger key (extent start (payload_len n) 16)) ∷ ‵ (froom (units_ty (payload_len n / 16)) b o) ∷ Γ) G)
      → (v ≡ live 0 vnil → Seq K 𝓛 Γ G) → Seq K 𝓛 (‵ (Taken.own_val x (v ∷ [])) ∷ Γ) G
  taken t r n a None v told some none =
      fpick t (λ us. fsplit t $ feq_l t (λ is. fpick t (λ vss. fsplit t $ feq_l t (λ is'. drop t $ none (ap only is ∙ ap (λ (ws : List Val). live 0 (of_list ws)) is')))))
  taken t r n a (Some w) v told some none =
      fpick t (λ us. fsplit t $
      feq_l t (λ is. fpick t (λ vss. fsplit t $ feq_l t (λ is'. fsplit t $ move t (1 ∷ []) $ drop t $ fsplit t $ pure_l t (spot_own w.ptr w.len vss.0) (λ s.
      let parts = spot_told w.ptr w.len vss.0 s in
      fsplit t $ move t (1 ∷ []) $ rewrite t 0 (λ (F : Fml). ‵ F) (room-complete w.ptr w.len w.kept told.0.1) refl $
      in_a_block t w.ptr (λ p. room_for (units_ty (w.len / 16)) p) (id⊢ 𝓤 (never 𝓤)) (λ b o e.
      rewrite t 0 (λ (k : ℕ). ‵ (froom (units_ty (k / 16)) b o)) told.1 refl $ move t (1 ∷ []) $
      rewrite t 0 (λ (u : ℕ × ℕ). ‵ (ticket_owns u.0 w.key (extent w.start u.1 16))) (λ i. ((told.0.0 i).ledger, told.1 i)) refl $
      some b o w.start w.key (subst (λ (u : Home × Ptr × ℕ). IsUnitPointer u.0 u.1 w.start u.2) (λ i. ((told.0.0 i).home, e i, told.1 i)) w.placed)
      (subst (λ (k : ℕ). k < 2 ^ 64) told.1 parts.1) told.2 told.3
      (ap only is ∙ ap (λ (xs : List Val). live 1 (of_list xs)) (is' ∙ ap (λ (xs : List Val). xs ++ []) parts.0)
      ∙ (λ i. live 1 (vcons (spot_val (e i) (told.1 i)) vnil)))))))))

-- ---- a block gets more units behind it, or gives up the last ones, while values are in its first places. Assumes `Logic`

longer : (n k : ℕ) → n ≤ k → payload_len n ≤ payload_len k
longer n k le = omega (arith, le)

module _ (E : El) where
  abbrev τ : Ty
  τ = layout E.row

  abbrev s : ℕ
  s = size τ

  abbrev pub block_type : ℕ → Ty
  block_type n = bare (ty_array τ n)

  pub block_size : (n : ℕ) → size (block_type n) ≡ n * s
  block_size n = size-raw (ty_array τ n)

  -- the payload of an array
  abbrev pub array_len : ℕ → ℕ
  array_len n = payload_len (size (block_type n))

  module _ {M : Type 1} {𝓤 : Ura M} (𝓛 : Logic 𝓤) where
    open 𝓛 use {H}

    -- the places of the values, and those after them
    pub emptied : (len cap b o : ℕ) → len ≤ cap → ent 𝓤 (sep 𝓤 (H.room (ty_array τ len) b o) (H.room (block_type (cap - len)) b (o + len * s))) (H.room (block_type cap) b o)
    emptied len cap b o within =
        qed 𝓛 (raw (H.room (ty_array τ len) b o) ∷ ‵ (froom (block_type (cap - len)) b (o + len * s)) ∷ []) ∵ move ! (1 ∷ []) $
        use1 𝓛 (raw (H.room (ty_array τ (cap - len)) b (o + len * s))) (𝓛.laws.raw-room (ty_array τ (cap - len)) b (o + len * s)) $ move ! (1 ∷ 0 ∷ []) $
        use2 𝓛 (raw (H.room (ty_array τ cap) b o)) (glued E 𝓛 len (cap - len) cap b o (omega (arith, within))) $ by ! (𝓛.laws.room-raw (ty_array τ cap) b o)

    pub parted : (len cap b o : ℕ) → len ≤ cap → ent 𝓤 (H.room (block_type cap) b o) (sep 𝓤 (H.room (ty_array τ len) b o) (H.room (block_type (cap - len)) b (o + len * s)))
    parted len cap b o within =
        qed 𝓛 (‵ (froom (block_type cap) b o) ∷ []) ∵ use1 𝓛 (raw (H.room (ty_array τ cap) b o)) (𝓛.laws.raw-room (ty_array τ cap) b o) $
        use1 𝓛 (raw (H.room (ty_array τ len) b o) ⊛ raw (H.room (ty_array τ (cap - len)) b (o + len * s))) (room_split E 𝓛 len cap b o within) $ split ! $ move ! (1 ∷ []) $
        use1 𝓛 (‵ (froom (block_type (cap - len)) b (o + len * s))) (𝓛.laws.room-raw (ty_array τ (cap - len)) b (o + len * s)) $ move ! (1 ∷ 0 ∷ []) $ done !

  module _ {M : Type 1} {𝓤 : Ura M} (𝓛 : Logic 𝓤) (len old new b o : ℕ) (le : len ≤ old) (le' : old ≤ new) where
    open 𝓛 use {H}

    abbrev w : Width
    w = align_w (block_type old)

    abbrev n : ℕ
    n = size (block_type old)

    abbrev n' : ℕ
    n' = size (block_type new)

    abbrev m : ℕ
    m = array_len old

    abbrev m' : ℕ
    m' = array_len new

    abbrev B : ℕ → ℕ → SProp 𝓤
    B = Bytes 𝓛 w b

    abbrev place : ℕ
    place = o + len * s

    more : n' ≡ n + (new - old) * s
    more = block_size new ∙ ap (λ (k : ℕ). k * s) (let e : new ≡ old + (new - old) = omega (arith, le') in e) ∙ add_times old (new - old) s
        ∙ ap (λ (k : ℕ). k + (new - old) * s) (sym (block_size old))

    spread : n ≡ len * s + (old - len) * s
    spread = block_size old ∙ ap (λ (k : ℕ). k * s) (let e : old ≡ len + (old - len) = omega (arith, le) in e) ∙ add_times len (old - len) s

    grows : n ≤ n'
    grows = omega (arith, more)

    pub lengthens : m ≤ m'
    lengthens = longer n n' grows

    divides : (k : ℕ) → size (block_type k) % bytes w ≡ 0
    divides k = subst (λ (j : ℕ). size (block_type k) % j ≡ 0) (align-bytes (block_type k)) (dv→ (align (block_type k)) (size (block_type k)) (align_size (block_type k)))

    gap : (m - n) % bytes w ≡ 0
    gap = differs w m n (sixteens w m (whole n)) (divides old)

    gained : (n' - n) % bytes w ≡ 0
    gained = differs w n' n (divides new) (divides old)

    units : (m' - m) % 16 ≡ 0
    units = omega (arith, whole n, whole n', lengthens)

    added : size (block_type (new - old)) ≡ n' - n
    added = block_size (new - old) ∙ (let e : (new - old) * s ≡ n' - n = omega (arith, more) in e)

    -- the parts of the longer block, as bytes
    one : m - n + (m' - m) ≡ n' - n + (m' - n')
    one = omega (arith, holds n, holds n', lengthens, grows)

    at-m : o + n + (m - n) ≡ o + m
    at-m = omega (arith, holds n)

    at-n' : o + n + (n' - n) ≡ o + n'
    at-n' = omega (arith, grows)

    all : m + (m' - m) ≡ m'
    all = omega (arith, lengthens)

    at-n : place + (old - len) * s ≡ o + n
    at-n = omega (arith, spread)

    counts : old - len + (new - old) ≡ new - len
    counts = omega (arith, le, le')

    -- with these units, the block is longer
    pub stretched : ent 𝓤
        (sep 𝓤 (H.room (block_type (old - len)) b place) (sep 𝓤 (sem 𝓛 (beside_value w n m (block_ptr b o))) (H.room (units_ty ((m' - m) / 16)) b (o + m))))
        (sep 𝓤 (H.room (block_type (new - len)) b place) (sem 𝓛 (beside_value w n' m' (block_ptr b o))))
    stretched =
        qed 𝓛 (‵ (froom (block_type (old - len)) b place) ∷ ‵ (beside_value w n m (block_ptr b o)) ∷ ‵ (froom (units_ty ((m' - m) / 16)) b (o + m)) ∷ []) ∵
        move ! (1 ∷ []) $ fsplit ! $ move ! (3 ∷ []) $
        -- [the units; the gap; its ways; the room]
        use1 𝓛 (raw (B (m' - m) (o + m)) ⊛ ‵ (ways_back w ((m' - m) / 16) b (o + m))) (opens 𝓛 w b (m' - m) (o + m) units) $ split ! $ move ! (3 ∷ 1 ∷ []) $
        use2 𝓛 (‵ (ways_back w ((m + (m' - m)) / 16) b o)) (ways-join 𝓛 w b m (m' - m) o (whole n)) $
        rewrite ! 0 (λ (k : ℕ). ‵ (ways_back w (k / 16) b o)) all refl $ move ! (2 ∷ 1 ∷ []) $
        -- [the gap; the new bytes; the ways; the room]
        rewrite ! 1 (λ (k : ℕ). raw (B (m' - m) k)) (sym at-m) refl $
        use2 𝓛 (raw (B (m - n + (m' - m)) (o + n))) (glues 𝓛 w b (m - n) (m' - m) (o + n) gap) $
        rewrite ! 0 (λ (k : ℕ). raw (B k (o + n))) one refl $
        use1 𝓛 (raw (B (n' - n) (o + n)) ⊛ raw (B (m' - n') (o + n + (n' - n)))) (cuts 𝓛 w b (n' - n) (m' - n') (o + n) gained) $ split ! $
        use1 𝓛 (‵ (froom (block_type (new - old)) b (o + n))) (typed 𝓛 w b (block_type (new - old)) (n' - n) (o + n) added (align-bytes (block_type (new - old)))) $
        use1 𝓛 (‵ (froom (ty_array τ (new - old)) b (o + n))) (𝓛.laws.raw-room (ty_array τ (new - old)) b (o + n)) $
        rewrite ! 0 (λ (k : ℕ). ‵ (froom (ty_array τ (new - old)) b k)) (sym at-n) refl $ move ! (3 ∷ []) $
        use1 𝓛 (‵ (froom (ty_array τ (old - len)) b place)) (𝓛.laws.raw-room (ty_array τ (old - len)) b place) $
        use2 𝓛 (‵ (froom (ty_array τ (new - len)) b place)) (glued E 𝓛 (old - len) (new - old) (new - len) b place counts) $
        use1 𝓛 (‵ (froom (block_type (new - len)) b place)) (𝓛.laws.room-raw (ty_array τ (new - len)) b place) $
        -- [the room; the gap; the ways]
        move ! (1 ∷ []) $ rewrite ! 0 (λ (k : ℕ). raw (B (m' - n') k)) at-n' refl $
        use1 𝓛 (‵ (froom (grains w ((m' - n') / bytes w)) b (o + n'))) (id⊢ 𝓤 _) $ move ! (0 ∷ 2 ∷ []) $ fjoin ! $ move ! (1 ∷ 0 ∷ []) $ done !

    -- and back: the block is shorter, and these units are left over
    pub shortened : ent 𝓤 (sep 𝓤 (H.room (block_type (new - len)) b place) (sem 𝓛 (beside_value w n' m' (block_ptr b o))))
        (sep 𝓤 (H.room (block_type (old - len)) b place) (sep 𝓤 (sem 𝓛 (beside_value w n m (block_ptr b o))) (H.room (units_ty ((m' - m) / 16)) b (o + m))))
    shortened =
        let fewer : new - len - (old - len) ≡ new - old = omega (arith, le, le') in
        qed 𝓛 (‵ (froom (block_type (new - len)) b place) ∷ ‵ (beside_value w n' m' (block_ptr b o)) ∷ []) ∵
        use1 𝓛 (‵ (froom (ty_array τ (new - len)) b place)) (𝓛.laws.raw-room (ty_array τ (new - len)) b place) $
        use1 𝓛 (‵ (froom (ty_array τ (old - len)) b place) ⊛ ‵ (froom (ty_array τ (new - len - (old - len))) b (place + (old - len) * s)))
        (room_split E 𝓛 (old - len) (new - len) b place (omega (arith, le, le'))) $ split ! $
        use1 𝓛 (‵ (froom (block_type (old - len)) b place)) (𝓛.laws.room-raw (ty_array τ (old - len)) b place) $ move ! (1 ∷ []) $
        rewrite ! 0 (λ (u : ℕ × ℕ). ‵ (froom (ty_array τ u.0) b u.1)) (λ i. (fewer i, at-n i)) refl $
        use1 𝓛 (‵ (froom (block_type (new - old)) b (o + n))) (𝓛.laws.room-raw (ty_array τ (new - old)) b (o + n)) $
        use1 𝓛 (raw (B (n' - n) (o + n))) (untyped 𝓛 w b (block_type (new - old)) (n' - n) (o + n) added (align-bytes (block_type (new - old)))) $
        -- [the last places; the room; what is beside]
        move ! (2 ∷ []) $ fsplit ! $ rewrite ! 0 (λ (k : ℕ). ‵ (froom (grains w ((m' - n') / bytes w)) b k)) (sym at-n') refl $ move ! (2 ∷ 0 ∷ []) $
        use2 𝓛 (raw (B (n' - n + (m' - n')) (o + n))) (glues 𝓛 w b (n' - n) (m' - n') (o + n) gained) $
        rewrite ! 0 (λ (k : ℕ). raw (B k (o + n))) (sym one) refl $
        use1 𝓛 (‵ (froom (grains w ((m - n) / bytes w)) b (o + n)) ⊛ raw (B (m' - m) (o + n + (m - n)))) (cuts 𝓛 w b (m - n) (m' - m) (o + n) gap) $ split ! $
        -- [the gap; the bytes behind; the ways; the room]
        move ! (2 ∷ []) $ rewrite ! 0 (λ (k : ℕ). ‵ (ways_back w (k / 16) b o)) (sym all) refl $
        use1 𝓛 (‵ (ways_back w (m / 16) b o) ⊛ ‵ (ways_back w ((m' - m) / 16) b (o + m))) (ways-part 𝓛 w b m (m' - m) o (whole n)) $ split ! $
        move ! (2 ∷ 0 ∷ []) $ fjoin ! $ move ! (2 ∷ 1 ∷ []) $
        rewrite ! 0 (λ (k : ℕ). raw (B (m' - m) k)) at-m refl $
        use2 𝓛 (‵ (froom (units_ty ((m' - m) / 16)) b (o + m))) (closes 𝓛 w b (m' - m) (o + m) units) $ move ! (2 ∷ 1 ∷ 0 ∷ []) $ done !

-- ---- room for units is room for a memory of their bytes, and back. Assumes `Logic`

module _ {M : Type 1} {𝓤 : Ura M} (𝓛 : Logic 𝓤) (b o start len : ℕ) (grid : start % 16 ≡ 0) (whole : len % 16 ≡ 0) where
  abbrev count : ℕ
  count = len / 16

  abbrev begins : ℕ → Bool
  begins = begins_in 0 len

  many : units_from start len ≡ count
  many = units_in-aligned start 0 len grid ∙ (let e : (0 + len + 15) / 16 ≡ len / 16 = omega (arith, whole) in e)

  sized : count * 16 ≡ len
  sized = omega (arith, whole)

  each : ways_of begins 0 count b o ≡ ways count b o
  each = ways_all 𝓛 b begins 0 count o o (omega arith) (λ v lo hi. in_run-yes 0 len (v * 16) (omega (arith, lo)) (omega (arith, hi, whole)))

  pub units-lent : ent 𝓤 (𝓛.H.room (units_ty count) b o) (sem 𝓛 (room_at (block_ptr b o) start len))
  units-lent = qed 𝓛 (raw (𝓛.H.room (units_ty count) b o) ∷ []) ∵
      use1 𝓛 (‵ (froom (bytes_ty (count * 16)) b o) ⊛ ‵ (ways count b o)) (opened_bytes 𝓛 b count o) $ split ! $
      rewrite ! 0 (λ (k : ℕ). ‵ (froom (bytes_ty k) b o)) sized refl $
      rewrite ! 1 (λ (F : Fml). ‵ F) (sym each) refl $
      rewrite ! 1 (λ (k : ℕ). ‵ (ways_of begins 0 k b o)) (sym many) refl $ fjoin ! $ done !

  pub units-returned : ent 𝓤 (sem 𝓛 (room_at (block_ptr b o) start len)) (𝓛.H.room (units_ty count) b o)
  units-returned = qed 𝓛 (‵ (room_at (block_ptr b o) start len) ∷ []) ∵ fsplit ! $
      rewrite ! 0 (λ (k : ℕ). ‵ (froom (bytes_ty k) b o)) (sym sized) refl $
      rewrite ! 1 (λ (k : ℕ). ‵ (ways_of begins 0 k b o)) many refl $
      rewrite ! 1 (λ (F : Fml). ‵ F) each refl $
      use2 𝓛 (‵ (froom (units_ty count) b o)) (closed_bytes 𝓛 b count o) $ done !

-- ---- the machine values of a block for some values: what is owned determines them, and is made of nothing. Assumes `Logic`

abbrev pub list_val : Ptr → Val
list_val p0 = vstruct (vcons (ptr_val p0) (vcons (vstruct vnil) vnil))

abbrev pub list_own : Ptr → List Val → Fml
list_own p0 = (plainly (RawPtr ∷ plainly [] ∷ [])).own_val (p0, (tt, tt))

pub list_told : (p0 : Ptr) (vs : List Val) → shadow (list_own p0 vs) → (vs ≡ list_val p0 ∷ []) × Unit {0}
list_told p0 vs s = (s.1.0 ∙ (λ i. vstruct (of_list (s.1.1.0 i ++ (s.1.1.1.0.1.0 i ++ []))) ∷ []), tt)

pub list_made : {M : Type 1} {𝓤 : Ura M} (𝓛 : Logic 𝓤) (p0 : Ptr) → Unit {0} → ent 𝓤 (emp 𝓤) (sem 𝓛 (list_own p0 (list_val p0 ∷ [])))
list_made 𝓛 p0 f =
    makes_shadow 𝓛 (list_own p0 (list_val p0 ∷ [])) (λ _. (tt, (tt, ((λ _. (tt, tt)), tt))))
    ((ptr_val p0 ∷ [], (vstruct vnil ∷ [], tt)), (refl, (refl, ((tt, (refl, tt)), tt))))
