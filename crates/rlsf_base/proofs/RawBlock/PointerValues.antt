-- A pointer and a length as machine values: what is owned determines them, and is made of nothing. And the room that a payload owns at its pointer. Assumes `Logic`.
use Rattle.std.proofs.Common.{◌≡◌, ℕ, ◌+◌, ◌-◌, ◌/◌, ◌^◌, ◌<◌, List, [], ◌∷◌, ◌++◌, refl, ap, ◌∙◌, arith, lit<, w64}
use seplogic.Ra.Ura.{Ura}
use mir.Syntax.{ty_int, ty_ptr, ty_struct, tcons, tnil}
use mir.Val.{Val, vint, vstruct, vcons, vnil, of_list}
use base.Logic.{ent, emp}
use base.Fml.{Fml}
use types.Logic.{Logic, sem}
use denote.Builtin.{usize}
use denote.RawPtr.{Ptr, RawPtr, block_ptr, null_ptr, ptr_val, room_for, ◌+ₚ◌}
use denote.Shadow.{shadow, makes_shadow}
use Rattle.core.proofs.cell.Inside.{Good}
use Rattle.rlsf_base.specs.Steps.Ownership.{units_ty}
use Rattle.rlsf_base.specs.declared.memory.view.View.{View}
use Rattle.rlsf_base.proofs.RawBlock.Values.{base_val, plainly}

abbrev pub spot_val : Ptr → ℕ → Val
spot_val p n = vstruct (vcons (ptr_val p) (vcons (vint w64 n) vnil))

abbrev pub spot_own : Ptr → ℕ → List Val → Fml
spot_own p n = (plainly (RawPtr ∷ usize ∷ [])).own_val (p, (n, tt))

pub spot_told : (p : Ptr) (n : ℕ) (vs : List Val) → shadow (spot_own p n vs) → (vs ≡ spot_val p n ∷ []) × (n < 2 ^ 64)
spot_told p n vs s = (s.1.0 ∙ (λ i. vstruct (of_list (s.1.1.0 i ++ (s.1.1.1.0.0 i ++ []))) ∷ []), s.1.1.1.0.1)

pub spot_made : {M : Type 1} {𝓤 : Ura M} (𝓛 : Logic 𝓤) (p : Ptr) (n : ℕ) → (n < 2 ^ 64) → ent 𝓤 (emp 𝓤) (sem 𝓛 (spot_own p n (spot_val p n ∷ [])))
spot_made 𝓛 p n f =
    makes_shadow 𝓛 (spot_own p n (spot_val p n ∷ [])) (λ _. (tt, (tt, ((tt, tt), tt)))) ((ptr_val p ∷ [], (vint w64 n ∷ [], tt)), (refl, (refl, ((refl, f), tt))))

pub spot_typed : (p : Ptr) (n : ℕ) → (n < 2 ^ 64) → Good (ty_struct [] (tcons ty_ptr (tcons (ty_int w64) tnil))) (spot_val p n)
spot_typed (block_ptr b o) n f = (tt, (tt, (record { fits = f }, tt)))
spot_typed null_ptr n f = (tt, (record { fits = lit< tt }, (record { fits = f }, tt)))

pub ptr_typed : (p : Ptr) → Good ty_ptr (ptr_val p)
ptr_typed (block_ptr b o) = (tt, tt)
ptr_typed null_ptr = (tt, record { fits = lit< tt })

-- a pointer is at its own place
pub unmoved : (p : Ptr) → p +ₚ 0 ≡ p
unmoved (block_ptr b o) = let e : o + 0 ≡ o = omega arith in ap (λ (k : ℕ). block_ptr b k) e
unmoved null_ptr = refl

-- a payload of which nothing is kept owns the room of all of its units
pub room-complete : (p : Ptr) (len kept : ℕ) → kept ≡ 0 → room_for (units_ty ((len - kept) / 16)) (p +ₚ kept) ≡ room_for (units_ty (len / 16)) p
room-complete p len kept none =
    let all : len - kept ≡ len = omega (arith, none) in (λ i. room_for (units_ty (all i / 16)) (p +ₚ none i)) ∙ ap (λ (q : Ptr). room_for (units_ty (len / 16)) q) (unmoved p)

-- the view of a memory: a struct of a pointer, and a number
abbrev pub view_val : Ptr → ℕ → Val
view_val p n = vstruct (vcons (base_val p) (vcons (vint w64 n) vnil))

abbrev view_own : Ptr → ℕ → List Val → Fml
view_own p n = (plainly (plainly (RawPtr ∷ []) ∷ usize ∷ [])).own_val ((p, tt), (n, tt))

pub view_told : (p : Ptr) (n : ℕ) (vs : List Val) → shadow (view_own p n vs) → n < 2 ^ 64
view_told p n vs s = s.1.1.1.0.1

pub view_typed : (p : Ptr) (n : ℕ) → (n < 2 ^ 64) → Good (ty_struct [] (tcons (ty_struct [] (tcons ty_ptr tnil)) (tcons (ty_int w64) tnil))) (view_val p n)
view_typed (block_ptr b o) n f = (tt, ((tt, tt), (record { fits = f }, tt)))
view_typed null_ptr n f = (tt, ((record { fits = lit< tt }, tt), (record { fits = f }, tt)))

pub view_fits : (v : View) → shadow (view_own v.base.ptr v.shift (view_val v.base.ptr v.shift ∷ []))
    → Good (ty_struct [] (tcons (ty_struct [] (tcons ty_ptr tnil)) (tcons (ty_int w64) tnil))) (view_val v.base.ptr v.shift)
view_fits v s = view_typed v.base.ptr v.shift (view_told v.base.ptr v.shift (view_val v.base.ptr v.shift ∷ []) s)
