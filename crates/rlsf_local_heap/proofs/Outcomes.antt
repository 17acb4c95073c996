-- What follows from a call that may return nothing, or an error.
use Rattle.std.proofs.Common.{◌≡◌, ◌≢◌, ℕ, Option, Some, None, Result, Ok, Err, IfSome, IfNone, IfOk, IfErr, IsSome, IsNone, MatchResult, is_ok, refl, true≢false, sym, ap, ◌∙◌}
use Rattle.rlsf_base.specs.declared.memory.unit_payload.UnitPayload.{UnitPayload}
use Rattle.rlsf_model.specs.Callers.{align_at}
use Rattle.rlsf_model.specs.State.{State}
use Rattle.rlsf_base.specs.declared.memory.range.Range.{Range}
use Rattle.rlsf_heap.specs.Heap.{HeapView}
use Rattle.rlsf_heap.specs.Kept.{NoneBecomesRawBeside}
use Rattle.rlsf_heap.specs.Frame.{KeepsFrameBeside}
use Rattle.rlsf_heap.specs.Units.{IsUnitRefused, IsUnitResized, identity_of, payload_len, unit_addr_of}
use Rattle.rlsf_heap.proofs.Kept.{heap_same}
use Rattle.rlsf_local_heap.specs.Resized.{IsAtSamePlace}

pub each_result : {A B : Type 0} {Is Has : A → Type 0} {Was Had : B → Type 0} (r : Result A B) → ((x : A) → Is x → Has x) → ((y : B) → Was y → Had y)
    → MatchResult r Is Was → MatchResult r Has Had
each_result (Ok x) f g is = f x is
each_result (Err y) f g is = g y is

pub ok_is_no_error : {A B : Type 0} {x : A} {y : B} → Ok x ≡ Err y → ⊥
ok_is_no_error e = true≢false (ap is_ok e)

-- of a result that is made of a value, and is there only if the value is
pub made_of : {A B : Type 0} {Is : A → Type 0} {Ties : A → B → Type 0} {Has : B → Type 0} (o : Option A) (r : Option B) → IfNone o (IsNone r)
    → IfSome o (λ x. IfSome r (Ties x)) → ((x : A) (y : B) → Ties x y → Is x → Has y) → IfSome o Is → IfSome r Has
made_of None None none ties f is = tt
made_of None (Some y) none ties f is = absurd (true≢false none)
made_of (Some x) None none ties f is = tt
made_of (Some x) (Some y) none ties f is = f x y ties is

-- of a result that is there whenever the value is
pub not_made : {A B : Type 0} (Is : Type 0) (o : Option A) (r : Option B) → IfSome o (λ x. IsSome r) → IfNone o Is → IfNone r Is
not_made Is None None some is = is
not_made Is None (Some y) some is = tt
not_made Is (Some x) None some is = absurd (true≢false (sym some))
not_made Is (Some x) (Some y) some is = tt

-- what holds of the address of a payload, if there is one
pub at_address : (Is : Option ℕ → Type 0) (o : Option UnitPayload) → Is (unit_addr_of o) → IfSome o (λ p. Is (Some p.start))
at_address Is None is = tt
at_address Is (Some p) is = is

-- other payloads keep their alignments, whether one was allocated or not
pub others_stay : (s t : State) (o : Option UnitPayload) → IfSome o (λ p. align_at s p.start ≡ None)
    → IfSome o (λ p. (a : ℕ) → a ≢ p.start → align_at t a ≡ align_at s a) → IfNone o (t ≡ s) → (a : ℕ) → align_at s a ≢ None → align_at t a ≡ align_at s a
others_stay s t None new aligns same a live = ap (λ (u : State). align_at u a) same
others_stay s t (Some p) new aligns same a live = aligns a (λ e. live (ap (align_at s) e ∙ new))

-- what is so of two values by two facts
pub both : {A B : Type 0} (P Q : A → B → Type 0) (o : Option A) (r : Option B) → IfSome o (λ x. IfSome r (P x)) → IfSome o (λ x. IfSome r (Q x))
    → IfSome o (λ x. IfSome r (λ y. P x y × Q x y))
both P Q None r is has = tt
both P Q (Some x) None is has = tt
both P Q (Some x) (Some y) is has = (is, has)

-- a heap that doesn't change is kept
pub frame_beside-same : (v : HeapView) (r : Range) → KeepsFrameBeside v v r
unfolding NoneBecomesRawBeside
frame_beside-same v r = record { heap = heap_same v; raw = λ a from side is. is; chunks = refl; copied = refl }

-- a payload of units that has another size, or not, is at the same place
pub stays_there : (old new : HeapView) (r : Result UnitPayload UnitPayload) (was : UnitPayload) (size : ℕ) → identity_of was ≡ old.identity
    → IfOk r (IsUnitResized old new was size) → IfErr r (IsUnitRefused old new was)
    → MatchResult r (λ p. IsAtSamePlace was p (payload_len size)) (λ p. IsAtSamePlace was p was.len)
stays_there old new (Ok p) was size heap is none = let t = is.place in (t.identity ∙ sym heap, t.start, t.ptr, t.kept, t.long)
stays_there old new (Err p) was size heap none is = let t = is.place in (t.identity ∙ sym heap, t.start, t.ptr, t.kept, t.long)
