-- What a size is refused for before the allocator is asked: no payload lives at the address, or there is no such layout.
use Rattle.std.proofs.Common.{◌≡◌, ◌≤◌, ℕ, Option, None, Some, IfSome, Result, Err, IfErr, true, false, arith, refl, sym, ◌∙◌, subst}
use Rattle.std.proofs.lemmas.Bool.{false≢true}
use Rattle.std.proofs.lemmas.Option.{none-some}
use Rattle.rlsf_base.specs.declared.memory.layout.Layout.{Layout}
use Rattle.rlsf_base.specs.Layout.{IsLayout}
use Rattle.rlsf_model_sizes.specs.PowerOfTwo.{IsPowerOfTwo}
use Rattle.rlsf_model.specs.Callers.{align_at}
use Rattle.rlsf_model.specs.State.{State}
use Rattle.rlsf_tlsf.specs.Bounds.{KeepsBounds}
use Rattle.rlsf_checked.specs.Answers.{IsRefusedBy, refusal_at, size_refusal}
use Rattle.rlsf_checked.specs.Checked.{Checked}
use Rattle.rlsf_checked.specs.Results.{RefusesUnchanged}
use Rattle.rlsf_checked.specs.Sizing.{KeepsBoundsSameAlign, TakesCheckedRoomAgain}
use Rattle.rlsf_checked.specs.declared.error.CheckedError.{CheckedError}
use Rattle.rlsf_checked.specs.declared.error.CheckedError.TheVariants.{NoLayout, NoRoom, UnknownAddress}
use Rattle.rlsf_checked.proofs.FieldsOverSteps.{size_fits, size_past}
use Rattle.rlsf_checked.proofs.Unchanged.{refusing}

pub unknown_is_refused : (size : ℕ) (align : Option ℕ) → None ≡ align → size_refusal align size ≡ Some UnknownAddress
unknown_is_refused size align none = subst (λ o. size_refusal o size ≡ Some UnknownAddress) none refl

pub past_is_refused : (size align : ℕ) (known : Option ℕ) → Some align ≡ known → IsPowerOfTwo align → (IsLayout size align → false ≡ true)
    → size_refusal known size ≡ Some NoLayout
past_is_refused size align known is power no_layout =
    subst (λ o. size_refusal o size ≡ Some NoLayout) is (size_past size align power (λ layout. false≢true (no_layout layout)))

-- a size that is refused isn't one that isn't
pub never : {P A : Type 0} {o : Option A} {e : A} → o ≡ Some e → o ≡ None → P
never {e = e} refused none = absurd (none-some e (sym none ∙ refused))

-- so no room is promised for it
pub no_room_again : {A : Type 0} {sllen : ℕ} {s t : State} {addr size : ℕ} {e f : CheckedError} → refusal_at s addr size ≡ Some e
    → TakesCheckedRoomAgain {A = A} sllen s t addr size (Err f)
no_room_again refused = grind (arith, never)

-- and nothing changes
pub refuses : {A : Type 0} {v : Checked} {o : Option CheckedError} {e : CheckedError} → o ≡ Some e → RefusesUnchanged {A = A} v v (IsRefusedBy {A = A} o (Err e)) (Err e)
refuses {A = A} {e = e} refused = refusing (subst (λ p. IsRefusedBy {A = A} p (Err e)) (sym refused) refl)

-- a layout that a live payload's alignment has with the size is asked for
module _ (s : State) (addr : ℕ) {size align : ℕ} (layout : Layout) (long : layout.size ≡ size) (wide : layout.align ≡ align) (live : Some align ≡ align_at s addr) where
  pub not_refused : {A : Type 0} (r : Result A CheckedError) → IfErr r (λ e. e ≡ NoRoom) → IsRefusedBy (refusal_at s addr size) r
  not_refused r is = subst (λ o. IsRefusedBy (size_refusal o size) r) live (subst (λ o. IsRefusedBy o r) (sym (size_fits layout size align long wide)) is)

  pub below : (most : ℕ) → IfSome (align_at s addr) (λ a. a ≤ most) → layout.align ≤ most
  below most fits = let low : align ≤ most = subst (λ o. IfSome o (λ a. a ≤ most)) (sym live) fits in omega (arith, low, wide)

  pub bounds_kept : (sllen : ℕ) (t : State) → KeepsBounds sllen s t layout.size layout.align → KeepsBoundsSameAlign sllen s addr size t
  bounds_kept sllen t kept = λ count most widest sized short fits. kept count most widest sized (omega (arith, short, long)) (below widest fits)
