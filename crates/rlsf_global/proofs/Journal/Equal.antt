-- Two values with equal numbers are equal.
use Rattle.std.proofs.Common.{◌≡◌, ◌↔◌, ℕ, Bool, ◌&&◌, nat_eq, IsTrue, Option, Some, None, ap, ap₂, refl, sym, ◌∙◌}
use Rattle.std.proofs.lemmas.Bool.{and_from, and_parts, eq-eqb, eqb-true}
use Rattle.std.proofs.lemmas.Option.{same_Some}
use Rattle.rlsf_global.specs.declared.entry.Call.{Call}
use Rattle.rlsf_global.specs.declared.entry.Call.TheVariants.{Allocate, Deallocate, Reallocate}
use Rattle.rlsf_global.specs.declared.entry.Reply.{Reply}
use Rattle.rlsf_global.specs.declared.entry.Reply.TheVariants.{Placed}
use Rattle.std.specs.declared.num.NonZeroUsize.{NonZeroUsize}
use Rattle.rlsf_base.specs.declared.memory.layout.Layout.{Layout}
use Rattle.rlsf_model_global.proofs.EqualNumbers.{same_address, same_layout}

-- a test of the numbers shows whether two values of one variant are equal
pub told : {A B : Type 0} (variant : A → B) (value : B → Option A) (back : (a : A) → value (variant a) ≡ Some a) (x y : A) (a b : B) → a ≡ variant x → b ≡ variant y
    → (t : Bool) → (IsTrue t → x ≡ y) → (x ≡ y → IsTrue t) → IsTrue t ↔ (a ≡ b)
told variant value back x y a b is_a is_b t to from = (
  (λ h. is_a ∙ ap variant (to h) ∙ sym is_b),
  (λ e. from (same_Some x y (sym (back x) ∙ ap value (sym is_a ∙ e ∙ is_b) ∙ back y))),
)

placed : Reply → Option NonZeroUsize
placed (Placed a) = Some a
placed r = None

pub told_placed : (x y : NonZeroUsize) (a b : Reply) → a ≡ Placed x → b ≡ Placed y → (m n : ℕ) → m ≡ x.value → n ≡ y.value → IsTrue (nat_eq m n) ↔ (a ≡ b)
unfolding placed
told_placed x y a b is_a is_b m n at_x at_y =
    told Placed placed (λ a. refl) x y a b is_a is_b (nat_eq m n) (λ h. same_address x y (sym at_x ∙ eqb-true m n h ∙ at_y))
    (λ e. eq-eqb m n (at_x ∙ ap (λ (v : NonZeroUsize). v.value) e ∙ sym at_y))

freed : Call → Option NonZeroUsize
freed (Deallocate a) = Some a
freed r = None

pub told_freed : (x y : NonZeroUsize) (a b : Call) → a ≡ Deallocate x → b ≡ Deallocate y → (m n : ℕ) → m ≡ x.value → n ≡ y.value
    → IsTrue (nat_eq m n) ↔ (a ≡ b)
unfolding freed
told_freed x y a b is_a is_b m n at_x at_y =
    told Deallocate freed (λ a. refl) x y a b is_a is_b (nat_eq m n) (λ h. same_address x y (sym at_x ∙ eqb-true m n h ∙ at_y))
    (λ e. eq-eqb m n (at_x ∙ ap (λ (v : NonZeroUsize). v.value) e ∙ sym at_y))

asked : Call → Option Layout
asked (Allocate a) = Some a
asked r = None

pub told_asked : (x y : Layout) (a b : Call) → a ≡ Allocate x → b ≡ Allocate y → (t : Bool) → t ≡ (nat_eq x.size y.size && nat_eq x.align y.align)
    → IsTrue t ↔ (a ≡ b)
unfolding asked
told_asked x y a b is_a is_b t test = told Allocate asked (λ a. refl) x y a b is_a is_b t
    (λ h. let parts = and_parts (nat_eq x.size y.size) (nat_eq x.align y.align) (sym test ∙ h) in same_layout x y (eqb-true _ _ parts.0) (eqb-true _ _ parts.1))
    (λ e. test ∙ and_from _ _ (eq-eqb x.size y.size (ap (λ (v : Layout). v.size) e)) (eq-eqb x.align y.align (ap (λ (v : Layout). v.align) e)))

resized : Call → Option (NonZeroUsize × Layout)
resized (Reallocate a l) = Some (a, l)
resized r = None

pub told_resized : (x y : NonZeroUsize) (k l : Layout) (a b : Call) → a ≡ Reallocate x k → b ≡ Reallocate y l → x.value ≡ y.value → (t : Bool)
    → t ≡ (nat_eq k.size l.size && nat_eq k.align l.align) → IsTrue t ↔ (a ≡ b)
unfolding resized
told_resized x y k l a b is_a is_b same t test = told (λ (p : NonZeroUsize × Layout). Reallocate p.0 p.1) resized (λ p. refl) (x, k) (y, l) a b is_a is_b t
    (λ h. let parts = and_parts (nat_eq k.size l.size) (nat_eq k.align l.align) (sym test ∙ h) in
    ap₂ (λ (u : NonZeroUsize) (v : Layout). (u, v)) (same_address x y same) (same_layout k l (eqb-true _ _ parts.0) (eqb-true _ _ parts.1)))
    (λ e. test ∙ and_from _ _ (eq-eqb k.size l.size (ap (λ (p : NonZeroUsize × Layout). p.1.size) e))
    (eq-eqb k.align l.align (ap (λ (p : NonZeroUsize × Layout). p.1.align) e)))
