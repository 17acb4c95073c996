-- Which block of a list is found by a test, and the list without it.
use Rattle.std.proofs.Common.{◌≡◌, ℕ, ◌<◌, ◌≤◌, Bool, true, cond, find, true≢false, List, [], ◌∷◌, Some, None, inl, inr, refl, sym, ◌∙◌, ap}
use Rattle.std.proofs.lemmas.Bool.{eq-eqb, eqb-true}
use Rattle.rlsf_base.specs.declared.memory.range.Range.{Range}
use Rattle.rlsf_model.specs.Join.{starts_at}
use Rattle.rlsf_model.specs.Lists.{IsIn, without}
use Rattle.rlsf_model.specs.WellFormed.{coverage, itself}
use Rattle.rlsf_model.proofs.Coverage.{by_test, find-some}
use Rattle.rlsf_table.proofs.FreeLists.Chains.{starts_apart}

-- the one element that passes is found
pub find-one : {A : Type 0} (p : A → Bool) (x : A) (xs : List A) → IsIn x xs → p x ≡ true → ((y : A) → IsIn y xs → p y ≡ true → y ≡ x) → find p xs ≡ Some x
find-one p x [] i passes one = absurd i
find-one p x (y ∷ ys) i passes one = by_test (p y)
    (λ e. ap (λ b. cond b (Some y) (find p ys)) e ∙ ap Some (one y (inl refl) e))
    (λ e. ap (λ b. cond b (Some y) (find p ys)) e ∙ elim i [
      | inl same ↦ absurd (true≢false (sym passes ∙ ap p same ∙ e))
      | inr j ↦ find-one p x ys j passes (λ z k. one z (inr k))
    ])

-- where none passes, none is found
pub find-no : {A : Type 0} (p : A → Bool) (xs : List A) → ((x : A) → IsIn x xs → p x ≡ true → ⊥) → find p xs ≡ None
find-no p [] none = refl
find-no p (x ∷ xs) none = by_test (p x)
    (λ e. absurd (none x (inl refl) e))
    (λ e. ap (λ b. cond b (Some x) (find p xs)) e ∙ find-no p xs (λ y i. none y (inr i)))

-- two tests that find the same element leave the same list
pub without-same : {A : Type 0} (p q : A → Bool) (x : A) (xs : List A) → find p xs ≡ Some x → find q xs ≡ Some x → without p xs ≡ without q xs
without-same p q x [] found also = refl
without-same p q x (y ∷ ys) found also = by_test (p y)
    (λ e. let same : Some y ≡ Some x = sym (ap (λ b. cond b (Some y) (find p ys)) e) ∙ found in let is : y ≡ x = cc in
    let passes : q y ≡ true = ap q is ∙ (find-some q x (y ∷ ys) also).1 in
    ap (λ b. cond b ys (y ∷ without p ys)) e ∙ sym (ap (λ b. cond b ys (y ∷ without q ys)) passes))
    (λ e. by_test (q y)
    (λ f. let same : Some y ≡ Some x = sym (ap (λ b. cond b (Some y) (find q ys)) f) ∙ also in let is : y ≡ x = cc in
    absurd (true≢false (sym (find-some p x (y ∷ ys) found).1 ∙ ap p (sym is) ∙ e)))
    (λ f. ap (λ b. cond b ys (y ∷ without p ys)) e
    ∙ ap (λ l. y ∷ l) (without-same p q x ys (sym (ap (λ b. cond b (Some y) (find p ys)) e) ∙ found) (sym (ap (λ b. cond b (Some y) (find q ys)) f) ∙ also))
    ∙ sym (ap (λ b. cond b ys (y ∷ without q ys)) f)))

-- of blocks that don't overlap, the one that begins at an address is found
pub find-start : (free : List Range) (f : Range) (a : ℕ) → ((b : ℕ) → coverage itself free b ≤ 1) → ((g : Range) → IsIn g free → 0 < g.len) → IsIn f free
    → f.start ≡ a → find (starts_at a) free ≡ Some f
find-start free f a apart some i at =
    find-one (starts_at a) f free i (eq-eqb f.start a at) (λ g j passes. starts_apart free g f apart j i (some g j) (some f i) (eqb-true g.start a passes ∙ sym at))

pub find-no_start : (free : List Range) (a : ℕ) → ((f : Range) → IsIn f free → f.start ≡ a → ⊥) → find (starts_at a) free ≡ None
find-no_start free a none = find-no (starts_at a) free (λ f i passes. none f i (eqb-true f.start a passes))
