use Rattle.std.proofs.Common.{◌≡◌, ◌&&◌, ℕ, Bool, Option, Some, None, Ok, Err, cond, length, nat_le, sym, ◌∙◌, ap, subst}
use Rattle.rlsf_base.specs.Addr.{at}
use Rattle.rlsf_model.specs.Callers.{align_at, bytes_at}
use Rattle.rlsf_checked.specs.Answers.{both_have, if_both_in_range, if_in_range}
use Rattle.rlsf_checked.specs.declared.error.CheckedError.TheVariants.{OutOfRange, UnknownAddress}
use Rattle.rlsf_checked.proofs.FieldsOverSteps.{stands_after, unchanged}
use Rattle.rlsf_checked.proofs.Unchanged.{frame_unchanged}
use Rattle.rlsf_checked.proofs.checked.CheckedTlsf.copy.Given as given
use Rattle.rlsf_checked.proofs.checked.CheckedTlsf.copy.Goals as goal
use Rattle.rlsf_checked.proofs.checked.CheckedTlsf.copy.Goals.{After-both_reach}

-- two payloads are refused unless both are live, and then by whether both have the bytes
in_range : (from to : Option ℕ) (first second : ℕ) (result fits : Bool) → Some first ≡ from → Some second ≡ to → result ≡ fits
    → cond result (Ok tt) (Err OutOfRange) ≡ if_both_in_range from to fits
in_range from to first second result fits live there is =
    subst (λ o. cond result (Ok tt) (Err OutOfRange) ≡ if_both_in_range o to fits) live
    (subst (λ o. cond result (Ok tt) (Err OutOfRange) ≡ if_in_range o fits) there (ap (λ b. cond b (Ok tt) (Err OutOfRange)) is))

not_from : (from to : Option ℕ) (fits : Bool) → None ≡ from → Err UnknownAddress ≡ if_both_in_range from to fits
not_from from to fits none = ap (λ o. if_both_in_range o to fits) none

not_to : (from to : Option ℕ) (first : ℕ) (fits : Bool) → Some first ≡ from → None ≡ to → Err UnknownAddress ≡ if_both_in_range from to fits
not_to from to first fits live none = subst (λ o. Err UnknownAddress ≡ if_both_in_range o to fits) live (ap (λ o. if_in_range o fits) none)

-- whether both have them
reach : (g : given.Over) (c : After-both_reach g)
    → c.both_reach.result ≡ both_have c.args.len (bytes_at c.self.inside.heap.state (at c.args.from)) (bytes_at c.self.inside.heap.state (at c.args.to))
reach g c =
    let len = c.args.len in
    c.both_reach.ensures ∙ ap (λ n. nat_le len n && nat_le len c.allocation_usable_size-second.result) c.allocation_usable_size-first.ensures
    ∙ ap (λ n. nat_le len (length (bytes_at c.self.inside.heap.state (at c.args.from))) && nat_le len n) c.allocation_usable_size-second.ensures

pub invariant_of-self : goal.invariant_of-self
invariant_of-self g c =
    let did = c.copy_payload.ensures in
    unchanged c.self.invariant c.copy_payload.new.self (stands_after _ _ _ _ _ did.step) did.frame.place did.frame.chunks did.result.aligns

pub returns : goal.returns
returns g c =
    let from = rw (← c.self.view_is) at c.in-Some.ensures.value in
    let to = rw (← c.self.view_is) at c.in-Some-alignment.ensures.value in
    let fits = sym c.if-not-both_reach.false ∙ reach g (goal.at.returns g c).After-both_reach in
    rw (← c.self.view_is) (assumption (c.copy_payload.ensures, in_range _ _ _ _ _ _ from to fits))

pub returns-in_default : goal.returns-in_default
returns-in_default g c =
    let s = c.self.inside.heap.state in
    let from = rw (← c.self.view_is) at c.in_default.ensures.value in
    let answer = not_from _ (align_at s (at c.args.to)) (both_have c.args.len (bytes_at s (at c.args.from)) (bytes_at s (at c.args.to))) from in
    rw (← c.self.view_is) (assumption (answer, frame_unchanged c.self.inside.heap))

pub returns-in_default-alignment : goal.returns-in_default-alignment
returns-in_default-alignment g c =
    let from = rw (← c.self.view_is) at c.in-Some.ensures.value in
    let to = rw (← c.self.view_is) at c.in_default-alignment.ensures.value in
    let answer = not_to _ _ _ (both_have c.args.len (bytes_at c.self.inside.heap.state (at c.args.from)) (bytes_at c.self.inside.heap.state (at c.args.to))) from to in
    rw (← c.self.view_is) (assumption (answer, frame_unchanged c.self.inside.heap))

pub returns-then-not-both_reach : goal.returns-then-not-both_reach
returns-then-not-both_reach g c =
    let from = rw (← c.self.view_is) at c.in-Some.ensures.value in
    let to = rw (← c.self.view_is) at c.in-Some-alignment.ensures.value in
    let fits = sym c.if-not-both_reach.true ∙ reach g (goal.at.returns-then-not-both_reach g c).After-both_reach in
    rw (← c.self.view_is) (assumption (in_range _ _ _ _ _ _ from to fits, frame_unchanged c.self.inside.heap))
