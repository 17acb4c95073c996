use Rattle.std.proofs.Common.{◌≡◌, ◌≤◌, ◌+◌, ℕ, Some, arith, refl, sym, ◌∙◌, ap}
use Rattle.rlsf_base.specs.Addr.{at}
use Rattle.rlsf_model.specs.Callers.{align_at}
use Rattle.rlsf_checked.specs.Answers.{if_live}
use Rattle.rlsf_checked.specs.Steps.Marks.{mark_of}
use Rattle.rlsf_checked.proofs.FieldsOverSteps.{has_mark, marked_at, stands_after}
use Rattle.rlsf_checked.proofs.Unchanged.{frame_unchanged}
use Rattle.rlsf_checked.proofs.checked.CheckedTlsf.deallocate.Goals as goal

pub set-requires : goal.set-requires
set-requires g c =
    let live : align_at c.self.inside.heap.state (at c.args.addr) ≡ Some c.in-Some.align = sym (rw (← c.self.view_is) at c.in-Some.ensures.value) in
    has_mark c.self.invariant c.self.inside.heap c.self.invariant.stands (refl, refl, refl, λ none. none) c.get.result _ c.in-Some.align c.get.ensures.value live

pub invariant_of-self : goal.invariant_of-self
invariant_of-self g c =
    let did = c.deallocate.ensures in
    marked_at c.self.invariant c.deallocate.new.self c.set.new.self c.get.result (at c.args.addr) c.get.ensures.value (stands_after _ _ _ _ _ did.step) did.frame.place
    did.frame.chunks c.set.ensures.places (c.set.ensures.here ∙ sym (ap mark_of did.result.gone)) c.set.ensures.others did.result.aligns

pub returns-in-Some : goal.returns-in-Some
returns-in-Some g c =
    let live = rw (← c.self.view_is) at c.in-Some.ensures.value in
    rw (← c.self.view_is) (assumption (c.deallocate.ensures, ap (λ o. if_live o (tt {0})) live))

pub returns-in-None : goal.returns-in-None
returns-in-None g c =
    let none = rw (← c.self.view_is) at c.in-None.ensures.value in
    let few : (n : ℕ) → n ≤ n + 32 = λ n. omega arith in
    rw (← c.self.view_is) (assumption (sym none, ap (λ o. if_live o (tt {0})) none, frame_unchanged c.self.inside.heap, few c.self.inside.heap.memory.touches))
