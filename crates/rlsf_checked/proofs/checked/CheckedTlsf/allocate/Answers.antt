use Rattle.std.proofs.Common.{suc, sym, ◌∙◌, ap, subst}
use Rattle.rlsf_base.specs.Addr.{at}
use Rattle.rlsf_model_sizes.specs.PowerOfTwo.{IsPowerOfTwo, floor_log2}
use Rattle.rlsf_model.specs.Callers.{align_at}
use Rattle.rlsf_checked.specs.Steps.Marks.{mark_of}
use Rattle.rlsf_checked.proofs.FieldsOverSteps.{has_mark, marked_at, stands_after, unchanged}
use Rattle.rlsf_checked.proofs.checked.CheckedTlsf.allocate.Goals as goal

pub invariant_of-self : goal.invariant_of-self
invariant_of-self g c =
    let did = c.in_default.ensures in
    unchanged c.self.invariant c.allocate.new.self (stands_after _ _ _ _ _ did.step) did.frame.place did.frame.chunks (ap align_at did.refused.same)

pub mark_of-requires : goal.mark_of-requires
mark_of-requires g c = subst IsPowerOfTwo (sym c.align.ensures.value) c.args.layout.valid.aligned

pub set-requires : goal.set-requires
set-requires g c =
    let did = c.in-Some.ensures in
    has_mark c.self.invariant c.allocate.new.self (stands_after _ _ _ _ _ did.step) did.frame.place c.get.result _ c.args.layout.align c.get.ensures.value did.result.live

pub invariant_of-self-2 : goal.invariant_of-self-2
invariant_of-self-2 g c =
    let did = c.in-Some.ensures in
    marked_at c.self.invariant c.allocate.new.self c.set.new.self c.get.result (at c.in-Some.addr) c.get.ensures.value (stands_after _ _ _ _ _ did.step) did.frame.place
    did.frame.chunks c.set.ensures.places
    (c.set.ensures.here ∙ c.mark_of.ensures ∙ ap (λ n. suc (floor_log2 n)) c.align.ensures.value ∙ sym (ap mark_of did.result.live)) c.set.ensures.others did.result.aligns

pub returns-in_default : goal.returns-in_default
returns-in_default g c = rw (← c.self.view_is) (assumption c.in_default.ensures)

pub returns : goal.returns
returns g c = rw (← c.self.view_is) (assumption c.in-Some.ensures)
