use Rattle.std.proofs.Common.{sym, subst}
use Rattle.rlsf_pool_calls.specs.Spaces.{AllocatesIn}
use Rattle.rlsf_pool_calls.specs.declared.space.OffsetSpace.TheVariants.{Ready}
use Rattle.rlsf_pool_calls.proofs.space.OffsetSpace.allocate.Goals as goal

pub returns-in-Ready : goal.returns-in-Ready
returns-in-Ready c =
    let did = c.allocate.ensures in
    subst (λ p. AllocatesIn p c.args.units c.args.align c.to_number.result (Ready c.allocate.new.self)) (sym c.in-Ready.is)
    (record { outcome = c.allocate.result; told = c.to_number.ensures; which = did.which; allocated = did.allocated; same = did.same; touches = did.touches })
