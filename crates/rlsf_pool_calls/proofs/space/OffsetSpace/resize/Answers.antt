use Rattle.std.proofs.Common.{sym, subst}
use Rattle.rlsf_pool_calls.specs.Spaces.{ResizesIn}
use Rattle.rlsf_pool_calls.specs.declared.space.OffsetSpace.TheVariants.{Ready}
use Rattle.rlsf_pool_calls.proofs.space.OffsetSpace.resize.Goals as goal

pub returns-in-Ready : goal.returns-in-Ready
returns-in-Ready c =
    let did = c.reallocate_in_place.ensures in
    subst (λ p. ResizesIn p c.args.offset c.args.units c.to_code.result (Ready c.reallocate_in_place.new.self)) (sym c.in-Ready.is)
    (record { outcome = c.reallocate_in_place.result; told = c.to_code.ensures; which = did.which; reallocated = did.reallocated; same = did.same; touches = did.touches })
