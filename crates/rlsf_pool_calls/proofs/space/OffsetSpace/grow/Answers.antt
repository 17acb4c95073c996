use Rattle.std.proofs.Common.{sym, subst}
use Rattle.rlsf_pool_calls.specs.Spaces.{GrowsIn}
use Rattle.rlsf_pool_calls.specs.declared.space.OffsetSpace.TheVariants.{Ready}
use Rattle.rlsf_pool_calls.proofs.space.OffsetSpace.grow.Goals as goal

pub returns-in-Ready : goal.returns-in-Ready
returns-in-Ready c =
    let did = c.grow.ensures in
    subst (λ p. GrowsIn p c.args.units c.to_code.result (Ready c.grow.new.self)) (sym c.in-Ready.is)
    (record { outcome = c.grow.result; told = c.to_code.ensures; which = did.which; grown = did.grown; same = did.same; touches = did.touches })
