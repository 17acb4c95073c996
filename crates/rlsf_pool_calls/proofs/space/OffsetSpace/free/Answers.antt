use Rattle.std.proofs.Common.{sym, subst}
use Rattle.rlsf_pool_calls.specs.Spaces.{FreesIn}
use Rattle.rlsf_pool_calls.specs.declared.space.OffsetSpace.TheVariants.{Ready}
use Rattle.rlsf_pool_calls.proofs.space.OffsetSpace.free.Goals as goal

pub returns-in-Ready : goal.returns-in-Ready
returns-in-Ready c =
    let did = c.deallocate.ensures in
    subst (λ p. FreesIn p c.args.offset c.to_code.result (Ready c.deallocate.new.self)) (sym c.in-Ready.is)
    (record { outcome = c.deallocate.result; told = c.to_code.ensures; which = did.which; deallocated = did.deallocated; same = did.same; touches = did.touches })
