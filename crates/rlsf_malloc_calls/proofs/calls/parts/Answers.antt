use Rattle.std.proofs.Common.{rules, subst}
use Rattle.rlsf_base.specs.OpenSpace.{IsOwned}
use Rattle.rlsf_base.specs.Space.{Space}
use Rattle.rlsf_malloc_calls.proofs.calls.parts.Goals as goal

pub returns : goal.returns
returns g c =
    let did = c.into_memory.ensures in
    (search rules, search rules, search rules, search rules, search rules, λ r is. subst (λ (m : Space). IsOwned m r) did.memory (did.lent r is))
