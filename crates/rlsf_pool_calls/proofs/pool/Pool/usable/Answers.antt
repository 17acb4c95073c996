use Rattle.std.proofs.Common.{refl, sym, subst}
use Rattle.rlsf_pool_calls.specs.Calls.{Tells}
use Rattle.rlsf_pool_calls.specs.Seen.{nothing, seen}
use Rattle.rlsf_pool_calls.proofs.Outcomes.{none_told, none_in_empty}
use Rattle.rlsf_pool_calls.proofs.pool.Pool.usable.Goals as goal

pub returns-in-Refused : goal.returns-in-Refused
returns-in-Refused c = (
  subst (λ p. Tells (seen p) c.args.addr c.refused.result) (sym c.in-Refused.is)
      (subst (λ r. Tells nothing c.args.addr r) (sym c.refused.ensures) (none_told nothing c.args.addr (none_in_empty c.args.addr))),
  refl,
)
