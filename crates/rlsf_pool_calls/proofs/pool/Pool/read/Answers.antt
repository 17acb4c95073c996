use Rattle.std.proofs.Common.{refl, sym, subst}
use Rattle.rlsf_pool_calls.specs.Calls.{Reads}
use Rattle.rlsf_pool_calls.specs.Seen.{nothing, seen}
use Rattle.rlsf_pool_calls.proofs.Outcomes.{none_read, none_in_empty}
use Rattle.rlsf_pool_calls.proofs.pool.Pool.read.Goals as goal

pub returns-in-Refused : goal.returns-in-Refused
returns-in-Refused c = (
  subst (λ p. Reads (seen p) c.args.addr c.args.offset c.args.into.now c.number.result c.args.into.now) (sym c.in-Refused.is)
      (subst (λ r. Reads nothing c.args.addr c.args.offset c.args.into.now r c.args.into.now) (sym c.number.ensures)
      (none_read nothing c.args.addr c.args.offset c.args.into.now (none_in_empty c.args.addr))),
  refl,
)

pub returns-in-Large : goal.returns-in-Large
returns-in-Large c = (
  subst (λ p. Reads (seen p) c.args.addr c.args.offset c.args.into.now c.read-in-Large.result c.read-in-Large.new.into) (sym c.in-Large.is) c.read-in-Large.ensures,
  sym c.in-Large.is,
)
