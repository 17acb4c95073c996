use Rattle.std.proofs.Common.{rules, subst, sym}
use Rattle.rlsf_flex.proofs.InnerAllocator.{flex_stood}
use Rattle.rlsf_global.specs.Locked.{IsLocked}
use Rattle.rlsf_model_global.proofs.Maps.{Lists-none}
use Rattle.rlsf_global.proofs.Placements.{locked_stands}
use Rattle.rlsf_global.proofs.locked.Locked.new.Given as given
use Rattle.rlsf_global.proofs.locked.Locked.new.Goals as goal
use Rattle.rlsf_global.proofs.locked.Locked.new.Goals.{After-new-3}

-- nothing is live, and the table lists nothing
none_locked : (g : given.Over) (c : After-new-3 g) → IsLocked c.new-2.result c.new-3.result.rows
none_locked g c = subst (λ l. IsLocked c.new-2.result l) (sym c.new-3.ensures.rows)
    (record { flex = flex_stood c.new-2.result c.new-2.ensures.stands; sorted = tt; lists = Lists-none c.new-2.result.state c.new-2.ensures.state })

pub invariant_of-result : goal.invariant_of-result
invariant_of-result g c = record {
  locked = none_locked g c;
  space = search rules;
}

pub returns : goal.returns
returns g c = record {
  heap = search rules;
  memory = search rules;
  stands = locked_stands _ (none_locked g c);
}
