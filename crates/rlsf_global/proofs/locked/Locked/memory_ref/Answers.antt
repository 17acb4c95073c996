use Rattle.std.proofs.Common.{rules}
use Rattle.rlsf_global.proofs.Placements.{locked_stands}
use Rattle.rlsf_global.proofs.locked.Locked.memory_ref.Goals as goal

pub returns : goal.returns
returns g c = record {
  memory = search rules;
  stands = rw (← c.self.view_is) (locked_stands _ c.self.invariant.locked);
}
