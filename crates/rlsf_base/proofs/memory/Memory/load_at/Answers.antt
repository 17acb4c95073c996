use Rattle.rlsf_base.proofs.Lending.Whole.{readable}
use Rattle.rlsf_base.proofs.memory.Memory.load_at.Goals as goal

pub load_at-requires-clause-place : goal.load_at-requires-clause-place
load_at-requires-clause-place c = readable c.self.view_is c.self.invariant c.requires.place
