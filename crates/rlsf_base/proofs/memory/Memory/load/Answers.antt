use Rattle.rlsf_base.proofs.Lending.Whole.{readable}
use Rattle.rlsf_base.proofs.memory.Memory.load.Goals as goal

pub load-requires : goal.load-requires
load-requires c = readable c.self.view_is c.self.invariant c.requires
