use Rattle.rlsf_base.proofs.Lending.Whole.{readable}
use Rattle.rlsf_base.proofs.memory.Memory.word.Goals as goal

pub word-requires : goal.word-requires
word-requires c = readable c.self.view_is c.self.invariant c.requires
