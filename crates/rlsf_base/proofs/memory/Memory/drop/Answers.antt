use Rattle.rlsf_base.specs.Space.{range_of}
use Rattle.rlsf_base.proofs.Lending.Present.{own-none}
use Rattle.rlsf_base.proofs.memory.Memory.drop.Goals as goal

pub free-requires : goal.free-requires
free-requires c = own-none c.self.inside.inner (range_of c.self.inside.inner) c.self.invariant
