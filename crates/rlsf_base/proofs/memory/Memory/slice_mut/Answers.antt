use Rattle.rlsf_base.proofs.Lending.Present.{here-none}
use Rattle.rlsf_base.proofs.memory.Memory.slice_mut.Goals as goal

pub slice_mut-requires-clause-here : goal.slice_mut-requires-clause-here
slice_mut-requires-clause-here c = here-none c.self.inside.inner c.args.range c.self.invariant
