use Rattle.rlsf_base.proofs.Lending.Present.{here-none}
use Rattle.rlsf_base.proofs.memory.Memory.slice.Goals as goal

pub slice-requires-clause-here : goal.slice-requires-clause-here
slice-requires-clause-here c = here-none c.self.inside.inner c.args.range c.self.invariant
