use Rattle.std.proofs.Common.{arith, subst}
use Rattle.rlsf_base.specs.RawParts.{TakesParts}
use Rattle.rlsf_base.proofs.Pieces.{takes_parts}
use Rattle.rlsf_base.proofs.memory.open_memory.OpenMemory.takes_parts.Goals as goal

pub returns : goal.returns
returns c = subst TakesParts c.self.view_is (takes_parts c.self.invariant (omega arith) c.self.inside.counters.touches c.self.inside.counters.copied)
