use Rattle.std.proofs.Common.{◌∙◌, ap, length, sym}
use Rattle.rlsf_base.specs.Space.{Space}
use Rattle.rlsf_base.proofs.memory.open_memory.OpenMemory.len.Goals as goal

pub returns-clause-value : goal.returns-clause-value
returns-clause-value c = sym c.self.invariant.whole ∙ ap (λ (s : Space). length s.bytes) c.self.view_is
