use Rattle.std.proofs.Common.{ap, arith}
use Rattle.rlsf_base.specs.Space.{Space}
use Rattle.rlsf_base.proofs.memory.open_memory.OpenMemory.start.Goals as goal

pub returns-clause-value : goal.returns-clause-value
returns-clause-value c = omega (arith, ap (λ (s : Space). s.start) c.self.view_is)
