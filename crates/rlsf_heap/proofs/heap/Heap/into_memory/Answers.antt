use Rattle.std.proofs.Common.{◌-◌}
use Rattle.rlsf_heap.proofs.OnCores.{lent_back, none_out}
use Rattle.rlsf_heap.proofs.heap.Heap.into_memory.Goals as goal

pub returns-clause-own : goal.returns-clause-own
returns-clause-own g c = λ not_lent. none_out c.self.invariant c.args.self c.self.view_is c.requires not_lent

pub returns-clause-free : goal.returns-clause-free
returns-clause-free g c = λ not_lent a from to. none_out c.self.invariant c.args.self c.self.view_is c.requires not_lent (a - c.self.inside.memory.start)

pub returns-clause-lent : goal.returns-clause-lent
returns-clause-lent g c = lent_back c.self.invariant c.args.self c.self.view_is c.requires
