use Rattle.std.proofs.Common.{◌-◌, sym, ◌∙◌}
use Rattle.rlsf_heap.proofs.OnCores.{none_inside}
use Rattle.rlsf_heap.proofs.heap.Heap.drop.Goals as goal

pub free-requires : goal.free-requires
free-requires g c = λ a from to. none_inside c.self.invariant c.if-not-lent.true (sym c.self.invariant.counted ∙ c.if-live-eq0.true) (a - c.self.inside.memory.start)
