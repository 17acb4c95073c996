use Rattle.std.proofs.Common.{ℕ, ◌<◌, ◌≤◌, slice_index_or}
use Rattle.rlsf_base.specs.Range.{end_of}
use Rattle.rlsf_trace_text.specs.declared.op.Op.{Op}
use Rattle.rlsf_trace_runs.specs.Parts.{CoversOp}
use Rattle.rlsf_trace_runs.proofs.parts.part_for.Given as goal

-- both addresses are in the memory, and cover the ranges that were met
abbrev pub invariant-loop-op : goal.invariant-loop-op
invariant-loop-op l =
    ((l.fn.memory.start ≤ l.part.0) × (l.part.0 ≤ end_of l.fn.memory) × (l.fn.memory.start ≤ l.part.1) × (l.part.1 ≤ end_of l.fn.memory))
    × ((k : ℕ) → k < l.op-index → (d : Op) → CoversOp l.fn.memory l.part.0 l.part.1 (slice_index_or l.fn.ops k d))
