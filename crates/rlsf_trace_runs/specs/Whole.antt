-- What a complete run of ops leaves of its allocator.
use Rattle.std.specs.Prelude.{◌≡◌, ℕ, List}
use Rattle.rlsf_base.specs.Space.{range_of}
use Rattle.rlsf_model.specs.State.{empty}
use Rattle.rlsf_blocks.specs.Spare.{KeepsSpare}
use Rattle.rlsf_tlsf.specs.Allocator.{Allocator}
use Rattle.rlsf_trace_runs.specs.Runs.{RunState, RunsOps, run_beginning}
use Rattle.rlsf_trace_text.specs.declared.op.Op.{Op}
use Rattle.rlsf_trace_text.specs.declared.op.Answer.{Answer}

-- From no chunk and no name, the ops with these answers lead to the model's state in the allocator after them. Each byte that is
-- then in no block is unchanged.
abbrev pub RunsTo : ℕ → ℕ → Allocator → List Op → List Answer → Allocator → Type 0
RunsTo fllen sllen before ops answers after =
    (t : RunState) × RunsOps fllen sllen (range_of before.memory) run_beginning ops answers t × (after.state ≡ t.machine)
    × KeepsSpare before.memory empty after.memory t.machine
