-- What the tables of a run hold.
use Rattle.std.specs.Prelude.{ℕ, ◌+◌, ◌≤◌, IsPermutation, length}
use Rattle.std.specs.HashMap.{spare}
use Rattle.std.specs.Vec.{vec_capacity, vec_len}
use Rattle.rlsf_base.specs.declared.memory.range.Range.{Range}
use Rattle.rlsf_base.specs.Range.{LiesIn}
use Rattle.rlsf_base.specs.Space.{range_of}
use Rattle.rlsf_model.specs.ChunkRows.{IsRow}
use Rattle.rlsf_model.specs.Lists.{IsIn}
use Rattle.rlsf_model.specs.WellFormed.{coverage, itself}
use Rattle.rlsf_trace_text.specs.declared.op.Answer.{Answer}
use Rattle.rlsf_trace_text.specs.declared.op.Op.{Op}
use Rattle.rlsf_blocks.specs.Spare.{KeepsSpare}
use Rattle.rlsf_tlsf.specs.Allocator.{Allocator, IsInState}
use Rattle.rlsf_trace_runs.specs.declared.tables.Tables.{Tables}
use Rattle.rlsf_trace_runs.specs.Names.{AreNamed}
use Rattle.rlsf_trace_runs.specs.Runs.{Does, RunState}
use Rattle.rlsf_trace_runs.specs.Steps.Pools.{ArePoolsApart, AreInRuns}

-- the tables have room for so many ops
pub record HaveRoomForOps (tables : Tables) (ops : ℕ) : Type 0 where
  pub names : ops ≤ spare tables.names
  pub pools : vec_len tables.pools.ranges + ops ≤ vec_capacity tables.pools.ranges

-- the allocator and the tables have the state of the run
pub record IsAt (fllen sllen : ℕ) (v : Allocator) (tables : Tables) (s : RunState) : Type 0 where
  pub stands : IsInState fllen sllen v s.machine
  pub named : AreNamed s.machine tables.names s.named
  pub pools : IsPermutation s.pools tables.pools.ranges.items
  pub apart : ArePoolsApart tables.pools.ranges.items
  pub in_runs : AreInRuns tables.pools.ranges.items tables.pools.firsts.items
  pub inside : (p : Range) → IsIn p tables.pools.ranges.items → LiesIn p v.memory.start (length v.memory.bytes)
  pub covered : (a : ℕ) → coverage itself s.machine.chunks a ≤ coverage itself s.pools a
  pub rows : (p : Range) → IsIn p s.pools → IsRow s.machine p

-- an op and its answer lead from this state of the run to that of the allocator and the tables; spare bytes are unchanged
abbrev pub OpLeadsOn : ℕ → ℕ → Allocator → RunState → Op → Answer → Allocator → Tables → Type 0
OpLeadsOn fllen sllen v s op answer w new =
    (t : RunState) × Does fllen sllen (range_of v.memory) s op answer t × IsAt fllen sllen w new t × KeepsSpare v.memory s.machine w.memory t.machine
