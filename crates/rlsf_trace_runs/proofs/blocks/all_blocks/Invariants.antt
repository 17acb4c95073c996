use Rattle.std.proofs.Common.{take}
use Rattle.rlsf_trace_runs.proofs.PoolBlocks.{AreGathered}
use Rattle.rlsf_trace_runs.proofs.blocks.all_blocks.Given as goal

-- the blocks of the first pools are gathered
abbrev pub invariant-loop-place : goal.invariant-loop-place
invariant-loop-place g l = AreGathered l.fn.tlsf.state (take l.place l.fn.tables.pools.ranges.items) l.all.items
