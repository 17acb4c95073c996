-- Each pool that was passed is complete chunks.
use Rattle.std.proofs.Common.{ℕ, ◌<◌}
use Rattle.rlsf_blocks.specs.Blocks.{walked}
use Rattle.rlsf_blocks.specs.Consistency.Consistent.{HasChunks}
use Rattle.rlsf_blocks.specs.Consistency.Pools.{pool_at}
use Rattle.rlsf_blocks.proofs.consistency_check.check.are_consistent.Given as goal

abbrev pub invariant-loop-k : goal.invariant-loop-k
invariant-loop-k g l = (k : ℕ) → k < l.k → HasChunks g.row.FLLEN g.row.SLLEN l.pools l.memory l.table (walked (pool_at l.pools k))
