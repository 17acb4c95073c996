-- The word lies in none of the pools that were passed.
use Rattle.std.proofs.Common.{ℕ, ◌<◌}
use Rattle.rlsf_base.specs.Range.{LiesIn}
use Rattle.rlsf_base.specs.Space.{word_range}
use Rattle.rlsf_blocks.specs.Consistency.Pools.{pool_at}
use Rattle.rlsf_blocks.proofs.consistency_check.words.lies_in_pool.Given as goal

abbrev pub invariant-loop-k : goal.invariant-loop-k
invariant-loop-k l = (k : ℕ) → k < l.k → LiesIn (word_range l.addr) (pool_at l.pools k).start (pool_at l.pools k).len → ⊥
