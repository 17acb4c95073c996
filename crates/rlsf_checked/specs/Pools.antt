-- The pools after a call that inserts, appends or removes one.
use Rattle.std.specs.Prelude.{ℕ, ◌+◌, ◌==◌, List, [], ◌∷◌, ◌++◌, filter, nat_lt, not, if◌then◌else◌}
use Rattle.rlsf_base.specs.declared.memory.range.Range.{Range}
use Rattle.rlsf_base.specs.Range.{range_at}
use Rattle.rlsf_checked.specs.Checked.{PoolList, pools_of}

-- no pool, and a last one that is empty
abbrev pub no_pools : ℕ → PoolList
no_pools start = pools_of [] (range_at start 0)

-- the pools that were inserted and not removed
abbrev pub current_pools : PoolList → List Range
current_pools pools = if nat_lt 0 pools.last.len then pools.earlier ++ pools.last ∷ [] else pools.earlier

-- a range is the last pool, and those that were inserted are before it
abbrev pub with_pool : PoolList → Range → PoolList
with_pool pools r = pools_of (current_pools pools) r

-- the last pool is so many bytes longer
abbrev pub with_longer_last : PoolList → ℕ → PoolList
with_longer_last pools more = pools_of pools.earlier (range_at pools.last.start (pools.last.len + more))

-- the last pool is empty, at the same start
abbrev pub without_last : PoolList → PoolList
without_last pools = pools_of pools.earlier (range_at pools.last.start 0)

-- the pool that begins at an address is gone; if it was the last one, that is empty
abbrev pub without_pool_at : PoolList → ℕ → PoolList
without_pool_at pools start =
    if pools.last.start == start then without_last pools else pools_of (filter (λ p. not (p.start == start)) pools.earlier) pools.last
