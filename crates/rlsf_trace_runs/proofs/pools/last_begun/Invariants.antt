use Rattle.std.proofs.Common.{ℕ, ◌<◌, ◌≤◌, length, slice_index_or}
use Rattle.rlsf_trace_runs.specs.Steps.Pools.{IsLastBegun}
use Rattle.rlsf_trace_runs.proofs.pools.last_begun.Given as goal

-- the runs up to the next one's first pool were asked
abbrev pub invariant-loop-next : goal.invariant-loop-next
invariant-loop-next l =
    ((k d : ℕ) → k < l.next-index → slice_index_or l.fn.pools.firsts.items k d ≤ l.first)
    × ((k d : ℕ) → l.next-index ≤ k → k < length l.fn.pools.firsts.items → l.first ≤ slice_index_or l.fn.pools.firsts.items k d)
    × (l.first ≤ length l.fn.pools.ranges.items) × IsLastBegun l.fn.pools.ranges.items l.first l.fn.addr l.found
