use Rattle.std.proofs.Common.{◌≡◌, ◌+◌, length}
use Rattle.rlsf.specs.Words.{IsSizedFor, live_count}
use Rattle.rlsf_example_functions.proofs.pools.allocate_many.Given as goal

abbrev pub invariant-loop : goal.invariant-loop
invariant-loop l =
    IsSizedFor 16 l.count l.layout.size l.layout.align l.pool.state × (live_count l.pool.state ≡ l.counter)
    × (length l.addrs.items ≡ length l.initial.addrs.items + l.counter)
