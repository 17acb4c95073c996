use Rattle.std.proofs.Common.{◌≡◌, ◌+◌, length}
use Rattle.rlsf.specs.Live.{AreLive}
use Rattle.rlsf_example_functions.proofs.many.allocate_all.Given as goal

abbrev pub invariant-loop : goal.invariant-loop
invariant-loop l = AreLive l.pool.state l.layout.align l.addrs.items × (length l.addrs.items ≡ length l.initial.addrs.items + l.counter)
