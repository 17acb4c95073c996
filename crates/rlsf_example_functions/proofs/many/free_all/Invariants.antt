use Rattle.std.proofs.Common.{◌≡◌, ◌+◌, length, vec_len}
use Rattle.rlsf.specs.Live.{AreLive}
use Rattle.rlsf.specs.Words.{live_count}
use Rattle.rlsf_example_functions.proofs.many.free_all.Given as goal

abbrev pub decreases-loop-addr : goal.decreases-loop-addr
decreases-loop-addr l = vec_len l.addrs

abbrev pub invariant-loop-addr : goal.invariant-loop-addr
invariant-loop-addr l =
    AreLive l.pool.state l.align l.addrs.items × (live_count l.pool.state + length l.initial.addrs.items ≡ live_count l.initial.pool.state + length l.addrs.items)
