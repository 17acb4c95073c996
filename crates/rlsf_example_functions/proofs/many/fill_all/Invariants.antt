use Rattle.rlsf.specs.Live.{AreLive}
use Rattle.rlsf_example_functions.specs.Stored.{AreNumbered}
use Rattle.rlsf_example_functions.proofs.many.fill_all.Given as goal

abbrev pub invariant-loop-index : goal.invariant-loop-index
invariant-loop-index l = AreLive l.pool.state l.align l.addrs × AreNumbered l.pool.state l.addrs l.index
