-- No pool so far is the range.
use Rattle.std.proofs.Common.{◌≡◌, take}
use Rattle.rlsf_base.specs.declared.memory.range.Range.{Range}
use Rattle.rlsf_model.specs.Lists.{IsIn}
use Rattle.rlsf_checked.proofs.pools.Pools.contains.Given as goal

abbrev pub invariant-loop-pool : goal.invariant-loop-pool
invariant-loop-pool l = (p : Range) → IsIn p (take l.pool-index l.pool-items) → p ≡ l.range → ⊥
