-- The totals are those of the blocks of the pools so far.
use Rattle.std.proofs.Common.{◌≤◌, List, take}
use Rattle.rlsf_blocks.specs.Blocks.{Block}
use Rattle.rlsf_blocks.specs.Totals.{AreTotalsOf}
use Rattle.rlsf_checked.proofs.Gathered.{AreIn}
use Rattle.rlsf_checked.proofs.checked.CheckedTlsf.totals.Given as goal

abbrev pub invariant-loop-pool : goal.invariant-loop-pool
invariant-loop-pool g l =
    (bs : List Block) × AreIn l.fn.self.heap.state (take l.pool-index l.fn.self.pools.earlier) bs × AreTotalsOf bs l.sum × (l.sum.payloads ≤ l.sum.used)
