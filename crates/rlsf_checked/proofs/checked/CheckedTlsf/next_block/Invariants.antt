-- No block of the pools so far begins at the address or behind it.
use Rattle.std.proofs.Common.{◌<◌, List, take}
use Rattle.rlsf_blocks.specs.Blocks.{Block}
use Rattle.rlsf_model.specs.Lists.{IsIn}
use Rattle.rlsf_checked.proofs.Gathered.{AreIn}
use Rattle.rlsf_checked.proofs.checked.CheckedTlsf.next_block.Given as goal

abbrev pub invariant-loop-pool : goal.invariant-loop-pool
invariant-loop-pool g l =
    (bs : List Block) × AreIn l.fn.self.heap.state (take l.pool-index l.fn.self.pools.earlier) bs × ((b : Block) → IsIn b bs → b.range.start < l.from)
