-- The blocks of the pools so far are listed.
use Rattle.std.proofs.Common.{◌*◌, ◌≤◌, List, length, take}
use Rattle.rlsf_blocks.specs.Blocks.{Block}
use Rattle.rlsf_blocks.specs.Listing.{IsListingOf, all_from}
use Rattle.rlsf_checked.proofs.Gathered.{AreIn}
use Rattle.rlsf_checked.proofs.checked.CheckedTlsf.list.Given as goal

abbrev pub invariant-loop-pool : goal.invariant-loop-pool
invariant-loop-pool g l =
    ((bs : List Block) × AreIn l.fn.self.heap.state (take l.pool-index l.fn.self.pools.earlier) bs
    × IsListingOf (all_from l.from bs) l.initial.into l.count l.into)
    × (3 * l.count ≤ length l.into)
