-- The blocks of all pools.
use Rattle.std.specs.Prelude.{ℕ, ◌<◌, ◌≤◌, List, Option, Some, None}
use Rattle.rlsf_base.specs.Space.{range_of}
use Rattle.rlsf_blocks.specs.Blocks.{AreBlocks, Block, HasBlock}
use Rattle.rlsf_blocks.specs.declared.totals.Totals.{Totals}
use Rattle.rlsf_blocks.specs.Listing.{IsListingOf, all_from}
use Rattle.rlsf_blocks.specs.Totals.{AreTotalsOf}
use Rattle.rlsf_model.specs.State.{State}
use Rattle.rlsf_checked.specs.Checked.{Checked}

-- all used and free blocks of the state, in the order of their addresses
abbrev pub AreCheckedBlocks : Checked → List Block → Type 0
AreCheckedBlocks v bs = AreBlocks v.heap.state (range_of v.heap.memory) bs

-- their totals
abbrev pub AreAllTotals : Checked → Totals → Type 0
AreAllTotals v t = (bs : List Block) × AreCheckedBlocks v bs × AreTotalsOf bs t

-- those that begin at an address or behind it are listed
abbrev pub IsListingOfAll : Checked → ℕ → List ℕ → ℕ → List ℕ → Type 0
IsListingOfAll v from was count now = (bs : List Block) × AreCheckedBlocks v bs × IsListingOf (all_from from bs) was count now

-- the first block that begins at an address or behind it, if one does
abbrev pub IsFirstFrom : State → ℕ → Option Block → Type 0
IsFirstFrom s from None = (b : Block) → HasBlock s b → b.range.start < from
IsFirstFrom s from (Some b) = HasBlock s b × (from ≤ b.range.start) × ((c : Block) → HasBlock s c → from ≤ c.range.start → b.range.start ≤ c.range.start)
