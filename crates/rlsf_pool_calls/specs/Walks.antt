-- The blocks of all ranges, and their totals.
use Rattle.std.specs.Prelude.{◌≡◌, ℕ, List, Option, Some, None, if◌then◌else◌}
use Rattle.rlsf_blocks.specs.Blocks.{AreBlocks, Block}
use Rattle.rlsf_blocks.specs.declared.totals.Totals.{Totals}
use Rattle.rlsf_blocks.specs.Listing.{IsListingOf, all_from}
use Rattle.rlsf_blocks.specs.Totals.{AreTotalsOf}
use Rattle.rlsf_checked.specs.AllBlocks.{IsFirstFrom}
use Rattle.rlsf_pool_calls.specs.declared.answers.BlockAnswer.{BlockAnswer}
use Rattle.rlsf_pool_calls.specs.Seen.{Seen}

-- the totals of the used and free blocks
abbrev pub IsSummary : Seen → Totals → Type 0
IsSummary v s = (bs : List Block) × AreBlocks v.state v.memory bs × AreTotalsOf bs s

-- a block as it is returned
abbrev pub block_of : Option Block → BlockAnswer
block_of None = record { error = 14; start = 0; len = 0; used = 0 }
block_of (Some b) = record { error = 0; start = b.range.start; len = b.range.len; used = if b.is_occupied then 1 else 0 }

-- the first block that begins at an address or behind it
abbrev pub IsNextBlock : Seen → ℕ → BlockAnswer → Type 0
IsNextBlock v from answer = (b : Option Block) × IsFirstFrom v.state from b × (answer ≡ block_of b)

-- the used and free blocks, from an address on, are listed
abbrev pub IsPoolListing : Seen → ℕ → List ℕ → ℕ → List ℕ → Type 0
IsPoolListing v from was count now = (bs : List Block) × AreBlocks v.state v.memory bs × IsListingOf (all_from from bs) was count now
