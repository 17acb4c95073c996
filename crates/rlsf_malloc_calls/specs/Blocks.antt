-- What is listed and totalled of a heap's blocks.
use Rattle.std.specs.Prelude.{◌≡◌, ◌↔◌, ℕ, ◌≤◌, List}
use Rattle.rlsf_base.specs.declared.memory.range.Range.{Range}
use Rattle.rlsf_blocks.specs.Blocks.{AreBlocks, Block, walked}
use Rattle.rlsf_blocks.specs.Listing.{IsListingOf, all_from}
use Rattle.rlsf_blocks.specs.Totals.{AreTotalsOf}
use Rattle.rlsf_blocks.specs.declared.totals.Totals.{Totals}
use Rattle.rlsf_blocks.specs.Consistency.Consistent.{AreConsistent}
use Rattle.rlsf_heap.specs.Heap.{HeapView}
use Rattle.rlsf_heap.specs.Words.{WordsView}

-- the blocks in a range, from an address on, are listed
abbrev pub IsListing : HeapView → Range → ℕ → List ℕ → ℕ → List ℕ → Type 0
IsListing v r from was count now = (bs : List Block) × AreBlocks v.state (walked r) bs × IsListingOf (all_from from bs) was count now

-- the totals of the blocks in a range
abbrev pub AreTotals : HeapView → Range → Totals → Type 0
AreTotals v r t = (bs : List Block) × AreBlocks v.state (walked r) bs × AreTotalsOf bs t

-- of words nothing is known
abbrev pub IsAny : WordsView → Type 0
IsAny w = Unit {0}

-- the check of some pools: 1 exactly where the words are those of a heap over these pools, and else 0
pub record IsCheckOf (fllen sllen : ℕ) (w : WordsView) (pools : List ℕ) (n : ℕ) : Type 0 where
  pub one : (n ≡ 1) ↔ AreConsistent fllen sllen pools w.memory w.table
  pub few : n ≤ 1
