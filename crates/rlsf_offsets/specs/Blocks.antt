-- What a space is divided into: free ranges, and live ranges with the units that their alignments leave in front.
use Rattle.std.specs.Prelude.{◌≡◌, ◌↔◌, ℕ, ◌+◌, ◌-◌, ◌*◌, ◌%◌, ◌^◌, ◌≤◌, List, length, map}
use Rattle.rlsf_base.specs.Range.{end_of}
use Rattle.rlsf_blocks.specs.Blocks.{Block, HasBlock, IsInOrder}
use Rattle.rlsf_blocks.specs.declared.totals.Totals.{Totals}
use Rattle.rlsf_blocks.specs.Totals.{AreTotalsOf, free_of, greatest, total, used_of}
use Rattle.rlsf_model.specs.Lists.{IsIn}
use Rattle.rlsf_offsets.specs.declared.stats.Stats.{Stats}
use Rattle.rlsf_offsets.specs.Units.{Offsets}

-- the blocks of the shadow, used and free, in the order of their addresses: 32 bytes for each unit
pub record AreAllBlocks (v : Offsets) (bs : List Block) : Type 0 where
  pub exactly : (b : Block) → IsIn b bs ↔ HasBlock v.shadow.state b
  pub in_order : IsInOrder bs

-- all of them are for units of the space
abbrev pub AreWithinSpace : ℕ → List Block → Type 0
AreWithinSpace units bs = (b : Block) → IsIn b bs → (2 ^ 62 - 32 ≤ b.range.start) × (end_of b.range ≤ 2 ^ 62 - 32 + 32 * units)

-- the totals of the shadow
pub record AreSpaceTotals (v : Offsets) (t : Totals) : Type 0 where
  pub blocks : List Block
  pub all : AreAllBlocks v blocks
  pub totals : AreTotalsOf blocks t
  -- each unit is in one block
  pub whole : t.used + t.free ≡ 32 * v.units
  pub even : (t.used % 32 ≡ 0) × (t.free % 32 ≡ 0) × (t.longest % 32 ≡ 0)
  pub longest : t.longest ≤ t.free

-- the totals of the space, in bytes
pub record AreStats (unit : ℕ) (v : Offsets) (t : Stats) : Type 0 where
  pub blocks : List Block
  pub all : AreAllBlocks v blocks
  -- a used block is a live range, with the units that its alignment leaves in front
  pub ranges : t.ranges ≡ length (used_of blocks)
  pub used : 32 * t.used ≡ total (used_of blocks) * unit
  pub free : 32 * t.free ≡ total (free_of blocks) * unit
  pub longest : 32 * t.longest ≡ greatest (map (λ b. b.range.len) (free_of blocks)) * unit
  -- each byte of the space is in one block
  pub whole : t.used + t.free ≡ v.units * unit
