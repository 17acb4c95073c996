-- A memory that has the words of complete chunks.
use Rattle.std.specs.Prelude.{ℕ, List}
use Rattle.rlsf_base.specs.declared.memory.range.Range.{Range}
use Rattle.rlsf_base.specs.Space.{Space, range_of}
use Rattle.rlsf_blocks.specs.InBand.{HasPrevious, HasSizes}
use Rattle.rlsf_model.specs.ChunkRows.{IsRow}
use Rattle.rlsf_model.specs.Lists.{IsIn}
use Rattle.rlsf_model.specs.State.{State}
use Rattle.rlsf_model.specs.WellFormed.{IsWellFormed}
use Rattle.rlsf_table.specs.Table.{Table}
use Rattle.rlsf_blocks.specs.Consistency.Linked.{IsLinked}

-- The range is complete chunks of a well-formed state, or empty: used blocks, free blocks and sentinels tile the chunks, and no two free
-- blocks adjoin. The memory has the size word of each block, and the word that names the block before it. Each free block is linked into
-- the list of its class
pub record HasInBandLayout (fllen sllen : ℕ) (ps : List ℕ) (m : Space) (t : Table) (r : Range) (s : State) : Type 0 where
  pub well_formed : IsWellFormed fllen sllen (range_of m) s
  pub row : IsRow s r
  pub sizes : HasSizes m s
  pub previous : HasPrevious m s
  pub linked : (f : Range) → IsIn f s.free → IsLinked fllen sllen ps m t f
