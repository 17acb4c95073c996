-- The checked allocator as contracts see it.
use Rattle.std.specs.Prelude.{List}
use Rattle.rlsf_base.specs.declared.memory.range.Range.{Range}
use Rattle.rlsf_tlsf.specs.Allocator.{Allocator}

-- The pools in the order of their addresses: those before the last one, and the last one, which is empty if there is none. Each is the range from
-- its start, as inserted, to the end of its last chunk
pub record PoolList : Type 0 where
  pub earlier : List Range
  pub last : Range

-- the allocator and its pools
pub record Checked : Type 0 where
  pub heap : Allocator
  pub pools : PoolList

-- the pools by their parts
abbrev pub pools_of : List Range → Range → PoolList
pools_of earlier last = record { earlier = earlier; last = last }

-- the same of the allocator
abbrev pub checked : Allocator → PoolList → Checked
checked heap pools = record { heap = heap; pools = pools }
