-- What is true of every checked allocator's fields.
use Rattle.std.specs.Prelude.{◌≡◌, ℕ, ◌%◌, ◌<◌, ◌≤◌, ◌⊎◌, List, [], ◌∷◌, ⊤}
use Rattle.rlsf_base.specs.declared.memory.range.Range.{Range}
use Rattle.rlsf_base.specs.Range.{end_of}
use Rattle.rlsf_model_sizes.specs.Rounding.{round32}
use Rattle.rlsf_base.specs.Space.{range_of}
use Rattle.rlsf_blocks.specs.Blocks.{walked}
use Rattle.rlsf_model.specs.Callers.{align_at}
use Rattle.rlsf_model.specs.ChunkRows.{IsRow}
use Rattle.rlsf_model.specs.Lists.{IsIn}
use Rattle.rlsf_model.specs.State.{State}
use Rattle.rlsf_tlsf.specs.Allocator.{Allocator, Stands}
use Rattle.rlsf_checked.specs.Checked.{PoolList}
use Rattle.rlsf_codes.specs.declared.codes.Codes.{Codes}
use Rattle.rlsf_checked.specs.Steps.Marks.{mark_of}
use Rattle.rlsf_codes.specs.Codes.{HasPlace, code_at}

-- each range ends where the later ones begin, or before
abbrev pub AreInOrder : List Range → Type 0
AreInOrder [] = ⊤
AreInOrder (p ∷ ps) = ((q : Range) → IsIn q ps → end_of p ≤ q.start) × AreInOrder ps

-- the range is complete contiguous chunks, at least one, from its start, rounded up to a multiple of 32, to its end
pub record IsCheckedPool (s : State) (p : Range) : Type 0 where
  pub room : round32 p.start < end_of p
  pub row : IsRow s (walked p)

-- the range is one of the pools
abbrev pub IsOneOf : Range → PoolList → Type 0
IsOneOf p pools = IsIn p pools.earlier ⊎ ((p ≡ pools.last) × (0 < p.len))

-- Pools, of which none overlaps another. Each chunk lies in one of them
pub record AreCheckedPools (s : State) (pools : PoolList) : Type 0 where
  pub each : (p : Range) → IsOneOf p pools → IsCheckedPool s p
  pub order : AreInOrder pools.earlier
  pub behind : (p : Range) → IsIn p pools.earlier → end_of p ≤ pools.last.start
  pub homes : (c : Range) → IsIn c s.chunks → (p : Range) × IsOneOf p pools × (p.start ≤ c.start) × (end_of c ≤ end_of p)

-- The state is well-formed in the memory. A mark is that of the payload's alignment exactly if a payload is live, and else 0. Each
-- address at which a payload may be has a mark, and none is 0. The last pool lies in the memory, and no chunk is outside of the pools.
pub record IsChecked (fllen sllen : ℕ) (heap : Allocator) (marks : Codes ℕ) (list : PoolList) : Type 0 where
  pub stands : Stands fllen sllen heap
  pub marked : (a : ℕ) → code_at marks a ≡ mark_of (align_at heap.state a)
  pub covers : (a : ℕ) → a % 16 ≡ 0 → heap.memory.start ≤ a → a ≤ end_of (range_of heap.memory) → HasPlace marks a
  pub low : heap.memory.start ≤ list.last.start
  pub high : end_of list.last ≤ end_of (range_of heap.memory)
  pub pools : AreCheckedPools heap.state list
