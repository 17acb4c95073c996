-- A memory and a class table that are consistent over a range of the memory, or over some pools.
use Rattle.std.specs.Prelude.{◌⊎◌, ℕ, ◌≤◌, List}
use Rattle.rlsf_base.specs.declared.memory.range.Range.{Range}
use Rattle.rlsf_base.specs.Range.{end_of}
use Rattle.rlsf_base.specs.Space.{Space, range_of}
use Rattle.rlsf_base.specs.OpenSpace.{IsHere}
use Rattle.rlsf_model.specs.ChunkRows.{IsRow}
use Rattle.rlsf_model.specs.Lists.{IsIn}
use Rattle.rlsf_model.specs.State.{State}
use Rattle.rlsf_table.specs.Table.{Table}
use Rattle.rlsf_blocks.specs.Blocks.{walked}
use Rattle.rlsf_blocks.specs.StandsFor.{contents, StandsFor}
use Rattle.rlsf_blocks.specs.Consistency.Heads.{HasHeads}
use Rattle.rlsf_blocks.specs.Consistency.Layout.{HasInBandLayout}
use Rattle.rlsf_blocks.specs.Consistency.Pools.{ArePoolsHere, HasPoolAt, all_of, pool_at}

-- a range of the memory has the words of complete chunks of some state, or is empty
abbrev pub HasChunks : ℕ → ℕ → List ℕ → Space → Table → Range → Type 0
HasChunks fllen sllen ps m t r = (s : State) × HasInBandLayout fllen sllen ps m t r s

-- the bitmaps and heads of the table agree, and the range has the words of complete chunks of some state
unfoldable pub IsConsistent : ℕ → ℕ → Space → Table → Range → Type 0
IsConsistent fllen sllen m t r = HasHeads fllen sllen (all_of m) m t × HasChunks fllen sllen (all_of m) m t r

-- A check may read each word that it needs: each byte of the memory is here, or memory and table are consistent. In the latter case bytes
-- of payloads may be out
abbrev pub CanBeChecked : ℕ → ℕ → Space → Table → Range → Type 0
CanBeChecked fllen sllen m t r = IsHere m (range_of m) ⊎ IsConsistent fllen sllen m t r

-- the words are those of a heap over these pools: the bitmaps and heads of the table agree, and each pool, from its start rounded up to 32 to
-- its end, has the words of complete chunks, whose free blocks' links lead to free blocks in these pools
unfoldable pub AreConsistent : ℕ → ℕ → List ℕ → Space → Table → Type 0
AreConsistent fllen sllen ps m t = HasHeads fllen sllen ps m t × ((k : ℕ) → HasPoolAt ps k → HasChunks fllen sllen ps m t (walked (pool_at ps k)))

-- A check of pools may read each word that it needs: each word of the pools is here, or memory and table are consistent over them. In the
-- latter case bytes of payloads may be out
abbrev pub ArePoolsLegible : ℕ → ℕ → List ℕ → Space → Table → Type 0
ArePoolsLegible fllen sllen ps m t = ArePoolsHere ps m ⊎ AreConsistent fllen sllen ps m t

-- each memory and table that represent a state are consistent over each range of its complete chunks
abbrev pub RepresentedIsConsistent : Type 0
RepresentedIsConsistent = (fllen sllen : ℕ) (m : Space) (t : Table) (s : State) (r : Range) → StandsFor fllen sllen (contents m t) s → IsRow s r
    → IsConsistent fllen sllen m t r

-- and over pools of complete chunks, of which each chunk lies in one
abbrev pub RepresentedAreConsistent : Type 0
RepresentedAreConsistent = (fllen sllen : ℕ) (ps : List ℕ) (m : Space) (t : Table) (s : State) → StandsFor fllen sllen (contents m t) s
    → ((k : ℕ) → HasPoolAt ps k → IsRow s (walked (pool_at ps k)))
    → ((c : Range) → IsIn c s.chunks → (k : ℕ) × HasPoolAt ps k × ((pool_at ps k).start ≤ c.start) × (end_of c ≤ end_of (pool_at ps k)))
    → AreConsistent fllen sllen ps m t
