-- What the parts of the check find: one block, one chunk, and contiguous chunks.
use Rattle.std.specs.Prelude.{◌≡◌, ◌⊎◌, ℕ, ◌+◌, ◌-◌, ◌%◌, ◌^◌, ◌<◌, ◌≤◌, List, length}
use Rattle.rlsf_base.specs.declared.memory.range.Range.{Range}
use Rattle.rlsf_base.specs.Range.{LiesIn, end_of}
use Rattle.rlsf_base.specs.Space.{Space, range_of, word_at, word_range}
use Rattle.rlsf_model.specs.Lists.{IsIn}
use Rattle.rlsf_model.specs.State.{State, between}
use Rattle.rlsf_table.specs.Table.{Table}
use Rattle.rlsf_blocks.specs.Consistency.Layout.{HasInBandLayout}
use Rattle.rlsf_blocks.specs.Consistency.Linked.{IsLinked}
use Rattle.rlsf_blocks.specs.Consistency.Pools.{ArePoolsHere, LiesInPool}

-- the words from one address up to another are those of a used block, or of a free block that is linked and has no free one behind it
abbrev pub IsUsedOrFree : ℕ → ℕ → List ℕ → Space → Table → ℕ → ℕ → Type 0
IsUsedOrFree fllen sllen ps m t start stop =
    (word_at m start ≡ stop - start + 1) ⊎ ((word_at m start ≡ stop - start) × (word_at m stop % 2 ≡ 1) × IsLinked fllen sllen ps m t (between start stop))

-- a block from one address up to another, which the word behind it names. Another 32 bytes follow before the end
pub record IsBlockTo (fllen sllen : ℕ) (ps : List ℕ) (m : Space) (t : Table) (start end stop : ℕ) : Type 0 where
  pub some : start < stop
  pub whole : stop % 32 ≡ 0
  pub before_end : stop + 32 ≤ end
  pub named : word_at m (stop + 8) ≡ start
  pub kind : IsUsedOrFree fllen sllen ps m t start stop

-- two addresses of the memory, between which each word lies in one of the pools
pub record IsSpanOf (ps : List ℕ) (m : Space) (start end : ℕ) : Type 0 where
  pub from : m.start ≤ start
  pub to : end ≤ end_of (range_of m)
  pub addressable : end_of (range_of m) < 2 ^ 64
  pub pool : (a : ℕ) → start ≤ a → a + 8 ≤ end → LiesInPool ps (word_range a)

-- each word of the memory that lies in a range lies in one of the pools
abbrev pub ReachesPools : List ℕ → Space → Range → Type 0
ReachesPools ps m r = (a : ℕ) → LiesIn (word_range a) r.start r.len → LiesIn (word_range a) m.start (length m.bytes) → LiesInPool ps (word_range a)

-- the state's chunks are exactly the bytes from one address up to another, and the memory has their words
abbrev pub IsExactly : ℕ → ℕ → List ℕ → Space → Table → ℕ → ℕ → State → Type 0
IsExactly fllen sllen ps m t start stop s = HasInBandLayout fllen sllen ps m t (between start stop) s × ((c : Range) → IsIn c s.chunks → (start ≤ c.start) × (end_of c ≤ stop))

-- where a check of a chunk reads: each byte of the pools is here, or the memory has the words of a state whose chunk begins there
abbrev pub CanReadChunk : ℕ → ℕ → List ℕ → Space → Table → ℕ → ℕ → Type 0
CanReadChunk fllen sllen ps m t chunk end =
    ArePoolsHere ps m ⊎ ((s : State) × (c : Range) × (r : Range) × HasInBandLayout fllen sllen ps m t r s × IsIn c s.chunks × (c.start ≡ chunk) × (end_of c ≤ end))

-- so for contiguous chunks
abbrev pub CanReadChunks : ℕ → ℕ → List ℕ → Space → Table → Range → Type 0
CanReadChunks fllen sllen ps m t r = ArePoolsHere ps m ⊎ ((s : State) × HasInBandLayout fllen sllen ps m t r s)
