-- Pools of a memory, as numbers: the start and the length of each, one pool behind another.
use Rattle.std.specs.Prelude.{ℕ, ◌+◌, ◌*◌, ◌<◌, List, [], ◌∷◌, length, slice_index}
use Rattle.rlsf_base.specs.declared.memory.range.Range.{Range}
use Rattle.rlsf_base.specs.Range.{LiesIn, range_at}
use Rattle.rlsf_base.specs.OpenSpace.{IsHere}
use Rattle.rlsf_base.specs.Space.{IsWord, Space, word_range}

-- there is a pool at an index
abbrev pub HasPoolAt : List ℕ → ℕ → Type 0
HasPoolAt ps k = 2 * k + 1 < length ps

-- the pool at an index
abbrev pub pool_at : List ℕ → ℕ → Range
pool_at ps k = range_at (slice_index ps (2 * k)) (slice_index ps (2 * k + 1))

-- a range lies in one of the pools
unfoldable pub LiesInPool : List ℕ → Range → Type 0
LiesInPool ps r = (k : ℕ) × HasPoolAt ps k × LiesIn r (pool_at ps k).start (pool_at ps k).len

-- a word of the memory is at the address, and lies in one of the pools
abbrev pub IsPoolWord : List ℕ → Space → ℕ → Type 0
IsPoolWord ps m a = IsWord m a × LiesInPool ps (word_range a)

-- each byte of the pools that lies in the memory is here
abbrev pub ArePoolsHere : List ℕ → Space → Type 0
ArePoolsHere ps m = (a : ℕ) → IsPoolWord ps m a → IsHere m (word_range a)

-- the one pool that is all of a memory
abbrev pub all_of : Space → List ℕ
all_of m = m.start ∷ length m.bytes ∷ []
