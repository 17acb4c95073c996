-- How a free block is linked into the list of its class. Each word that counts lies in one of the pools `ps`.
use Rattle.std.specs.Prelude.{◌≡◌, ◌≢◌, ℕ, ◌+◌, ◌^◌, ◌<◌, List}
use Rattle.rlsf_base.specs.declared.memory.range.Range.{Range}
use Rattle.rlsf_model_sizes.specs.SizeClass.{class_of}
use Rattle.rlsf_model_sizes.specs.Sizes.{IsSize}
use Rattle.rlsf_base.specs.Space.{Space, word_at}
use Rattle.rlsf_table.specs.Table.{IsClassAt, Table, head_at}
use Rattle.rlsf_blocks.specs.Consistency.Pools.{IsPoolWord}

-- a word of the pools is at the address, and has the value
abbrev pub HasWord : List ℕ → Space → ℕ → ℕ → Type 0
HasWord ps m a word = IsPoolWord ps m a × (word_at m a ≡ word)

-- the size word of a free block is at the address: a block's length, without flags. Its bytes are here
abbrev pub HasFreeSize : List ℕ → Space → ℕ → Type 0
HasFreeSize ps m a = IsPoolWord ps m a × (word_at m a < 2 ^ 64) × IsSize (word_at m a)

-- two sizes have one class
abbrev pub SameClass : ℕ → ℕ → ℕ → Type 0
SameClass sllen size other = class_of sllen size ≡ class_of sllen other

-- a free block of a range's class is at the address, and the word at an offset from there names the range
pub record IsNeighbour (sllen : ℕ) (ps : List ℕ) (m : Space) (f : Range) (at offset : ℕ) : Type 0 where
  pub size : HasFreeSize ps m at
  pub class : SameClass sllen (word_at m at) f.len
  pub names : HasWord ps m (at + offset) f.start

-- the range is the head of its class in the table
abbrev pub IsHead : ℕ → ℕ → Table → Range → Type 0
IsHead fllen sllen t f = (fl : ℕ) × (sl : ℕ) × IsClassAt fllen sllen f.len fl sl × (head_at t fl sl ≡ f.start)

-- The list of a free range's class leads through it in both directions. The word at +16 is 0, or names a free block of the same class
-- whose word at +24 names the range. The word at +24 is 0, and then the range is the head of its class, or it names a free block of the
-- same class whose word at +16 names the range
pub record IsLinked (fllen sllen : ℕ) (ps : List ℕ) (m : Space) (t : Table) (f : Range) : Type 0 where
  pub next : word_at m (f.start + 16) ≢ 0 → IsNeighbour sllen ps m f (word_at m (f.start + 16)) 24
  pub previous : word_at m (f.start + 24) ≢ 0 → IsNeighbour sllen ps m f (word_at m (f.start + 24)) 16
  pub head : word_at m (f.start + 24) ≡ 0 → IsHead fllen sllen t f
