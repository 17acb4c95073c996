-- Words that may be read.
use Rattle.std.specs.Prelude.{◌≡◌, ◌≢◌, ◌⊎◌, ℕ, ◌+◌, ◌<◌, List}
use Rattle.rlsf_base.specs.OpenSpace.{IsHere, IsReadable}
use Rattle.rlsf_model_sizes.specs.Sizes.{IsSize}
use Rattle.rlsf_base.specs.Space.{Space, word_at, word_range}
use Rattle.rlsf_table.specs.Table.{Table, head_at}
use Rattle.rlsf_blocks.specs.Consistency.Pools.{IsPoolWord}

-- if a word of the pools is at the address, its bytes are here
abbrev pub IsLegible : List ℕ → Space → ℕ → Type 0
IsLegible ps m a = IsPoolWord ps m a → IsHere m (word_range a)

-- so the words that are read of the block at an address, with another link at an offset
pub record IsLegibleAt (ps : List ℕ) (m : Space) (at offset : ℕ) : Type 0 where
  pub size : IsLegible ps m at
  pub link : IsLegible ps m (at + offset)

-- so the links of a free block, and the words that are read where they lead
pub record HasLegibleLinks (ps : List ℕ) (m : Space) (block : ℕ) : Type 0 where
  pub to_next : IsLegible ps m (block + 16)
  pub to_previous : IsLegible ps m (block + 24)
  pub next : word_at m (block + 16) ≢ 0 → IsLegibleAt ps m (word_at m (block + 16)) 24
  pub previous : word_at m (block + 24) ≢ 0 → IsLegibleAt ps m (word_at m (block + 24)) 16

-- so the words that are read of a block: its size word, the two words behind it, and the links of a free block
pub record IsLegibleBlock (ps : List ℕ) (m : Space) (block : ℕ) : Type 0 where
  pub size : IsReadable m block
  pub behind : (len : ℕ) → IsSize len → (word_at m block ≡ len) ⊎ (word_at m block ≡ len + 1) → IsLegible ps m (block + len) × IsLegible ps m (block + len + 8)
  pub links : IsSize (word_at m block) → HasLegibleLinks ps m block

-- so the words that are read of each head
abbrev pub HasLegibleHeads : ℕ → ℕ → List ℕ → Space → Table → Type 0
HasLegibleHeads fllen sllen ps m t = (fl sl : ℕ) → fl < fllen → sl < sllen → head_at t fl sl ≢ 0 → IsLegibleAt ps m (head_at t fl sl) 24
