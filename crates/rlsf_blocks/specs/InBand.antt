-- The words inside the pools. Each block begins with its size word and a word that names the block
-- before it; the addresses of blocks are multiples of 32, and the address 0 means none.
use Rattle.std.specs.Prelude.{◌≡◌, ℕ, ◌+◌, ◌-◌, ◌≤◌}
use Rattle.rlsf_base.specs.declared.memory.range.Range.{Range}
use Rattle.rlsf_base.specs.Range.{end_of}
use Rattle.rlsf_base.specs.Space.{Space, bytes_in, word_at}
use Rattle.rlsf_model.specs.Lists.{IsIn}
use Rattle.rlsf_model.specs.State.{State, Used, usable}

-- where the sentinel of a chunk is: its last 32 bytes
abbrev pub sentinel_of : Range → ℕ
sentinel_of c = end_of c - 32

-- The size word of a used block is its length with the lowest bit set. That of a free block is its length. That of a
-- sentinel is 32 with the two lowest bits set
pub record HasSizes (m : Space) (s : State) : Type 0 where
  pub used : (u : Used) → IsIn u s.used → word_at m u.block.start ≡ u.block.len + 1
  pub free : (f : Range) → IsIn f s.free → word_at m f.start ≡ f.len
  pub sentinel : (c : Range) → IsIn c s.chunks → word_at m (sentinel_of c) ≡ 35

-- the word at +8 of the block behind a block names that block, and of a chunk's first block it is 0
pub record HasPrevious (m : Space) (s : State) : Type 0 where
  pub used : (u : Used) → IsIn u s.used → word_at m (end_of u.block + 8) ≡ u.block.start
  pub free : (f : Range) → IsIn f s.free → word_at m (end_of f + 8) ≡ f.start
  pub first : (c : Range) → IsIn c s.chunks → word_at m (c.start + 8) ≡ 0

-- a used block holds its payload's bytes; for an alignment of 32 or more the word before them names the block
pub record HasPayloads (m : Space) (s : State) : Type 0 where
  pub bytes : (u : Used) → IsIn u s.used → bytes_in m (usable u) ≡ u.bytes
  pub pad : (u : Used) → IsIn u s.used → 32 ≤ u.align → word_at m (u.payload - 8) ≡ u.block.start
