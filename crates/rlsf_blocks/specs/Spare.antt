-- Spare bytes: those that no block is made of, which the allocator leaves to its caller.
use Rattle.std.specs.Prelude.{◌≡◌, ℕ, ◌+◌, ◌<◌, ◌≤◌, length}
use Rattle.rlsf_base.specs.declared.memory.range.Range.{Range}
use Rattle.rlsf_base.specs.Range.{end_of}
use Rattle.rlsf_base.specs.Space.{Space, byte_at, IsWord}
use Rattle.rlsf_blocks.specs.InBand.{sentinel_of}
use Rattle.rlsf_model.specs.Lists.{IsIn}
use Rattle.rlsf_model.specs.State.{State}

-- a byte that no block is made of: it lies in no chunk, or in the last 16 bytes of a sentinel
abbrev pub IsSpare : State → ℕ → Type 0
IsSpare s a = (c : Range) → IsIn c s.chunks → c.start ≤ a → a < end_of c → sentinel_of c + 16 ≤ a

-- the address is that of a word that no block is made of: a multiple of 8 whose eight bytes lie in the memory and are spare
abbrev pub IsSpareWord : Space → State → ℕ → Type 0
IsSpareWord m s addr = IsWord m addr × ((a : ℕ) → addr ≤ a → a < addr + 8 → IsSpare s a)

-- each byte of the memory that no block is made of, before and after, is as it was
abbrev pub KeepsSpare : Space → State → Space → State → Type 0
KeepsSpare m s n t = (a : ℕ) → m.start ≤ a → a < m.start + length m.bytes → IsSpare s a → IsSpare t a → byte_at n a ≡ byte_at m a
