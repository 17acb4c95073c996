-- Statements about the words inside the pools, which `laws` of `rlsf_tlsf` proves; and the state with the bytes of a memory.
use Rattle.std.specs.Prelude.{◌≡◌, ℕ, ◌+◌, ◌-◌, ◌≤◌, ◌==◌, length, map, nat_lt, if◌then◌else◌}
use Rattle.rlsf_base.specs.Space.{Space, out_at, byte_at, bytes_in, word_at}
use Rattle.rlsf_model.specs.Lists.{IsIn}
use Rattle.rlsf_model.specs.State.{State, Used, usable}
use Rattle.rlsf_table.specs.Table.{Table}
use Rattle.rlsf_blocks.specs.StandsFor.{Contents, contents, IsUnlent, StandsFor}

-- a memory differs from another one at most in the usable bytes of live payloads
pub record DiffersInPayloads (m n : Space) (s : State) : Type 0 where
  pub start : n.start ≡ m.start
  pub length : length n.bytes ≡ length m.bytes
  pub bytes : (a : ℕ) → m.start ≤ a → IsUnlent s a → byte_at n a ≡ byte_at m a
  pub out : (a : ℕ) → m.start ≤ a → IsUnlent s a → out_at n a ≡ out_at m a

-- the used block with the bytes that a memory has in its payload
abbrev pub with_bytes_of : Space → Used → Used
with_bytes_of n u = record { block = u.block; payload = u.payload; align = u.align; bytes = bytes_in n (usable u) }

-- the state with the bytes that a memory has in its payloads
abbrev pub read_from : Space → State → State
read_from n s = record { chunks = s.chunks; used = map (with_bytes_of n) s.used; free = s.free }

-- The definitions of the in-band layout and of the class table read no usable byte of a live payload. Whatever callers write there, the
-- memory represents the state with these bytes.
abbrev pub WordsReadNoPayload : Type 0
WordsReadNoPayload = (fllen sllen : ℕ) (m n : Space) (t : Table) (s : State) → StandsFor fllen sllen (contents m t) s → DiffersInPayloads m n s
    → StandsFor fllen sllen (contents n t) (read_from n s)

-- The start of the block of the live payload at an address, by the word before the payload and one size word. It is 16 bytes before the
-- payload if the word is 0, or if the named block ends before the payload by its size word. Otherwise it is the named address
abbrev pub block_by_words : Space → ℕ → ℕ
block_by_words m addr =
    let named = word_at m (addr - 8) in
    if named == 0 then addr - 16 else if nat_lt (named + word_at m named) addr then addr - 16 else named

-- These two words determine the block of every live address, whatever alignment it was allocated with.
abbrev pub WordsGiveBlock : Type 0
WordsGiveBlock = (fllen sllen : ℕ) (v : Contents) (s : State) (u : Used) → StandsFor fllen sllen v s → IsIn u s.used → block_by_words v.memory u.payload ≡ u.block.start
