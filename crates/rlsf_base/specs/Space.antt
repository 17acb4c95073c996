-- A memory as contracts see it.
use Rattle.std.specs.Prelude.{◌≡◌, ℕ, ◌+◌, ◌-◌, ◌%◌, ◌^◌, List, [], length, take, drop, slice_index, if◌then◌else◌}
use Rattle.std.specs.Int.{w64, from_le_bytes, to_le_bytes}
use Rattle.std.specs.List.{splice}
use Rattle.rlsf_base.specs.declared.memory.range.Range.{Range}
use Rattle.rlsf_base.specs.declared.memory.view.View.{View}
use Rattle.rlsf_base.specs.Out.{Change, Kept, all_here, kept_at}
use Rattle.rlsf_base.specs.Range.{LiesIn, range_at}

-- a memory: where it begins, its bytes, two counts of the work done in it, the view of it, and the changes of its bytes' states
pub record Space : Type 0 where
  pub start : ℕ
  pub bytes : List ℕ
  pub touches : ℕ
  pub copied : ℕ
  pub view : View
  pub out : List Change

-- the addresses of a memory
abbrev pub range_of : Space → Range
range_of m = range_at m.start (length m.bytes)

-- the state of the byte at an address
abbrev pub out_at : Space → ℕ → Kept
out_at m a = kept_at m.out (a - m.start)

-- the start, the length and the view of a memory stay the same; if no byte was out before, none is out afterwards
abbrev pub SamePlace : Space → Space → Type 0
SamePlace old new = (new.start ≡ old.start) × (length new.bytes ≡ length old.bytes) × (new.view ≡ old.view) × (old.out ≡ [] → new.out ≡ [])

-- the byte at an address
abbrev pub byte_at : Space → ℕ → ℕ
byte_at m a = slice_index m.bytes (a - m.start)

-- the bytes of a range
abbrev pub bytes_in : Space → Range → List ℕ
bytes_in m r = take r.len (drop (r.start - m.start) m.bytes)

-- one byte
abbrev pub byte_range : ℕ → Range
byte_range a = range_at a 1

-- the eight bytes from an address on
abbrev pub word_range : ℕ → Range
word_range a = range_at a 8

-- the address is that of a word: a multiple of 8 whose eight bytes lie in the memory
abbrev pub IsWord : Space → ℕ → Type 0
IsWord m a = (a % 8 ≡ 0) × LiesIn (word_range a) m.start (length m.bytes)

-- the word at an address: its eight bytes, the least first; or a number that no word is, where not all of them are here
unfoldable pub word_at : Space → ℕ → ℕ
word_at m a = if all_here m.out (a - m.start) 8 then from_le_bytes w64 (bytes_in m (word_range a)) else 2 ^ 64

-- the bytes with a word written at an address
abbrev pub with_word : Space → ℕ → ℕ → List ℕ
with_word m a word = splice m.bytes (a - m.start) (a - m.start + 8) (to_le_bytes w64 word)

-- the bytes with others written from an address on
abbrev pub with_bytes : Space → ℕ → List ℕ → List ℕ
with_bytes m a bs = splice m.bytes (a - m.start) (a - m.start + length bs) bs
