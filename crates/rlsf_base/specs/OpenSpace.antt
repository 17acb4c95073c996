-- A memory from which bytes can leave, as contracts see it.
use Rattle.std.specs.Prelude.{◌≡◌, ℕ, ◌+◌, ◌-◌, ◌%◌, ◌^◌, ◌<◌, ◌≤◌, ◌⊎◌, true, List, length}
use Rattle.rlsf_base.specs.declared.memory.range.Range.{Range}
use Rattle.rlsf_base.specs.declared.memory.view.View.{View}
use Rattle.rlsf_base.specs.Changes.{left, came_back, came_raw}
use Rattle.rlsf_base.specs.Out.{Change, here, out, is_own}
use Rattle.rlsf_base.specs.Range.{LiesIn, end_of}
use Rattle.rlsf_base.specs.Space.{Space, out_at, with_word, word_range}

-- each byte of a range is here
abbrev pub IsHere : Space → Range → Type 0
IsHere m r = (a : ℕ) → r.start ≤ a → a < end_of r → out_at m a ≡ here

-- each byte of a range is the memory's own: here or raw
abbrev pub IsOwned : Space → Range → Type 0
IsOwned m r = (a : ℕ) → r.start ≤ a → a < end_of r → is_own (out_at m a) ≡ true

-- each byte of a range is out
abbrev pub IsAway : Space → Range → Type 0
IsAway m r = (a : ℕ) → r.start ≤ a → a < end_of r → out_at m a ≡ out

-- the same bytes are two memories' own
abbrev pub SameOwn : Space → Space → Type 0
SameOwn m n = (a : ℕ) → m.start ≤ a → is_own (out_at n a) ≡ is_own (out_at m a)

-- each byte that is here in a memory is here in another
abbrev pub StaysHere : Space → Space → Type 0
StaysHere m n = (a : ℕ) → m.start ≤ a → out_at m a ≡ here → out_at n a ≡ here

-- each byte that is a memory's own is another's own
abbrev pub StaysOwn : Space → Space → Type 0
StaysOwn m n = (a : ℕ) → m.start ≤ a → is_own (out_at m a) ≡ true → is_own (out_at n a) ≡ true

-- an address that isn't in a range
abbrev pub IsBeside : Range → ℕ → Type 0
IsBeside r a = (a < r.start) ⊎ (end_of r ≤ a)

-- each byte beside a range that is here in a memory is here in another, and each that is a memory's own is the other's
abbrev pub StaysHereBeside : Space → Space → Range → Type 0
StaysHereBeside m n r = (a : ℕ) → m.start ≤ a → IsBeside r a → out_at m a ≡ here → out_at n a ≡ here

abbrev pub StaysOwnBeside : Space → Space → Range → Type 0
StaysOwnBeside m n r = (a : ℕ) → m.start ≤ a → IsBeside r a → is_own (out_at m a) ≡ true → is_own (out_at n a) ≡ true

-- the changes, once a range left
abbrev pub out_without : Space → Range → List Change
out_without m r = left (r.start - m.start) r.len m.out

-- the changes, once a range is written, or came back with values
abbrev pub out_with : Space → Range → List Change
out_with m r = came_back (r.start - m.start) r.len m.out

-- the changes, once a range came back without values
abbrev pub out_raw : Space → Range → List Change
out_raw m r = came_raw (r.start - m.start) r.len m.out

-- which memory it is: its start, its length and the view of it, which stay
pub record Home : Type 0 where
  pub start : ℕ
  pub len : ℕ
  pub view : View

-- which memory this one is
abbrev pub home_of : Space → Home
home_of m = record { start = m.start; len = length m.bytes; view = m.view }

-- the place in the block of the byte at an address
abbrev pub place_in : View → ℕ → ℕ
place_in v a = (v.shift + a) % 2 ^ 64

-- the address of a word whose eight bytes are here
abbrev pub IsReadable : Space → ℕ → Type 0
IsReadable m a = (a % 8 ≡ 0) × LiesIn (word_range a) m.start (length m.bytes) × IsHere m (word_range a)

-- the address of a word whose eight bytes are the memory's own: they may be raw
abbrev pub IsWritable : Space → ℕ → Type 0
IsWritable m a = (a % 8 ≡ 0) × LiesIn (word_range a) m.start (length m.bytes) × IsOwned m (word_range a)

-- a word is written at an address, and one touch is counted: its eight bytes are here then, and every other byte is as it was
pub record WritesWord (m n : Space) (a word : ℕ) : Type 0 where
  pub start : n.start ≡ m.start
  pub bytes : n.bytes ≡ with_word m a word
  pub len : length n.bytes ≡ length m.bytes
  pub touches : n.touches ≡ m.touches + 1
  pub copied : n.copied ≡ m.copied
  pub view : n.view ≡ m.view
  pub out : n.out ≡ out_with m (word_range a)
  pub own : SameOwn m n
  pub here : IsHere n (word_range a)
  pub stays : StaysHere m n

-- the block is aligned to 16: an address that is a multiple of 16 is that of a unit of 16 bytes
abbrev pub HasUnits : Space → Type 0
HasUnits m = m.view.shift % 16 ≡ 0
