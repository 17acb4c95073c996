-- The heap behind a handle.
use Rattle.std.specs.Borrow.{Fml, full_share}
use Rattle.std.specs.Ptr.{Ptr, lies_at}
use Rattle.std.specs.Prelude.{◌≡◌, ℕ, List, length}
use base.Fml.{fex, fsep}
use denote.Builtin.{u16, u64}
use prog.Memory.{size}
use denote.Param.{layout, number}
use denote.RattleType.{RattleType}
use Rattle.rlsf_base.specs.OpenSpace.{Home}
use Rattle.rlsf_base.specs.Out.{Change}
use Rattle.rlsf_base.specs.Piece.{Piece}
use Rattle.rlsf_base.specs.Steps.Ownership.{lent_at}
use Rattle.rlsf_int.specs.contracts.impls.u16.U16BitPattern.TheImpl.{ghosts as ghosts16}
use Rattle.rlsf_int.specs.contracts.impls.u64.U64BitPattern.TheImpl.{ghosts as ghosts64}
use Rattle.rlsf_heap.specs.Heap.{PayloadView}
use Rattle.rlsf_heap.specs.Loans.{owns_loan}
use Rattle.rlsf_heap.specs.Thin.{owns_reply}
use Rattle.rlsf_heap.specs.contracts.heap.Heap.{the_row}
use Rattle.rlsf_heap.specs.contracts.words.HeapWords.{the_row as words_row}
use Rattle.rlsf_malloc_calls.specs.Parts.{first_of}

-- the type of a large heap
abbrev pub large : RattleType
large = the_row u64 u64 (number 64) (number 64) ghosts64 ghosts64

-- the type of its words, whatever their values are
abbrev pub large_words : RattleType
large_words = words_row u64 u64 (number 64) (number 64) ghosts64 ghosts64

-- the type of a small heap
abbrev pub small : RattleType
small = the_row u16 u16 (number 12) (number 16) ghosts16 ghosts16

-- and of its words
abbrev pub small_words : RattleType
small_words = words_row u16 u16 (number 12) (number 16) ghosts16 ghosts16

-- the type of a heap of 64 rows of 8 classes
abbrev pub large_8 : RattleType
large_8 = the_row u64 u64 (number 64) (number 8) ghosts64 ghosts64

-- and of its words
abbrev pub large_8_words : RattleType
large_8_words = words_row u64 u64 (number 64) (number 8) ghosts64 ghosts64

-- the type of a heap of 64 rows of 32 classes
abbrev pub large_32 : RattleType
large_32 = the_row u64 u64 (number 64) (number 32) ghosts64 ghosts64

-- and of its words
abbrev pub large_32_words : RattleType
large_32_words = words_row u64 u64 (number 64) (number 32) ghosts64 ghosts64

-- a value of a type lies at a pointer, and S is true of it
abbrev pub HoldsValue : (R : RattleType) → (R.Denot → Type 0) → Ptr → R.Denot → Fml
HoldsValue R S p v = fex (S v) (λ _. lies_at R full_share p v)

-- a value of which P is true lies at a pointer
abbrev pub HoldsSome : (R : RattleType) → Ptr → (R.Denot → Type 0) → Fml
HoldsSome R p P = fex ((v : R.Denot) × P v) (λ x. lies_at R full_share p x.0)

-- a value lies at a pointer, and the caller owns F, for a y such that P is true of both
abbrev pub HoldsBeside : (R : RattleType) → Ptr → (Y : Type 0) → (R.Denot → Y → Type 0) → (R.Denot → Y → Fml) → Fml
HoldsBeside R p Y P F = fex ((v : R.Denot) × (y : Y) × P v y) (λ x. fsep (lies_at R full_share p x.0) (F x.0 x.1))

-- a heap of the type R lies at the handle, and the caller owns a payload, such that P is true of both; or no payload, if its address is 0
abbrev pub Gives : (R : RattleType) → Ptr → (R.Denot → PayloadView → Type 0) → Fml
Gives R p P = HoldsBeside R p PayloadView P (λ v q. owns_reply q)

-- a heap of the type R lies at the handle, and the caller owns bytes, such that P is true of both; or none, if their address is 0
abbrev pub Returns : (R : RattleType) → Ptr → (R.Denot → Piece → Type 0) → Fml
Returns R p P = HoldsBeside R p Piece P (λ v q. owns_loan q)

-- the number of bytes of a handle of a heap of the type R
abbrev pub handle_size : RattleType → ℕ
handle_size R = size (layout R)

-- of the bytes of a memory, where they lie, those that aren't out by these changes, of which P is true, each with some value
abbrev pub rest_of : Home → List Change → Type 0 → Fml
rest_of h cs P = fex ((bytes : List ℕ) × (length bytes ≡ h.len) × P) (λ x. lent_at (first_of h) h.start x.0 cs)
