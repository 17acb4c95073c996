-- A class table whose bitmaps and heads agree.
use Rattle.std.specs.Prelude.{◌≡◌, ◌≢◌, ◌↔◌, ℕ, ◌+◌, ◌<◌, Bool, true, List, slice_index}
use Rattle.rlsf_base.specs.Space.{Space, word_at}
use Rattle.rlsf_int.specs.Bits.{bit}
use Rattle.rlsf_table.specs.Table.{IsClassAt, Table, head_at}
use Rattle.rlsf_blocks.specs.Consistency.Linked.{HasFreeSize, HasWord}

-- the first free block of the class at two indices is at the address: it has that class, and no block is before it in its list
pub record IsFirstOf (fllen sllen : ℕ) (ps : List ℕ) (m : Space) (fl sl at : ℕ) : Type 0 where
  pub size : HasFreeSize ps m at
  pub class : IsClassAt fllen sllen (word_at m at) fl sl
  pub first : HasWord ps m (at + 24) 0

-- a class at two indices: its bit is set exactly if it has a head, and its head is the first free block of its list
pub record AgreesAt (fllen sllen : ℕ) (ps : List ℕ) (m : Space) (t : Table) (fl sl : ℕ) : Type 0 where
  pub bit : (bit (slice_index t.second_level fl) sl ≡ true) ↔ (head_at t fl sl ≢ 0)
  pub head : head_at t fl sl ≢ 0 → IsFirstOf fllen sllen ps m fl sl (head_at t fl sl)

-- a row: its bit is set exactly if one of its classes has a head
pub record RowAgrees (fllen sllen : ℕ) (ps : List ℕ) (m : Space) (t : Table) (fl : ℕ) (is_set : Bool) : Type 0 where
  pub bit : (is_set ≡ true) ↔ ((sl : ℕ) × (sl < sllen) × (head_at t fl sl ≢ 0))
  pub classes : (sl : ℕ) → sl < sllen → AgreesAt fllen sllen ps m t fl sl

-- so for each row
abbrev pub HasHeads : ℕ → ℕ → List ℕ → Space → Table → Type 0
HasHeads fllen sllen ps m t = (fl : ℕ) → fl < fllen → RowAgrees fllen sllen ps m t fl (bit t.first_level fl)
