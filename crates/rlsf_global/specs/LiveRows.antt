-- The table of live payloads as contracts see it, and how it is kept.
use Rattle.std.specs.Prelude.{◌≡◌, ℕ, ◌+◌, ◌*◌, ◌^◌, ◌<◌, ◌≤◌, ◌%◌, List, Option, Some, None, length}
use Rattle.std.specs.Vec.{vec_capacity}
use Rattle.rlsf_base.specs.declared.memory.layout.Layout.{Layout}
use Rattle.rlsf_model_sizes.specs.PowerOfTwo.{floor_log2}
use Rattle.rlsf_codes.specs.Codes.{CodeSpace, HasCapacity, code_at, code_space, look_count}
use Rattle.rlsf_codes.specs.declared.codes.Codes.{Codes}
use Rattle.rlsf_model.specs.Lists.{IsIn}
use Rattle.rlsf_model_global.specs.Rows.{IsSorted, Row, key, row_at}

-- A table as contracts see it: the entries in the order of their addresses, for how many codes it has room, the addresses that have codes, and
-- how many codes calls have read or written.
pub record LiveRows : Type 0 where
  pub rows : List Row
  pub room : ℕ
  pub space : CodeSpace ℕ
  pub looks : ℕ

-- the value of a table by its parts
abbrev pub live_rows : List Row → Codes ℕ → LiveRows
live_rows rows c = record { rows = rows; room = vec_capacity c.codes; space = code_space c; looks = look_count c }

-- the same table, after one more code was read
abbrev pub looked : LiveRows → LiveRows
looked t = record { rows = t.rows; room = t.room; space = t.space; looks = t.looks + 1 }

-- the table has room for all codes, so it asks the system for nothing more
abbrev pub HasCodes : LiveRows → Type 0
HasCodes t = t.space.count ≤ t.room

-- What the table keeps of a layout: the last five bits of its size, and the logarithm of its alignment. It is never 0.
abbrev pub code_of : Layout → ℕ
code_of l = 1 + l.size % 32 + 32 * floor_log2 l.align

-- the code of an entry, and 0 for none
abbrev pub code_in : Option Row → ℕ
code_in None = 0
code_in (Some r) = code_of r.1

-- each address has the code of its entry, and 0 if it has no place
unfoldable pub AreCoded : Codes ℕ → List Row → Type 0
AreCoded codes rows = (codes.none ≡ 0) × ((a : ℕ) → code_at codes a ≡ code_in (row_at a rows))

-- each entry's address is one of a machine
unfoldable pub AreAddresses : List Row → Type 0
AreAddresses rows = (r : Row) → IsIn r rows → key r < 2 ^ 64

-- What is true of each table: its entries are sorted, counted and have their codes, and if there is one, there is room for all codes.
pub record IsLiveTable (codes : Codes ℕ) (rows : List Row) (live : ℕ) : Type 0 where
  pub coded : AreCoded codes rows
  pub sorted : IsSorted rows
  pub addresses : AreAddresses rows
  pub counted : live ≡ length rows
  pub ready : 0 < live → HasCapacity codes

-- a payload with so many usable bytes may have the layout, and this is the layout's code
pub record IsToldBy (code usable : ℕ) (l : Layout) : Type 0 where
  pub coded : code ≡ code_of l
  pub enough : l.size ≤ usable
  pub few : usable < l.size + 32
