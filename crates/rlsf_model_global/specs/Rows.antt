-- The table of live addresses: entries sorted by address.
use Rattle.std.specs.Prelude.{ℕ, ◌<◌, List, [], ◌∷◌, ◌==◌, not, filter, find, Option, nat_lt, if◌then◌else◌}
use Rattle.std.specs.declared.num.NonZeroUsize.{NonZeroUsize}
use Rattle.rlsf_base.specs.declared.memory.layout.Layout.{Layout}
use Rattle.rlsf_base.specs.Addr.{at}
use Rattle.rlsf_model.specs.Lists.{IsIn}

-- a live address, with its last requested layout
abbrev pub Row : Type 0
Row = NonZeroUsize × Layout

-- the address of an entry
abbrev pub key : Row → ℕ
key r = at r.0

-- the addresses rise, so none comes twice
abbrev pub IsSorted : List Row → Type 0
IsSorted [] = Unit {0}
IsSorted (r ∷ rows) = ((s : Row) → IsIn s rows → key r < key s) × IsSorted rows

-- the entry of an address
abbrev pub row_at : ℕ → List Row → Option Row
row_at addr rows = find (λ r. key r == addr) rows

-- the entries with one more, in its place by the address; it takes the place of one with its address
abbrev pub put : Row → List Row → List Row
put row [] = row ∷ []
put row (r ∷ rows) = if nat_lt (key r) (key row) then r ∷ put row rows else if key r == key row then row ∷ rows else row ∷ r ∷ rows

-- the entries except for that of an address
abbrev pub without_row : ℕ → List Row → List Row
without_row addr rows = filter (λ r. not (key r == addr)) rows
