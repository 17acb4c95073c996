-- Handles: numbers that count up, each with a value.
use Rattle.std.specs.Prelude.{ℕ, ◌+◌, ◌<◌, ◌≤◌, List, [], ◌∷◌, ◌++◌, length, map, IsSomeAnd, nat_eq}
use Rattle.std.specs.List.{AllByRecursion}
use Rattle.std.specs.Map.{lookup, set_value, values_of}
use Rattle.rlsf_base.specs.Addr.{at}
use Rattle.rlsf_base.specs.declared.memory.range.Range.{Range}
use Rattle.rlsf_base.specs.Space.{range_of}
use Rattle.rlsf_model.specs.State.{State}
use Rattle.rlsf_example_libraries.specs.Stored.{StoreContents, KeepsAt, Place, bytes_at_place}
use Rattle.rlsf_example_libraries.specs.declared.handles.Spot.{Spot}

-- the handles with where their bytes are stored, in the order of the handles, and the number that the next one has
pub record HandleRows : Type 0 where
  pub rows : List (ℕ × Spot)
  pub next : ℕ

-- each handle is below a number
abbrev pub AreBelow : {A : Type 0} → List (ℕ × A) → ℕ → Type 0
AreBelow es n = AllByRecursion (λ e. e.0 < n) es

-- the entries with f of each value
abbrev pub map_values : {A B : Type 0} → (A → B) → List (ℕ × A) → List (ℕ × B)
map_values f es = map (λ e. (e.0, f e.1)) es

-- the place of a spot, at an alignment
abbrev pub place_at : ℕ → Spot → Place
place_at align s = record { addr = at s.addr; align = align; len = s.len }

-- the bytes of each handle, at the places that the rows have
abbrev pub lists_in : StoreContents → ℕ → List (ℕ × Spot) → List (ℕ × List ℕ)
lists_in v align rows = map_values (λ s. bytes_at_place v.heap.memory (place_at align s)) rows

-- where the bytes of the handles are
abbrev pub places_in : ℕ → List (ℕ × Spot) → List Place
places_in align rows = map (place_at align) (values_of rows)

-- the store keeps a list of bytes for each handle, at the places that the rows have, and nothing else
abbrev pub IsHandled : StoreContents → ℕ → List (ℕ × Spot) → Type 0
IsHandled v align rows = KeepsAt v (places_in align rows)

-- lists of bytes by their handles, in the order of the handles; the number that the next handle has; the alignment and the
-- memory of their payloads; and the state of their allocator
pub record Handled : Type 0 where
  pub lists : List (ℕ × List ℕ)
  pub next : ℕ
  pub align : ℕ
  pub memory : Range
  pub state : State

-- these by their parts
abbrev pub handled : List (ℕ × List ℕ) → ℕ → ℕ → Range → State → Handled
handled lists next align memory state = record { lists = lists; next = next; align = align; memory = memory; state = state }

-- with one more list of bytes, under a new handle, and another state of the allocator
abbrev pub with_list : Handled → ℕ → List ℕ → State → Handled
with_list h handle bytes state = record h { lists = h.lists ++ (handle, bytes) ∷ []; next = handle + 1; state = state }

-- with other bytes under a handle, and another state of the allocator
abbrev pub with_handled_bytes : Handled → ℕ → List ℕ → State → Handled
with_handled_bytes h handle bytes state = record h { lists = set_value (nat_eq handle) h.lists bytes; state = state }

-- with this many more bytes the list of a handle is no longer than a size
abbrev pub IsShortWithMore : Handled → ℕ → ℕ → ℕ → Type 0
IsShortWithMore h handle more size = IsSomeAnd (lookup (nat_eq handle) h.lists) (λ old. length old + more ≤ size)

-- a store with handles, as callers see it
abbrev pub handled_by : StoreContents → ℕ → HandleRows → Handled
handled_by v align h = handled (lists_in v align h.rows) h.next align (range_of v.heap.memory) v.heap.state
