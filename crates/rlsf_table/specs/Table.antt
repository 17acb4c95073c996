-- The class table: bitmaps of two levels, and where the list of each class begins. The row fl begins at the size
-- 2 ^ (5 + fl), and sl is the place of a class in its row.
use Rattle.std.specs.Prelude.{◌≡◌, ◌↔◌, ℕ, ◌+◌, ◌<◌, Bool, List, [], ◌∷◌, Option, None, Some, length, filter, slice_index, slice_index_or, ◌==◌}
use Rattle.std.specs.List.{list_any}
use Rattle.rlsf_base.specs.declared.memory.range.Range.{Range}
use Rattle.rlsf_model_sizes.specs.SizeClass.{class_of, class_at}
use Rattle.rlsf_base.specs.Space.{Space}
use Rattle.rlsf_int.specs.Bits.{bit}
use Rattle.rlsf_model.specs.Allocate.{has_class}
use Rattle.rlsf_table.specs.FreeList.{Links}

-- the table as contracts see it: the first-level bitmap, the second-level bitmap of each row, and the heads of each row's lists
pub record Table : Type 0 where
  pub first_level : ℕ
  pub second_level : List ℕ
  pub heads : List (List ℕ)

-- whether the class of a range is in a row
abbrev pub is_in_row : ℕ → ℕ → Range → Bool
is_in_row sllen fl f = (class_of sllen f.len).exponent == 5 + fl

-- a size has the class at two indices of a table of so many rows and places
pub record IsClassAt (fllen sllen size fl sl : ℕ) : Type 0 where
  pub row : fl < fllen
  pub place : sl < sllen
  pub class : class_of sllen size ≡ class_at fl sl

-- the ranges of a class, in their order
abbrev pub of_class : ℕ → ℕ → ℕ → List Range → List Range
of_class sllen fl sl free = filter (has_class sllen (class_at fl sl)) free

-- a range has the class at two indices of a table, and none of those before it has
pub record IsNewestAt (fllen sllen : ℕ) (r : Range) (before : List Range) (fl sl : ℕ) : Type 0 where
  pub at : IsClassAt fllen sllen r.len fl sl
  pub first : of_class sllen fl sl before ≡ []

-- where the newest of some free ranges begins, if there is one
abbrev pub newest_of : List Range → Option ℕ
newest_of [] = None
newest_of (f ∷ fs) = Some f.start

-- each of so many rows has so many heads
abbrev pub HasPlaces : ℕ → ℕ → List (List ℕ) → Type 0
HasPlaces fllen sllen heads = (fl : ℕ) → fl < fllen → length (slice_index_or heads fl []) ≡ sllen

-- the head of a class's list: the address of its newest block, or 0
abbrev pub head_at : Table → ℕ → ℕ → ℕ
head_at t fl sl = slice_index (slice_index_or t.heads fl []) sl

-- A bit of the first level is set exactly if a row has a free range. A bit of the second level is set exactly if a class has one
pub record HasBits (fllen sllen : ℕ) (t : Table) (free : List Range) : Type 0 where
  pub rows : length t.second_level ≡ fllen
  pub first : (fl : ℕ) → bit t.first_level fl ≡ list_any (is_in_row sllen fl) free
  pub second : (fl sl : ℕ) → fl < fllen → bit (slice_index t.second_level fl) sl ≡ list_any (has_class sllen (class_at fl sl)) free

-- each class has a head, from which the links of its free ranges encode them in their order, in both directions
pub record HasLists (fllen sllen : ℕ) (m : Space) (t : Table) (free : List Range) : Type 0 where
  pub rows : length t.heads ≡ fllen
  pub places : HasPlaces fllen sllen t.heads
  pub links : (fl sl : ℕ) → fl < fllen → sl < sllen → Links m 0 (of_class sllen fl sl free) (head_at t fl sl)

-- the table is that of a list of free ranges, whose blocks are in a memory
pub record HasTable (fllen sllen : ℕ) (m : Space) (t : Table) (free : List Range) : Type 0 where
  pub bits : HasBits fllen sllen t free
  pub lists : HasLists fllen sllen m t free

-- the table t, except for the head at two indices
pub record IsHeadSet (fllen sllen : ℕ) (t u : Table) (fl sl head : ℕ) : Type 0 where
  pub rows : length u.heads ≡ fllen
  pub places : HasPlaces fllen sllen u.heads
  pub set : head_at u fl sl ≡ head
  pub others : (i j : ℕ) → i < fllen → j < sllen → ¬ ((i ≡ fl) × (j ≡ sl)) → head_at u i j ≡ head_at t i j

-- the head shows whether ranges of a class are left: it is 0 exactly if none is
abbrev pub IsHeadOf : ℕ → ℕ → ℕ → ℕ → List Range → Type 0
IsHeadOf sllen fl sl head free = (head ≡ 0) ↔ (of_class sllen fl sl free ≡ [])
