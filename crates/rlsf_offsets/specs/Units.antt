-- An allocator of units: its space, the ranges of units that are live, and what its calls do to them.
use Rattle.std.specs.Prelude.{◌≡◌, ◌≢◌, ◌⊎◌, ℕ, ◌+◌, ◌-◌, ◌*◌, ◌/◌, ◌%◌, ◌^◌, ◌<◌, ◌≤◌, [], ◌∷◌, length, Option, Some, None}
use Rattle.std.specs.Option.{option_map}
use Rattle.rlsf_base.specs.declared.memory.range.Range.{Range}
use Rattle.rlsf_base.specs.OpenSpace.{IsOwned}
use Rattle.rlsf_base.specs.Range.{range_at}
use Rattle.rlsf_model_sizes.specs.SizeClass.{Reaches, class_of}
use Rattle.rlsf_model_sizes.specs.Sizes.{pool_size_for_payloads}
use Rattle.rlsf_base.specs.Space.{Space, range_of}
use Rattle.rlsf_blocks.specs.StandsFor.{contents, StandsFor}
use Rattle.rlsf_model.specs.Callers.{align_at, bytes_at}
use Rattle.rlsf_model.specs.Lists.{IsIn}
use Rattle.rlsf_model.specs.Sized.{IsSizedFor, live_count}
use Rattle.rlsf_model.specs.State.{State, Used}
use Rattle.rlsf_table.specs.Table.{Table}
use Rattle.rlsf_tlsf.specs.Allocator.{Allocator, allocator}
use Rattle.rlsf_tlsf.specs.Steps.Moves.{bare}

-- the number of units of the space, and the allocator of the shadow: 32 bytes for each unit, and 32 more
pub record Offsets : Type 0 where
  pub units : ℕ
  pub shadow : Allocator

-- the same by its parts
abbrev pub offsets : ℕ → Allocator → Offsets
offsets n a = record { units = n; shadow = a }

-- the most units that the space can have: its shadow has 32 bytes for each, and 32 more
abbrev pub limit_of : Offsets → ℕ
limit_of v = length v.shadow.memory.bytes / 32 - 1

-- where the payload for a range of units lies: 32 bytes past the shadow of its first unit
abbrev pub place : ℕ → ℕ
place offset = 2 ^ 62 + 32 * offset

-- how many units the range at an offset has, or none where no range begins
unfoldable pub units_at : Offsets → ℕ → Option ℕ
units_at v offset = option_map (λ (align : ℕ). length (bytes_at v.shadow.state (place offset)) / 32 + 1) (align_at v.shadow.state (place offset))

-- the alignment in units of the range at an offset, or none where no range begins
unfoldable pub align_of : Offsets → ℕ → Option ℕ
align_of v offset = option_map (λ (align : ℕ). align / 32) (align_at v.shadow.state (place offset))

-- two ranges of units have none in common
abbrev pub ArePiecesApart : ℕ → ℕ → ℕ → ℕ → Type 0
ArePiecesApart o n p m = (o + n ≤ p) ⊎ (p + m ≤ o)

-- live ranges lie in the space, are not empty, and no two of them have a unit in common
pub record IsSpace (v : Offsets) : Type 0 where
  pub inside : (o n : ℕ) → units_at v o ≡ Some n → (0 < n) × (o + n ≤ v.units)
  pub apart : (o n p m : ℕ) → units_at v o ≡ Some n → units_at v p ≡ Some m → o ≢ p → ArePiecesApart o n p m

-- a range of exactly so many units was allocated at the offset
pub record IsReserved (before after : Offsets) (units align offset : ℕ) : Type 0 where
  -- it is live, and has exactly these units
  pub live : units_at after offset ≡ Some units
  -- none was live there before
  pub new : units_at before offset ≡ None
  -- it lies in the space
  pub inside : offset + units ≤ before.units
  -- its offset is a multiple of the alignment
  pub aligned : offset % align ≡ 0
  -- it has no unit of a range that was live
  pub apart : (o n : ℕ) → units_at before o ≡ Some n → ArePiecesApart o n offset units
  -- it has the alignment
  pub has_align : align_of after offset ≡ Some align
  -- the other ranges are as they were
  pub others : (o : ℕ) → o ≢ offset → (units_at after o ≡ units_at before o) × (align_of after o ≡ align_of before o)
  -- and the space has as many units
  pub space : after.units ≡ before.units
  -- and can have as many
  pub limit : limit_of after ≡ limit_of before

-- the range at the offset was deallocated
pub record IsReleased (before after : Offsets) (offset : ℕ) : Type 0 where
  pub gone : (units_at after offset ≡ None) × (align_of after offset ≡ None)
  pub others : (o : ℕ) → o ≢ offset → (units_at after o ≡ units_at before o) × (align_of after o ≡ align_of before o)
  pub space : after.units ≡ before.units
  pub limit : limit_of after ≡ limit_of before

-- So many units from o on lie in the space. None of them is in a live range, or so near before one that its alignment may have left it
-- out: at an alignment of one unit, nothing is left out
pub record IsFreeRun (v : Offsets) (o units : ℕ) : Type 0 where
  pub inside : o + units ≤ v.units
  pub clear : (p n align : ℕ) → units_at v p ≡ Some n → align_of v p ≡ Some align → (p + n ≤ o) ⊎ (o + units + align ≤ p + 1)

-- no free range has a size class that reaches so many units
unfoldable pub HasNoRoomFor : Offsets → ℕ → Type 0
HasNoRoomFor v units = (f : Range) → IsIn f v.shadow.state.free → Reaches 8 (class_of 8 f.len) (32 * units) → ⊥

-- a free range begins at a unit, and has so many units
unfoldable pub IsFreeRange : Offsets → ℕ → ℕ → Type 0
IsFreeRange v o units = IsIn (range_at (2 ^ 62 - 32 + 32 * o) (32 * units)) v.shadow.state.free

-- the live range at an offset can have so many units in place: it has them, or a free range that begins at its end has the rest
pub record HasRoomInPlace (v : Offsets) (offset units : ℕ) : Type 0 where
  pub now : ℕ
  pub live : units_at v offset ≡ Some now
  pub room : (units ≤ now) ⊎ ((more : ℕ) × IsFreeRange v (offset + now) more × (units ≤ now + more))

-- the live range at an offset got exactly so many units in place
pub record IsRangeResized (before after : Offsets) (units offset : ℕ) : Type 0 where
  -- it is live, and has exactly these units
  pub live : units_at after offset ≡ Some units
  -- it lies in the space
  pub inside : offset + units ≤ before.units
  -- it has no unit of another live range
  pub apart : (o n : ℕ) → o ≢ offset → units_at before o ≡ Some n → ArePiecesApart o n offset units
  -- it has its alignment
  pub has_align : align_of after offset ≡ align_of before offset
  -- the other ranges are as they were
  pub others : (o : ℕ) → o ≢ offset → (units_at after o ≡ units_at before o) × (align_of after o ≡ align_of before o)
  -- and the space has as many units
  pub space : after.units ≡ before.units
  -- and can have as many
  pub limit : limit_of after ≡ limit_of before

-- the space got so many units
pub record IsLonger (before after : Offsets) (units : ℕ) : Type 0 where
  -- it has so many
  pub space : after.units ≡ units
  -- all ranges are as they were
  pub same : (o : ℕ) → (units_at after o ≡ units_at before o) × (align_of after o ≡ align_of before o)
  -- all units that it did not have are free
  pub free : IsFreeRun after before.units (units - before.units)
  -- and it can have as many as before
  pub limit : limit_of after ≡ limit_of before

-- nothing is live
unfoldable pub IsEmpty : Offsets → Type 0
IsEmpty v = (o : ℕ) → units_at v o ≡ None

-- ---- bounds

-- the space is sized for ranges within these bounds: while `count` or fewer are live, one more of at most so many units, at a multiple of
-- at most this alignment, is never refused
abbrev pub IsSizedForUnits : ℕ → ℕ → ℕ → Offsets → Type 0
IsSizedForUnits count units align v = IsSizedFor 8 count (32 * (units - 1)) (32 * align) v.shadow.state

-- an empty space is sized for all bounds that it is long enough for
unfoldable pub SizesSpace : Offsets → Type 0
SizesSpace v = (count units align len : ℕ) → pool_size_for_payloads 59 8 count (32 * (units - 1)) (32 * align) ≡ Some len → len ≤ 32 * v.units + 32
    → IsSizedForUnits count units align v

-- within the bounds that the space is sized for, an allocation succeeds
unfoldable pub SucceedsWithin : Offsets → ℕ → ℕ → Type 0 → Type 0
SucceedsWithin before units align succeeds =
    (count most widest : ℕ) → IsSizedForUnits count most widest before → live_count before.shadow.state ≤ count → units ≤ most → align ≤ widest → succeeds

-- the space stays sized for all bounds that include so many units and this alignment
unfoldable pub KeepsSizedFor : Offsets → Offsets → ℕ → ℕ → Type 0
KeepsSizedFor before after units align =
    (count most widest : ℕ) → IsSizedForUnits count most widest before → units ≤ most → align ≤ widest → IsSizedForUnits count most widest after

-- the space stays sized for all bounds that include so many units, and the alignment of the range at an offset
unfoldable pub KeepsSizedThere : Offsets → Offsets → ℕ → ℕ → Type 0
KeepsSizedThere before after offset units =
    (count most widest align : ℕ) → IsSizedForUnits count most widest before → align_of before offset ≡ Some align → units ≤ most → align ≤ widest
    → IsSizedForUnits count most widest after

-- the space stays sized for all bounds
unfoldable pub KeepsSpaceSized : Offsets → Offsets → Type 0
KeepsSpaceSized before after = (count most widest : ℕ) → IsSizedForUnits count most widest before → IsSizedForUnits count most widest after

-- a refused call changes nothing but the number of word accesses
pub record IsSpaceUnchanged (before after : Offsets) : Type 0 where
  pub space : after.units ≡ before.units
  pub limit : limit_of after ≡ limit_of before
  pub same : after.shadow.state ≡ before.shadow.state

-- ---- the shadow

-- each payload lies at a multiple of 32, and its alignment is one
abbrev pub AreWhole : State → Type 0
AreWhole s = (u : Used) → IsIn u s.used → (u.payload % 32 ≡ 0) × (u.align % 32 ≡ 0)

-- the shadow of so many units, and 32 bytes more
abbrev pub whole_shadow : ℕ → Range
whole_shadow units = range_at (2 ^ 62 - 32) (32 * units + 32)

-- What is true of every shadow: memory and class table represent the state, and each byte is the memory's own. Where the space has a unit, the
-- one chunk is the shadow of its units; behind it is what the space can grow by
pub record IsShadow (units : ℕ) (a : Allocator) : Type 0 where
  pub stands : StandsFor 59 8 (contents a.memory a.table) a.state
  pub own : IsOwned a.memory (range_of a.memory)
  pub start : a.memory.start ≡ 2 ^ 62 - 32
  pub len : 32 * units + 32 ≤ length a.memory.bytes
  pub few : units ≤ 2 ^ 56
  pub most : length a.memory.bytes ≤ 32 * 2 ^ 56 + 32
  pub whole : AreWhole a.state
  pub chunks : 0 < units → a.state.chunks ≡ whole_shadow units ∷ []
  pub none : units ≡ 0 → a.state.chunks ≡ []

-- what is true of the fields of every allocator
pub record IsUnitAllocator (units : ℕ) (m : Space) (t : Table) (s : State) : Type 0 where
  pub shadow : IsShadow units (allocator m t s)
  pub is_bare : bare s ≡ s
