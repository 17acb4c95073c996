-- An allocator of offsets as its callers see it: where live ranges begin, and how many bytes they have.
use Rattle.std.specs.Prelude.{◌≡◌, ◌≢◌, ℕ, zero, suc, ◌+◌, ◌-◌, ◌*◌, ◌/◌, ◌%◌, ◌<◌, ◌≤◌, Option, Some, None, IsSome}
use Rattle.std.specs.Option.{option_map}
use Rattle.rlsf_offsets.specs.Units.{ArePiecesApart, HasRoomInPlace, HasNoRoomFor, IsLonger, IsReleased, IsReserved, IsRangeResized, IsSpaceUnchanged, Offsets, SucceedsWithin, units_at}

-- how many units so many bytes take: the fewest that have them, and at least one
abbrev pub units_of_bytes : ℕ → ℕ → ℕ
units_of_bytes unit bytes = (bytes - 1) / unit + 1

-- the length of a range of so many bytes: these bytes, rounded up to units
abbrev pub rounded : ℕ → ℕ → ℕ
rounded unit bytes = units_of_bytes unit bytes * unit

-- what is at a multiple of the unit, by the rest of an offset
abbrev pub at_multiple : ℕ → Option ℕ → Option ℕ
at_multiple zero o = o
at_multiple (suc rest) o = None

-- the bytes of the live range at an offset, or none where no range begins
unfoldable pub len_at : ℕ → Offsets → ℕ → Option ℕ
len_at unit v offset = at_multiple (offset % unit) (option_map (λ (n : ℕ). n * unit) (units_at v (offset / unit)))

-- live ranges lie in the space, are not empty, begin and end at multiples of the unit, and no two of them have a byte in common
pub record IsDivided (unit : ℕ) (v : Offsets) : Type 0 where
  pub inside : (o n : ℕ) → len_at unit v o ≡ Some n → (0 < n) × (o + n ≤ v.units * unit)
  pub whole : (o n : ℕ) → len_at unit v o ≡ Some n → (o % unit ≡ 0) × (n % unit ≡ 0)
  pub apart : (o n p m : ℕ) → len_at unit v o ≡ Some n → len_at unit v p ≡ Some m → o ≢ p → ArePiecesApart o n p m

-- a range for so many bytes was allocated at the offset
pub record IsRangeAllocated (unit : ℕ) (before after : Offsets) (len align offset : ℕ) : Type 0 where
  -- it is live, with these bytes rounded up to units
  pub live : len_at unit after offset ≡ Some (rounded unit len)
  -- they are at least as many
  pub long : len ≤ rounded unit len
  -- and less than one unit more
  pub few : 0 < len → rounded unit len < len + unit
  -- none was live there before
  pub new : len_at unit before offset ≡ None
  -- it lies in the space
  pub inside : offset + rounded unit len ≤ before.units * unit
  -- the offset is a multiple of the unit
  pub whole : offset % unit ≡ 0
  -- and of the alignment
  pub aligned : offset % align ≡ 0
  -- it has no byte of a range that was live
  pub apart : (o n : ℕ) → len_at unit before o ≡ Some n → ArePiecesApart o n offset (rounded unit len)
  -- so it isn't where one was live
  pub other : (o : ℕ) → IsSome (len_at unit before o) → o ≢ offset
  -- the other ranges are as they were
  pub others : (o : ℕ) → o ≢ offset → len_at unit after o ≡ len_at unit before o
  -- those that were live are live
  pub stay : (o : ℕ) → IsSome (len_at unit before o) → IsSome (len_at unit after o)
  -- the space is as long
  pub space : after.units ≡ before.units
  -- the same in units
  pub units : IsReserved before after (units_of_bytes unit len) (units_of_bytes unit align) (offset / unit)

-- the range at the offset was deallocated
pub record IsRangeDeallocated (unit : ℕ) (before after : Offsets) (offset : ℕ) : Type 0 where
  -- none is live there
  pub gone : len_at unit after offset ≡ None
  -- the other ranges are as they were
  pub others : (o : ℕ) → o ≢ offset → len_at unit after o ≡ len_at unit before o
  -- those that were live are live
  pub stay : (o : ℕ) → o ≢ offset → IsSome (len_at unit before o) → IsSome (len_at unit after o)
  -- the space is as long
  pub space : after.units ≡ before.units
  -- the same in units
  pub units : IsReleased before after (offset / unit)

-- the range at the offset is for so many bytes now, in place
pub record IsRangeReallocated (unit : ℕ) (before after : Offsets) (len offset : ℕ) : Type 0 where
  -- it is live, with these bytes rounded up to units
  pub live : len_at unit after offset ≡ Some (rounded unit len)
  -- they are at least as many
  pub long : len ≤ rounded unit len
  -- and less than one unit more
  pub few : 0 < len → rounded unit len < len + unit
  -- it lies in the space
  pub inside : offset + rounded unit len ≤ before.units * unit
  -- it has no byte of another live range
  pub apart : (o n : ℕ) → o ≢ offset → len_at unit before o ≡ Some n → ArePiecesApart o n offset (rounded unit len)
  -- the other ranges are as they were
  pub others : (o : ℕ) → o ≢ offset → len_at unit after o ≡ len_at unit before o
  -- those that were live are live
  pub stay : (o : ℕ) → IsSome (len_at unit before o) → IsSome (len_at unit after o)
  -- the space is as long
  pub space : after.units ≡ before.units
  -- the same in units
  pub units : IsRangeResized before after (units_of_bytes unit len) (offset / unit)

-- the space has so many bytes now, without those behind its last complete unit
pub record IsSpaceGrown (unit : ℕ) (before after : Offsets) (len : ℕ) : Type 0 where
  -- it has its units
  pub space : after.units ≡ len / unit
  -- all ranges are as they were
  pub others : (o : ℕ) → len_at unit after o ≡ len_at unit before o
  -- the same in units; all that are new are free
  pub units : IsLonger before after (len / unit)

-- a refused call changes no range
pub record KeepsRanges (unit : ℕ) (before after : Offsets) : Type 0 where
  -- all ranges are as they were
  pub others : (o : ℕ) → len_at unit after o ≡ len_at unit before o
  -- those that were live are live
  pub stay : (o : ℕ) → IsSome (len_at unit before o) → IsSome (len_at unit after o)
  -- nothing else changes but the number of word accesses
  pub unchanged : IsSpaceUnchanged before after

-- the live range at an offset can be for so many bytes in place: it has them, or a free range that begins at its end has the rest
abbrev pub HasRoomForBytes : ℕ → Offsets → ℕ → ℕ → Type 0
HasRoomForBytes unit v offset len = HasRoomInPlace v (offset / unit) (units_of_bytes unit len)

-- no free range has a class that reaches so many bytes, rounded up to units, and the units that the alignment may leave in front
abbrev pub IsFullFor : ℕ → Offsets → ℕ → ℕ → Type 0
IsFullFor unit v len align = HasNoRoomFor v (units_of_bytes unit len + units_of_bytes unit align - 1)

-- ---- bounds

-- within the bounds that the space is sized for, an allocation succeeds
abbrev pub SucceedsFor : ℕ → Offsets → ℕ → ℕ → Type 0 → Type 0
SucceedsFor unit v len align succeeds = SucceedsWithin v (units_of_bytes unit len) (units_of_bytes unit align) succeeds
