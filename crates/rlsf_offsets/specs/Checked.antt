-- When each error of the checked form is returned. The cases exclude each other, so each result is returned exactly if its condition holds.
use Rattle.std.specs.Prelude.{◌≡◌, ◌⊎◌, ℕ, ◌*◌, ◌/◌, ◌<◌, ◌≤◌, Option, Some, None, Result, Ok, Err, IsSome}
use Rattle.rlsf_model_sizes.specs.PowerOfTwo.{IsPowerOfTwo}
use Rattle.rlsf_offsets.specs.declared.error.OffsetError.{OffsetError}
use Rattle.rlsf_offsets.specs.declared.error.OffsetError.TheVariants.{BadAlign, NoRoom, TooLong, TooShort, UnknownOffset}
use Rattle.rlsf_offsets.specs.Offsets.{HasRoomForBytes, IsFullFor, len_at}
use Rattle.rlsf_offsets.specs.Units.{Offsets, limit_of}

-- an offset at which no range is live is refused
abbrev pub if_range_live : {A : Type 0} → Option ℕ → A → Result A OffsetError
if_range_live None x = Err UnknownOffset
if_range_live (Some n) x = Ok x

-- the length of a live range
abbrev pub len_or : Option ℕ → Result ℕ OffsetError
len_or None = Err UnknownOffset
len_or (Some n) = Ok n

-- an allocation
abbrev pub IsAllocation : ℕ → Offsets → ℕ → ℕ → Result ℕ OffsetError → Type 0
IsAllocation unit v len align (Ok offset) = IsPowerOfTwo align × (len ≤ v.units * unit) × (IsFullFor unit v len align → ⊥)
IsAllocation unit v len align (Err e) =
    ((e ≡ BadAlign) × (IsPowerOfTwo align → ⊥)) ⊎ ((e ≡ TooLong) × IsPowerOfTwo align × (v.units * unit < len))
    ⊎ ((e ≡ NoRoom) × IsPowerOfTwo align × (len ≤ v.units * unit) × IsFullFor unit v len align)

-- a reallocation in place
abbrev pub IsRangeReallocation : ℕ → Offsets → ℕ → ℕ → Result (Unit {0}) OffsetError → Type 0
IsRangeReallocation unit v offset len (Ok x) = IsSome (len_at unit v offset) × HasRoomForBytes unit v offset len
IsRangeReallocation unit v offset len (Err e) =
    ((e ≡ UnknownOffset) × (len_at unit v offset ≡ None)) ⊎ ((e ≡ NoRoom) × IsSome (len_at unit v offset) × (HasRoomForBytes unit v offset len → ⊥))

-- a growth of the space
abbrev pub IsGrowth : ℕ → Offsets → ℕ → Result (Unit {0}) OffsetError → Type 0
IsGrowth unit v len (Ok x) = (v.units ≤ len / unit) × (len / unit ≤ limit_of v)
IsGrowth unit v len (Err e) = ((e ≡ TooLong) × (limit_of v < len / unit)) ⊎ ((e ≡ TooShort) × (len / unit < v.units))
