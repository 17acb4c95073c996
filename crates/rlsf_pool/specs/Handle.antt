-- The pool or the space behind a handle.
use Rattle.std.specs.Borrow.{Fml, full_share}
use Rattle.std.specs.Ptr.{Ptr, lies_at, room_at}
use Rattle.std.specs.Prelude.{ℕ}
use base.Fml.{fex}
use prog.Memory.{size}
use denote.Param.{layout}
use Rattle.rlsf_pool_calls.specs.Seen.{PoolValue}
use Rattle.rlsf_pool_calls.specs.Spaces.{SpaceValue}
use Rattle.rlsf_pool_calls.specs.contracts.pool.Pool.{the_row}
use Rattle.rlsf_pool_calls.specs.contracts.space.OffsetSpace.{the_row as the_space}

-- a pool lies at the handle
abbrev pub HoldsPool : Ptr → PoolValue → Fml
HoldsPool p v = lies_at the_row full_share p v

-- a pool of which P is true
abbrev pub SomePool : (PoolValue → Type 0) → Type 0
SomePool P = (v : PoolValue) × P v

-- a pool of which P is true lies at the handle
abbrev pub HoldsSomePool : Ptr → (PoolValue → Type 0) → Fml
HoldsSomePool p P = fex (SomePool P) (λ x. lies_at the_row full_share p x.0)

-- there is room for a pool at the handle
abbrev pub HasRoomForPool : Ptr → Fml
HasRoomForPool p = room_at the_row p

-- how many bytes that room has
abbrev pub room_size : ℕ
room_size = size (layout the_row)

-- a space lies at the handle
abbrev pub HoldsSpace : Ptr → SpaceValue → Fml
HoldsSpace p v = lies_at the_space full_share p v

-- a space of which P is true
abbrev pub SomeSpace : (SpaceValue → Type 0) → Type 0
SomeSpace P = (v : SpaceValue) × P v

-- a space of which P is true lies at the handle
abbrev pub HoldsSomeSpace : Ptr → (SpaceValue → Type 0) → Fml
HoldsSomeSpace p P = fex (SomeSpace P) (λ x. lies_at the_space full_share p x.0)

-- there is room for a space at the handle
abbrev pub HasRoomForSpace : Ptr → Fml
HasRoomForSpace p = room_at the_space p

-- how many bytes that room has
abbrev pub space_size : ℕ
space_size = size (layout the_space)
