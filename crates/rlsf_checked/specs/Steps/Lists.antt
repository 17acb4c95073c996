-- The list of pools as the allocator keeps it.
use Rattle.std.specs.Prelude.{◌<◌}
use Rattle.std.specs.Vec.{vec_capacity, vec_len}
use Rattle.rlsf_checked.specs.Checked.{PoolList, pools_of}
use Rattle.rlsf_checked.specs.declared.pools.Pools.{Pools}

-- the pools in it
abbrev pub listed : Pools → PoolList
listed p = pools_of p.earlier.items p.last

-- if there is a last pool, it has room beside the earlier ones
abbrev pub HasRoomForLast : Pools → Type 0
HasRoomForLast p = 0 < p.last.len → vec_len p.earlier < vec_capacity p.earlier
