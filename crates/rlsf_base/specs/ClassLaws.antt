-- Laws of size classes, of what is computed of sizes, and of pools that are made for one allocation. Each is of every
-- allocator whose parameters are valid.
use Rattle.std.specs.Prelude.{◌≡◌, ℕ, ◌-◌, ◌≤◌, Some, None, IsSome}
use Rattle.rlsf_model_sizes.specs.SizeClass.{SizeClass, IsFirstReaching, IsValid, IsValidClass, Reaches, class_of}
use Rattle.rlsf_model_sizes.specs.Sizes.{IsSize, map_floor, map_ceil, map_ceil_and_unmap, max_pool_size, pool_size_to_contain_allocation, request_size, valid_indices}

-- `map_ceil` gives the first of all classes that reach the size, by its indices, where that class is valid, and else nothing
abbrev pub MappedIsFirstReaching : Type 0
MappedIsFirstReaching = (fl_bits sl_bits fllen sllen size : ℕ) → IsValid fl_bits sl_bits fllen sllen → IsSize size
    → (c : SizeClass) × IsFirstReaching sllen size c × (map_ceil fllen sllen size ≡ valid_indices fllen c)

-- the least size of the first class that reaches a size is a size, and at least that
abbrev pub UnmappedIsEnough : Type 0
UnmappedIsEnough = (fl_bits sl_bits fllen sllen size m : ℕ) → IsValid fl_bits sl_bits fllen sllen → IsSize size → map_ceil_and_unmap fllen sllen size ≡ Some m
    → IsSize m × (size ≤ m)

-- it is of the first class that reaches it, and of the first class that reaches the size
abbrev pub UnmappedBeginsItsClass : Type 0
UnmappedBeginsItsClass = (fl_bits sl_bits fllen sllen size m : ℕ) → IsValid fl_bits sl_bits fllen sllen → IsSize size → map_ceil_and_unmap fllen sllen size ≡ Some m
    → (map_floor fllen sllen m ≡ map_ceil fllen sllen m) × (map_floor fllen sllen m ≡ map_ceil fllen sllen size)

-- a size that no class reaches has none
abbrev pub UnreachedIsNotUnmapped : Type 0
UnreachedIsNotUnmapped = (fl_bits sl_bits fllen sllen size : ℕ) → IsValid fl_bits sl_bits fllen sllen → IsSize size → map_ceil fllen sllen size ≡ None
    → map_ceil_and_unmap fllen sllen size ≡ None

-- the block of the longest chunk has a class, and one 32 bytes longer has none
abbrev pub LongestBlockHasAClass : Type 0
LongestBlockHasAClass = (fl_bits sl_bits fllen sllen p : ℕ) → IsValid fl_bits sl_bits fllen sllen → max_pool_size fllen ≡ Some p
    → IsSome (map_floor fllen sllen (p - 32)) × (map_floor fllen sllen p ≡ None)

-- a pool that is made for an allocation is no longer than the longest chunk, so it is one chunk
abbrev pub PoolIsOneChunk : Type 0
PoolIsOneChunk = (fl_bits sl_bits fllen sllen size align e p : ℕ) → IsValid fl_bits sl_bits fllen sllen → pool_size_to_contain_allocation fllen sllen size align ≡ Some e
    → max_pool_size fllen ≡ Some p
    → e ≤ p

-- its one block, 32 bytes shorter, has a class that reaches what is sought for the allocation
abbrev pub PoolContainsItsAllocation : Type 0
PoolContainsItsAllocation = (fl_bits sl_bits fllen sllen size align e : ℕ) → IsValid fl_bits sl_bits fllen sllen
    → pool_size_to_contain_allocation fllen sllen size align ≡ Some e
    → (64 ≤ e) × IsSize e × IsValidClass fllen (class_of sllen (e - 32)) × Reaches sllen (class_of sllen (e - 32)) (request_size size align)
