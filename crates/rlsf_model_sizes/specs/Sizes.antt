-- What the allocator computes of sizes and layouts: indices of classes, pool sizes and requests.
use Rattle.std.specs.Prelude.{◌≡◌, ℕ, ◌+◌, ◌-◌, ◌*◌, ◌%◌, ◌^◌, ◌<◌, Option, Some, None, nat_le, nat_lt, if◌then◌else◌}
use Rattle.std.specs.Option.{option_and_then, option_map}
use Rattle.rlsf_model_sizes.specs.Rounding.{round32}
use Rattle.rlsf_model_sizes.specs.SizeClass.{SizeClass, class_of, reaching_class, least_size}

-- the size of a block: a nonzero multiple of 32
abbrev pub IsSize : ℕ → Type 0
IsSize n = (0 < n) × (n % 32 ≡ 0)

-- the row, counted from the one that begins at the size 32, and the place in it
abbrev pub indices : SizeClass → ℕ × ℕ
indices c = (c.exponent - 5, c.division)

-- the indices of a class, if it is valid
abbrev pub valid_indices : ℕ → SizeClass → Option (ℕ × ℕ)
valid_indices fllen c = if nat_lt c.exponent (5 + fllen) then Some (indices c) else None

-- the class of a block of this size, by its indices
abbrev pub map_floor : ℕ → ℕ → ℕ → Option (ℕ × ℕ)
map_floor fllen sllen size = valid_indices fllen (class_of sllen size)

-- the first class that reaches this size, by its indices
abbrev pub map_ceil : ℕ → ℕ → ℕ → Option (ℕ × ℕ)
map_ceil fllen sllen size = valid_indices fllen (reaching_class sllen size)

-- the least size of the first class that reaches this size, if the class is valid and its sizes fit in a word
abbrev pub map_ceil_and_unmap : ℕ → ℕ → ℕ → Option ℕ
map_ceil_and_unmap fllen sllen size =
    let c = reaching_class sllen size in
    if nat_lt c.exponent (5 + fllen) then (if nat_lt c.exponent 64 then Some (least_size sllen c) else None) else None

-- the length of the longest chunk, whose one block, 32 bytes shorter, has a valid class; none where every size of a word has one
abbrev pub max_pool_size : ℕ → Option ℕ
max_pool_size fllen = if nat_lt (5 + fllen) 64 then Some (2 ^ (5 + fllen)) else None

-- the block size that is sought for a layout: a payload begins 16 bytes into its block, or up to `align - 16` bytes later
abbrev pub request_size : ℕ → ℕ → ℕ
request_size size align = round32 (size + (align - 16) + 16)

-- the length of the least chunk whose block has a class that reaches what is sought for a layout: its sentinel takes 32 bytes
abbrev pub pool_size_to_contain_allocation : ℕ → ℕ → ℕ → ℕ → Option ℕ
pool_size_to_contain_allocation fllen sllen size align = option_map (λ n. n + 32) (map_ceil_and_unmap fllen sllen (request_size size align))

-- a chunk's length, if it is a word and no longer than the longest chunk
abbrev pub chunk_length : ℕ → ℕ → Option ℕ
chunk_length fllen len = if nat_lt len (2 ^ 64) then (if nat_le len (2 ^ (5 + fllen)) then Some len else None) else None

-- the length of a chunk with `count` used blocks of a size, a range that is taken, and a sentinel of 32 bytes. It also has `count`
-- free ranges, each 32 bytes shorter than the least that is taken for that size
abbrev pub payloads_length : ℕ → ℕ → ℕ → ℕ
payloads_length count size least = count * size + count * (least - 32) + (least + 32)

-- the length of a chunk that never refuses a payload up to a layout while `count` or fewer are live, reallocations among them
abbrev pub pool_size_for_payloads : ℕ → ℕ → ℕ → ℕ → ℕ → Option ℕ
pool_size_for_payloads fllen sllen count size align =
    option_and_then (λ least. chunk_length fllen (payloads_length count (request_size size align) least)) (map_ceil_and_unmap fllen sllen (request_size size align))

-- the length of a chunk with used blocks of `bytes` bytes together, and one more free range than `count`. Each of these is 32 bytes
-- shorter than the least that is taken, but for one, which is taken. The chunk ends with a sentinel of 32 bytes
abbrev pub budget_length : ℕ → ℕ → ℕ → ℕ
budget_length count bytes least = 32 + bytes + (count + 1) * (least - 32) + 32

-- the length of a chunk that never refuses a payload up to a layout while `count` or fewer are live, whose blocks have `bytes` bytes
-- or fewer together, reallocations among them
abbrev pub pool_size_for_budget : ℕ → ℕ → ℕ → ℕ → ℕ → ℕ → Option ℕ
pool_size_for_budget fllen sllen count bytes size align =
    option_and_then (λ least. chunk_length fllen (budget_length count bytes least)) (map_ceil_and_unmap fllen sllen (request_size size align))

-- the block of an object: the least one from a class's start on that has room for so many bytes behind 16
abbrev pub object_length : ℕ → ℕ → ℕ → Option ℕ
object_length fllen sllen size = map_ceil_and_unmap fllen sllen (round32 (size + 16))

-- the length of a chunk that has room for `count` such blocks and its sentinel, and the size of each payload
abbrev pub objects_in : ℕ → ℕ → ℕ → Option (ℕ × ℕ)
objects_in fllen count len = option_map (λ n. (n, len - 16)) (chunk_length fllen (count * len + 32))

-- so for objects of a size
abbrev pub pool_size_for_objects : ℕ → ℕ → ℕ → ℕ → Option (ℕ × ℕ)
pool_size_for_objects fllen sllen count size = option_and_then (objects_in fllen count) (object_length fllen sllen size)
