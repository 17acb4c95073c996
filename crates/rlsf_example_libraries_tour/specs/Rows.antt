-- The lines of the table.
use Rattle.std.specs.Prelude.{ℕ, ◌*◌, ◌/◌, Option}
use Rattle.std.specs.Option.{option_map}
use Rattle.rlsf_model_sizes.specs.Sizes.{pool_size_for_objects, pool_size_for_payloads}
use Rattle.rlsf_example_libraries_tour.specs.declared.rows.Pool.{Pool}
use Rattle.rlsf_example_libraries_tour.specs.declared.rows.Row.{Row}

-- a pool of a length, and how many of 1000 of its bytes are those of so many payloads of a size
abbrev pub pool_of : ℕ → ℕ → ℕ → Pool
pool_of count size len = record { len = len; share = count * size * 1000 / len }

-- the pool that never refuses payloads up to a layout, while so many or fewer are live before each call
abbrev pub payloads_pool : ℕ → ℕ → ℕ → ℕ → ℕ → Option Pool
payloads_pool fllen sllen count size align = option_map (pool_of count size) (pool_size_for_payloads fllen sllen count size align)

-- the pool that holds exactly so many payloads of a size, and the size to ask for
abbrev pub objects_pool : ℕ → ℕ → ℕ → ℕ → Option (Pool × ℕ)
objects_pool fllen sllen count size = option_map (λ p. (pool_of count size p.0, p.1)) (pool_size_for_objects fllen sllen count size)

-- the line of so many payloads of a layout
abbrev pub row_of : ℕ → ℕ → ℕ → ℕ → ℕ → Row
row_of fllen sllen count size align =
    record { count = count; size = size; payloads = payloads_pool fllen sllen count size align; objects = objects_pool fllen sllen count size }
