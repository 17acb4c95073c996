-- Sizes and their classes, checked on numbers. A line has FLLEN, SLLEN and a size; the indices of its class; those of the first
-- class that reaches it; and the least size of that class.
use Rattle.std.proofs.Common.{◌≡◌, ℕ, ◌-◌, ◌^◌, Option, Some, None, [], ◌∷◌, map, refl}
use Rattle.rlsf_model_sizes.specs.Sizes.{map_floor, map_ceil, map_ceil_and_unmap, max_pool_size}

-- what is computed of a size
abbrev Row : Type 0
Row = Option (ℕ × ℕ) × Option (ℕ × ℕ) × Option ℕ

abbrev row_of : ℕ → ℕ → ℕ → Row
row_of fllen sllen size = (map_floor fllen sllen size, map_ceil fllen sllen size, map_ceil_and_unmap fllen sllen size)

-- a size whose class begins at it
abbrev starts : ℕ → ℕ → ℕ → Row
starts fl sl size = (Some (fl, sl), Some (fl, sl), Some size)

rows_8_8 : map (row_of 8 8) (32 ∷ 64 ∷ 96 ∷ 416 ∷ 448 ∷ 544 ∷ 2016 ∷ 7680 ∷ 8160 ∷ 8192 ∷ [])
    ≡ starts 0 0 32 ∷ starts 1 0 64 ∷ starts 1 4 96 ∷ starts 3 5 416 ∷ starts 3 6 448
    ∷ (Some (4, 0), Some (4, 1), Some 576) ∷ (Some (5, 7), Some (6, 0), Some 2048) ∷ starts 7 7 7680
    ∷ (Some (7, 7), None, None) ∷ (None, None, None) ∷ []
rows_8_8 = refl

rows_8_1 : row_of 8 1 96 ≡ (Some (1, 0), Some (2, 0), Some 128)
rows_8_1 = refl

rows_1_1 : row_of 1 1 32 ≡ starts 0 0 32
rows_1_1 = refl

rows_64_64 : map (row_of 64 64) (32 ∷ 96 ∷ 70016 ∷ (2 ^ 64 - 32) ∷ [])
    ≡ starts 0 0 32 ∷ starts 1 32 96 ∷ (Some (11, 4), Some (11, 5), Some 70656) ∷ (Some (58, 63), Some (59, 0), None) ∷ []
rows_64_64 = refl

rows_59_8 : row_of 59 8 (2 ^ 64 - 32) ≡ (Some (58, 7), None, None)
rows_59_8 = refl

-- the longest chunk for 1, 8, 12, 58, 59 and 60 rows
pool_sizes : map max_pool_size (1 ∷ 8 ∷ 12 ∷ 58 ∷ 59 ∷ 60 ∷ []) ≡ Some 64 ∷ Some 8192 ∷ Some 131072 ∷ Some (2 ^ 63) ∷ None ∷ None ∷ []
pool_sizes = refl
