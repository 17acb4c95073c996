-- The class table keeps the bits of a first-level row in two words of 64 bits. This is so whatever types an allocator's parameters
-- name for its bitmaps.
use Rattle.std.proofs.Common.{ℕ, ◌≤◌, arith}
use Rattle.rlsf_model_sizes.specs.SizeClass.{IsValid}
use Rattle.rlsf_table.proofs.Tables.RowLengths.{row_length-bounds}

-- no bitmap has more than 128 positions, and no row more than 128 classes
pub IsValid-widest : {fl_bits sl_bits fllen sllen : ℕ} → fl_bits ≤ 128 → IsValid fl_bits sl_bits fllen sllen → IsValid 128 128 fllen sllen
IsValid-widest {sllen = sllen} limit valid = grind (arith, row_length-bounds)
