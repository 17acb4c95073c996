-- Whether an allocator's parameters are valid, as a test.
use Rattle.std.specs.Prelude.{ℕ, Bool, ◌&&◌, nat_le, nat_lt}
use Rattle.rlsf_model_sizes.specs.SizeClass.{is_row_length}

-- there are rows, and classes in each, and no more than the bitmaps have bits
abbrev pub is_valid : ℕ → ℕ → ℕ → ℕ → Bool
is_valid fl_bits sl_bits fllen sllen = nat_lt 0 fllen && (nat_le fllen fl_bits && (nat_le sllen sl_bits && is_row_length sllen))
