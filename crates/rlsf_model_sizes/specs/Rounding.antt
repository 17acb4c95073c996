-- Rounding to complete blocks.
use Rattle.std.specs.Prelude.{ℕ}
use Rattle.std.specs.Int.{next_multiple_of}

-- n rounded up to a multiple of 32, which every block's start and length are
abbrev pub round32 : ℕ → ℕ
round32 n = next_multiple_of n 32
