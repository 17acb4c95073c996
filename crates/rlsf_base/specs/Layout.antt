-- Layouts: what a caller asks memory for.
use Rattle.std.specs.Prelude.{ℕ, ◌+◌, ◌^◌, ◌≤◌}
use Rattle.rlsf_model_sizes.specs.PowerOfTwo.{IsPowerOfTwo}

-- the alignment is a power of two, and the size stays within 2 ^ 63 bytes however far it is rounded up to that
pub record IsLayout (size align : ℕ) : Type 0 where
  pub aligned : IsPowerOfTwo align
  pub fits : size + align ≤ 2 ^ 63
