-- Row lengths are powers of two.
use Rattle.std.proofs.Common.{◌≡◌, ℕ, ◌^◌, ◌<◌, ◌≤◌, Bool, ◌||◌, IsTrue, arith, w64}
use Rattle.std.specs.Prelude.{◌==◌}
use Rattle.std.proofs.lemmas.Bool.{eqb-true, or_cases}
use Rattle.std.specs.Int.{trailing_zeros}
use Rattle.rlsf_model_sizes.specs.SizeClass.{is_row_length}

-- the number of trailing zeros is the exponent
pub record IsPower (n : ℕ) : Type 0 where
  pub some : 0 < n
  pub power : n ≡ 2 ^ trailing_zeros w64 n
  pub few : trailing_zeros w64 n ≤ 7

or_at : (n m : ℕ) (rest : Bool) → (IsTrue rest → IsPower n) → IsPower m → IsTrue (rest || n == m) → IsPower n
or_at n m rest others is told = grind (arith, or_cases, eqb-true)

pub IsPower-row_length : (n : ℕ) → IsTrue (is_row_length n) → IsPower n
unfolding lib.Count.count_trailing_zeros
IsPower-row_length n = grind (arith, w64, or_at, eqb-true)
