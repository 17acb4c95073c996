-- The bounds of a row's length.
use Rattle.std.proofs.Common.{ℕ, ◌<◌, ◌≤◌, IsTrue, arith}
use Rattle.std.proofs.lemmas.Bool.Decides.{nat_tests}
use Rattle.rlsf_model_sizes.specs.SizeClass.{is_row_length}

-- a row length is not 0, and at most 128
pub row_length-bounds : (n : ℕ) → IsTrue (is_row_length n) → (0 < n) × (n ≤ 128)
row_length-bounds n row = (grind (arith, nat_tests, row), grind (arith, nat_tests, row))
