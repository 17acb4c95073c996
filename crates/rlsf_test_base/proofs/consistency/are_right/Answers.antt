use Rattle.std.proofs.Common.{arith, inl, refl}
use Rattle.rlsf_base.specs.Space.{word_range}
use Rattle.rlsf_base.proofs.Lending.Present.{here-none}
use Rattle.rlsf_test_base.proofs.consistency.are_right.Goals as goal

pub are_consistent-requires : goal.are_consistent-requires
are_consistent-requires c = (
  omega arith,
  (
    record { some_rows = omega arith; rows_fit = omega arith; power_of_two = refl; classes_fit = omega arith },
    inl (λ a word. here-none c.memory.inside.inner (word_range a) c.memory.invariant),
  ),
)
