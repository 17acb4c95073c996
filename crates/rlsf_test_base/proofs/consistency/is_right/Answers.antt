use Rattle.std.proofs.Common.{arith, inl, refl}
use Rattle.rlsf_base.specs.Space.{range_of}
use Rattle.rlsf_base.proofs.Lending.Present.{here-none}
use Rattle.rlsf_test_base.proofs.consistency.is_right.Goals as goal

pub is_consistent-requires : goal.is_consistent-requires
is_consistent-requires c =
    let m = c.memory.inside.inner in
    (omega arith, (record { some_rows = omega arith; rows_fit = omega arith; power_of_two = refl; classes_fit = omega arith }, inl (here-none m (range_of m) c.memory.invariant)))
