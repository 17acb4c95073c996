-- How many touches it takes to take a block out of its list.
use Rattle.std.proofs.Common.{◌≡◌, ℕ, ◌+◌, ◌≤◌, arith, ◌==◌, if◌then◌else◌, ◌≢◌}
use Rattle.std.proofs.lemmas.Bool.Decides.{nat_tests}
use Rattle.rlsf_table.specs.Steps.ClassList.{first_then, unlinking_touches}

-- one where its link was read and the block was the first of its list, and as many as that takes of the table
pub front_touches : (next : ℕ) → 1 + (if next == 0 then 6 else 1) + unlinking_touches next 0 ≤ 8
front_touches next = grind (arith, nat_tests)

-- and one more where both links were read to find that out
pub newest_touches : (next : ℕ) → 2 + (if next == 0 then 6 else 1) + unlinking_touches next 0 ≤ 8
newest_touches next = grind (arith, nat_tests)

-- a block behind has its link written, and so has one before
pub behind_touches : (next previous : ℕ) → next ≢ 0 → 1 ≤ unlinking_touches next previous
behind_touches next previous some = grind (arith, nat_tests)

pub before_touches : (next previous : ℕ) → previous ≢ 0 → 1 ≤ unlinking_touches next previous
before_touches next previous some = grind (arith, nat_tests)

pub both_touches : (next previous : ℕ) → next ≢ 0 → previous ≢ 0 → 2 ≤ unlinking_touches next previous
both_touches next previous some other = grind (arith, nat_tests)

pub between_touches : (next previous : ℕ) → unlinking_touches next previous ≤ 2
between_touches next previous = grind (arith, nat_tests)

-- where the list begins then
pub first_is : (next previous newest : ℕ) → previous ≡ 0 → first_then next previous newest ≡ next
first_is next previous newest none = grind (arith, nat_tests)

pub later_is : (next previous newest : ℕ) → previous ≢ 0 → first_then next previous newest ≡ newest
later_is next previous newest some = grind (arith, nat_tests)
