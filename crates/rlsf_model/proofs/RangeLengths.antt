-- How long a range is asked for, and that a pool has room in what comes.
use Rattle.std.specs.Bool.{then_some}
use Rattle.std.specs.Prelude.{nat_lt}
use Rattle.std.proofs.Common.{◌≡◌, ◌⊎◌, ℕ, ◌+◌, ◌-◌, ◌*◌, ◌/◌, ◌%◌, ◌^◌, ◌≤◌, List, Option, Some, None, arith}
use Rattle.std.proofs.Common.{◌∙◌, ap}
use Rattle.std.proofs.lemmas.Bool.Decides.{nat_tests}
use Rattle.std.proofs.lemmas.Bool.{cases_lt, le-ltb, lt-ltb}
use Rattle.std.proofs.lemmas.Nat.{pow-add}
use Rattle.std.proofs.lemmas.Option.{none-some, same_Some}
use Rattle.std.proofs.Math.Nat.{div-add-mod'}
use Rattle.rlsf_base.specs.declared.memory.range.Range.{Range}
use Rattle.rlsf_model_sizes.specs.PowerOfTwo.{floor_log2, IsPowerOfTwo}
use Rattle.rlsf_base.proofs.Numbers.PowersOfTwo.{floor_log2-lt, pow-between}
use Rattle.rlsf_model.specs.FlexState.{KeptPool}
use Rattle.rlsf_model.specs.Growth.{range_length, questions}
use Rattle.rlsf_model.specs.PoolLength.{HasAlignedPart}
use Rattle.rlsf_model.specs.Terms.{IsGiven, Terms}

-- a number that fits is itself
pub if_fits-some : (n len : ℕ) → then_some (nat_lt n (2 ^ 64)) n ≡ Some len → len ≡ n
if_fits-some n len told = grind (arith, cases_lt, same_Some, lt-ltb, none-some, le-ltb)

-- 32 bytes more than are wanted, or what is wanted where all starts are multiples of 32
pub range_length-is : (t : Terms) (e len : ℕ) → range_length t e ≡ Some len → (len ≡ e + 32) ⊎ ((32 ≤ t.min_align) × (len ≡ e))
range_length-is t e len told = grind (arith, cases_lt, if_fits-some, lt-ltb, same_Some, le-ltb)

-- a multiple of an alignment of 32 or more is one of 32
pub wide_whole : (p align : ℕ) → IsPowerOfTwo align → 32 ≤ align → p % align ≡ 0 → p % 32 ≡ 0
wide_whole p align power wide multiple =
    let k = floor_log2 align in
    let order : 5 ≤ k = pow-between align 5 k wide (floor_log2-lt align (omega arith)) in
    let split : k ≡ 5 + (k - 5) = omega arith in
    let times : align ≡ 32 * 2 ^ (k - 5) = power ∙ ap (λ e. 2 ^ e) split ∙ pow-add 2 5 (k - 5) in
    let product : p / align * align ≡ p / align * (32 * 2 ^ (k - 5)) = ap (λ a. p / align * a) times in
    let granules : p ≡ 32 * (p / align * 2 ^ (k - 5)) = omega (arith, div-add-mod' p align) in
    omega arith

-- what comes has the aligned part that is wanted
pub HasAlignedPart-given : (t : Terms) (owed : List Range) (e len : ℕ) (r : Range) → range_length t e ≡ Some len → IsGiven t owed len r → HasAlignedPart r e
HasAlignedPart-given t owed e len r told g = grind (arith, range_length-is, wide_whole)

-- a range that is asked for has that length
pub range_asked : (t : Terms) (kept : Option KeptPool) (e n : ℕ) → (questions t kept (Some e)).range ≡ Some n → range_length t e ≡ Some n
range_asked t None e n asked = asked
range_asked t (Some k) e n asked = grind (arith, nat_tests, none-some)
