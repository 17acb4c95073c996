-- What the calls of a layout rest on.
use Rattle.std.proofs.Common.{◌≡◌, ℕ, ◌+◌, ◌-◌, ◌*◌, ◌^◌, ◌≤◌, arith, sym, ◌∙◌, ap}
use Rattle.std.proofs.lemmas.Nat.{pow-add, pow_pos}
use Rattle.std.specs.Int.{next_multiple_of}
use Rattle.rlsf_base.specs.Layout.{IsLayout}
use Rattle.rlsf_model_sizes.specs.PowerOfTwo.{floor_log2}
use Rattle.rlsf_base.proofs.Numbers.PowersOfTwo.{IsPowerOfTwo-positive, pow-between}
use Rattle.rlsf_base.proofs.Numbers.Roundings.{next_multiple_of-least}

-- a power of two that is at most 2 ^ k goes into it a whole number of times
pub pow-quotient : (j k : ℕ) → j ≤ k → 2 ^ k ≡ 2 ^ (k - j) * 2 ^ j
pow-quotient j k order = let parts : k ≡ k - j + j = omega arith in ap (λ e. 2 ^ e) parts ∙ pow-add 2 (k - j) j

-- 2 ^ 63 less an alignment is a multiple of the alignment, so rounding up to it stays within that
pub IsLayout-padded : (size align : ℕ) → IsLayout size align → IsLayout (next_multiple_of size align) align
IsLayout-padded size align valid =
    let k = floor_log2 align in
    let power : align ≡ 2 ^ k = valid.aligned in
    let order : k ≤ 63 = pow-between (2 ^ 63) k 63 (omega (arith, valid.fits)) (omega arith) in
    let times = 2 ^ (63 - k) - 1 in
    let one_more : 2 ^ (63 - k) ≡ times + 1 = omega (arith, pow_pos (63 - k)) in
    let whole : 2 ^ 63 ≡ (times + 1) * align = pow-quotient k 63 order ∙ ap (λ n. n * 2 ^ k) one_more ∙ ap (λ n. (times + 1) * n) (sym power) in
    let rounded = next_multiple_of-least size align times (IsPowerOfTwo-positive align power) (omega (arith, valid.fits)) in
    record { aligned = power; fits = omega arith }
