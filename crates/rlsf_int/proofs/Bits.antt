-- The positions of the ones of a number after an operation, at any number.
use Rattle.std.proofs.Common.{◌≡◌, ℕ, ◌+◌, ◌-◌, ◌/◌, ◌%◌, ◌^◌, ◌<◌, ◌≤◌, false, ◌&&◌, ◌||◌, ◌==◌, nat_le, nat_lt, min}
use Rattle.std.proofs.Common.{bit_and, bit_or, ap, arith}
use Rattle.std.proofs.lemmas.Bool.{cases_eq, cases_lt, eq-eqb, lt-ltb, ne_eqb}
use Rattle.std.proofs.lemmas.Bool.Decides.{nat_tests}
use Rattle.std.proofs.lemmas.Nat.{shr-shr}
use Rattle.std.proofs.lemmas.Nat.Bits.{bit_at-lt, bit_at-pow_other, bit_at-pow_same, bit_at_above, bit_at_and, bit_at_ones, bit_at_ones_above, bit_at_or, same_from_bits}
use Rattle.rlsf_int.specs.Bits.{bit, IsFirstOne}

pub bit-or : (a b i : ℕ) → bit (bit_or a b) i ≡ (bit a i || bit b i)
unfolding bit
bit-or a b i = grind (arith, nat_tests, bit_at_or a b i, bit_at-lt a i, bit_at-lt b i)

pub bit-and : (a b i : ℕ) → bit (bit_and a b) i ≡ (bit a i && bit b i)
unfolding bit
bit-and a b i = grind (arith, nat_tests, bit_at_and a b i, bit_at-lt a i, bit_at-lt b i)

pub bit-pow : (k i : ℕ) → bit (2 ^ k) i ≡ (i == k)
unfolding bit
bit-pow k i = grind (arith, cases_eq, bit_at-pow_same, eq-eqb, bit_at-pow_other, ne_eqb)

-- `n >> k`
pub bit-shr : (n k i : ℕ) → bit (n / 2 ^ k) i ≡ bit n (k + i)
unfolding bit
bit-shr n k i = ap (λ m. m % 2 == 1) (shr-shr n k i)

-- the lowest k positions
pub bit-low_ones : (k i : ℕ) → bit (2 ^ k - 1) i ≡ nat_lt i k
unfolding bit
bit-low_ones k i = grind (arith, cases_lt, bit_at_ones, lt-ltb, bit_at_ones_above, nat_tests)

-- a number below 2 ^ width has no one from `width` on
pub bit-above : (width n i : ℕ) → n < 2 ^ width → width ≤ i → bit n i ≡ false
unfolding bit
bit-above width n i fits high = ap (λ d. d == 1) (bit_at_above n width i fits high)

-- two numbers with the same ones are one
pub same_from_ones : (a b : ℕ) → ((i : ℕ) → bit a i ≡ bit b i) → a ≡ b
unfolding bit
same_from_ones a b ones = same_from_bits a b (λ i. let same = ones i in grind (arith, nat_tests, bit_at-lt a i, bit_at-lt b i))

-- the first one from a position on is there exactly if there is a one at the position
pub first_one_is_here : (width n i answer : ℕ) → i < width → IsFirstOne width n i answer → (answer == i) ≡ (bit n i && nat_lt i width)
first_one_is_here width n i answer within first = grind (arith, cases_eq, eq-eqb, nat_tests, cases_lt, ne_eqb)

-- the positions of a range whose ends are cut to a width
pub range_truncated : (start end width v w i a b : ℕ) → v ≡ width → w ≡ width → a ≡ min start v → b ≡ min end w
    → (nat_le a i && nat_lt i b) ≡ (nat_le start i && (nat_lt i end && nat_lt i width))
range_truncated start end width v w i a b is_v is_w cut_start cut_end = grind (arith, nat_tests)
