-- The positions of the ones in what an unsigned type of width w computes.
use Rattle.std.proofs.Common.{◌≡◌, ℕ, zero, suc, ◌+◌, ◌-◌, ◌*◌, ◌/◌, ◌%◌, ◌^◌, ◌<◌, ◌≤◌, Bool, true, not, ◌&&◌, ◌||◌, ◌==◌}
use Rattle.std.proofs.Common.{nat_lt, nat_le, bit_and, bit_or, refl, sym, ap, ◌∙◌, subst, arith, inl, inr, add-one}
use Rattle.std.proofs.Math.Bool.{and-true}
use Rattle.std.proofs.Math.Nat.{pow-suc}
use lib.Count.{ones-ones}
use Rattle.std.proofs.lemmas.Bool.{and_parts, cases_eq, cases_lt, le-leb, leb-true}
use Rattle.std.proofs.lemmas.Bool.Decides.{nat_tests}
use Rattle.std.proofs.lemmas.Nat.{and_le_l, div-add-mod', leading_length, one_shl, ones_cat, pow_below, pow_pos, mod_below, shr_below, shr_high}
use Rattle.std.proofs.lemmas.Nat.Bits.{bit_at-lt, bit_at-trailing_zeros, bit_at_mask_below, bit_at_mask_inside, bit_at_not, bit_at_cat_low, ones_shl, ones_shr}
use Rattle.std.specs.Int.{Width, bit_at, bit_not, from_bool, leading_zeros, trailing_zeros}
use Rattle.std.specs.Int.RustNames.{count_ones}
use Rattle.std.specs.Int.Count.{trailing_of_zero}
use Rattle.rlsf_int.specs.Bits.{bit, bit-zero, IsFirstOne, IsLeadingZeros, ones_below}
use Rattle.rlsf_int.proofs.Bits.{bit-above, bit-and, bit-low_ones, bit-or, bit-pow, bit-shr}
use mir.Val.{bits}

-- ---- ones

pub no_ones : (start end i : ℕ) → start ≡ end → bit 0 i ≡ (nat_le start i && nat_lt i end)
no_ones start end i same = bit-zero i ∙ grind (arith, nat_tests)

module _ (w : Width) where
  bit-mask : (start i : ℕ) → start < bits w → i < bits w → bit ((2 ^ bits w - 1) * 2 ^ start % 2 ^ bits w) i ≡ nat_le start i
  unfolding bit
  bit-mask start i within low = grind (arith, ones_shl, cases_lt, bit_at_mask_below, nat_tests, bit_at_mask_inside)

  -- `MAX >> (BITS - end)`
  bit-below : (end i : ℕ) → end ≤ bits w → bit ((2 ^ bits w - 1) / 2 ^ (bits w - end)) i ≡ nat_lt i end
  bit-below end i within =
      let left : bits w - (bits w - end) ≡ end = omega arith in
      ap (λ m. bit m i) (ones_shr (bits w) (bits w - end) (omega arith) ∙ ap (λ k. 2 ^ k - 1) left) ∙ bit-low_ones end i

  -- `(MAX << start) & (MAX >> (BITS - end))`
  pub ones_between : (start end i : ℕ) → start < end → end ≤ bits w
      → bit (bit_and ((2 ^ bits w - 1) * 2 ^ start % 2 ^ bits w) ((2 ^ bits w - 1) / 2 ^ (bits w - end))) i ≡ (nat_le start i && nat_lt i end)
  ones_between start end i some within = grind (arith, bit-and, bit-below, cases_lt, nat_lt, bit-mask, nat_tests)

  -- ---- trailing and leading zeros

  pub first_from_0 : (n : ℕ) → n < 2 ^ bits w → IsFirstOne (bits w) n 0 (trailing_zeros w n)
  unfolding bit
  first_from_0 n fits = elim (cases_eq n 0) [
    | inl empty ↦ subst (λ m. IsFirstOne (bits w) m 0 (trailing_zeros w m)) (sym empty)
        (subst (IsFirstOne (bits w) 0 0) (sym (trailing_of_zero (bits w)))
        (record { none_before = λ i above below. bit-zero i; within = omega arith; found = λ below. absurd (omega arith) }))
    | inr some ↦
        let lowest = bit_at-trailing_zeros w n (omega arith) fits in
        let low = lowest.0 in
        record {
          none_before = λ i above below. ap (λ d. d == 1) (lowest.2 i below);
          within = omega arith;
          found = λ below. (omega arith, ap (λ d. d == 1) lowest.1);
        }
  ]

  top_one : (n k : ℕ) → n < 2 ^ (k + 1) → 2 ^ (k + 1) ≤ 2 * n + 1 → bit n k ≡ true
  unfolding bit
  top_one n k high low =
      let twice : 2 ^ (k + 1) ≡ 2 ^ k * 2 = ap (λ j. 2 ^ j) (add-one k) ∙ pow-suc 2 k in
      let split : n ≡ 1 * 2 ^ k + (n - 2 ^ k) = omega arith in
      let one : n / 2 ^ k ≡ 1 = ap (λ m. m / 2 ^ k) split ∙ shr_high 1 k (n - 2 ^ k) (omega arith) in
      ap (λ m. m % 2 == 1) one

  pub zeros_above : (n : ℕ) → n < 2 ^ bits w → IsLeadingZeros (bits w) n (leading_zeros w n)
  zeros_above n fits =
      let top = leading_length (bits w) n fits in
      let sum = top.1 in
      record {
        none_above = λ i past. bit-above top.0 n i top.2 (omega arith);
        within = omega arith;
        found = λ i here.
            let is : top.0 ≡ i + 1 = omega arith in
            top_one n i (subst (λ m. n < 2 ^ m) is top.2) (subst (λ m. 2 ^ m ≤ 2 * n + 1) is top.3);
      }

  -- ---- scans

  -- `n & (MAX << start)`: the positions of n from `start` on
  from : ℕ → ℕ → ℕ
  from n start = bit_and n ((2 ^ bits w - 1) * 2 ^ start % 2 ^ bits w)

  bit-from : (n start i : ℕ) → start < bits w → i < bits w → bit (from n start) i ≡ (bit n i && nat_le start i)
  unfolding from
  bit-from n start i within low = bit-and n _ i ∙ ap (λ t. bit n i && t) (bit-mask start i within low)

  -- `(n & (MAX << start)).trailing_zeros()`
  pub first_one : (n start : ℕ) → n < 2 ^ bits w → start < bits w
      → IsFirstOne (bits w) n start (trailing_zeros w (bit_and n ((2 ^ bits w - 1) * 2 ^ start % 2 ^ bits w)))
  unfolding from
  first_one n start fits within =
      let first = first_from_0 (from n start) (omega (arith, and_le_l n ((2 ^ bits w - 1) * 2 ^ start % 2 ^ bits w))) in
      let answer = trailing_zeros w (from n start) in
      record {
        none_before = λ i above below.
            sym (and-true (bit n i)) ∙ ap (λ t. bit n i && t) (sym (le-leb start i above)) ∙ sym (bit-from n start i within (omega (arith, first.within)))
            ∙ first.none_before i (omega arith) below;
        within = first.within;
        found = λ below.
            let both = and_parts (bit n answer) (nat_le start answer) (sym (bit-from n start answer within below) ∙ (first.found below).1) in
            (leb-true start answer both.1, both.0);
      }

  -- ---- one position

  -- `n | 1 << k`
  pub bit-set : (n k : ℕ) → k < bits w → (i : ℕ) → bit (bit_or n (1 * 2 ^ k % 2 ^ bits w)) i ≡ (bit n i || (i == k))
  bit-set n k within i =
      bit-or n _ i ∙ ap (λ t. bit n i || t)
      (ap (λ m. bit m i) (one_shl k (bits w) within) ∙ bit-pow k i)

  bit-not : (n i : ℕ) → n < 2 ^ bits w → i < bits w → bit (bit_not w n) i ≡ not (bit n i)
  unfolding bit
  bit-not n i fits low = grind (arith, nat_tests, bit_at_not w n i fits low, bit_at-lt n i)

  -- `n & !(1 << k)`
  pub bit-clear : (n k : ℕ) → n < 2 ^ bits w → k < bits w → (i : ℕ)
      → bit (bit_and n (2 ^ bits w - 1 - 1 * 2 ^ k % 2 ^ bits w)) i ≡ (bit n i && not (i == k))
  bit-clear n k fits within i =
      let one = one_shl k (bits w) within in
      let one_fits : 1 * 2 ^ k % 2 ^ bits w < 2 ^ bits w = omega (arith, one, pow_below k (bits w) within) in
      bit-and n _ i ∙ elim (cases_lt i (bits w)) [
        | inl low ↦ ap (λ t. bit n i && t)
            (bit-not _ i one_fits low ∙ ap not (ap (λ m. bit m i) one ∙ bit-pow k i))
        | inr past ↦ let none = bit-above (bits w) n i fits past in grind (arith, nat_tests)
      ]

  -- the same behind a test whether k is a position
  pub bit-clear_tested : (n k : ℕ) → n < 2 ^ bits w → k < bits w → (i : ℕ)
      → bit (bit_and n (2 ^ bits w - 1 - 1 * 2 ^ k % 2 ^ bits w)) i ≡ (bit n i && not (i == k && nat_lt k (bits w)))
  bit-clear_tested n k fits within i =
      let tested : (i == k) ≡ (i == k && nat_lt k (bits w)) = grind (arith, nat_tests) in
      bit-clear n k fits within i ∙ ap (λ t. bit n i && not t) tested

-- ---- counts

-- the digits from k on don't matter to the positions below
ones_below-low : (n width k : ℕ) → width ≤ k → ones_below (n % 2 ^ k) width ≡ ones_below n width
unfolding ones_below bit
ones_below-low n zero k within = refl
ones_below-low n (suc width) k within =
    let split : n / 2 ^ k * 2 ^ k + n % 2 ^ k ≡ n = div-add-mod' n (2 ^ k) in
    let digit : bit_at (n % 2 ^ k) width ≡ bit_at n width = sym (bit_at_cat_low (n / 2 ^ k) k (n % 2 ^ k) width (omega arith)) ∙ ap (λ m. bit_at m width) split in
    ap (λ d. ones_below (n % 2 ^ k) width + from_bool (d == 1)) digit ∙ ap (λ m. m + from_bool (bit_at n width == 1)) (ones_below-low n width k (omega arith))

count_digit : (d : ℕ) → d < 2 → count_ones d ≡ from_bool (d == 1)
count_digit zero h = ones-ones 0
count_digit (suc zero) h = ones-ones 1
count_digit (suc (suc d)) h = absurd (omega arith)

pub count_is : (n width : ℕ) → n < 2 ^ width → count_ones n ≡ ones_below n width
unfolding ones_below bit
count_is n zero fits = let empty : n ≡ 0 = omega arith in ap count_ones empty ∙ ones-ones 0
count_is n (suc width) fits =
    let split : n / 2 ^ width * 2 ^ width + n % 2 ^ width ≡ n = div-add-mod' n (2 ^ width) in
    let rest : n % 2 ^ width < 2 ^ width = mod_below n (2 ^ width) (pow_pos width) in
    let top : n / 2 ^ width < 2 = shr_below n 1 width (subst (λ m. n < 2 ^ m) (suc_is width) fits) in
    let digit : n / 2 ^ width ≡ bit_at n width = omega arith in
    ap count_ones (sym split) ∙ ones_cat width (n / 2 ^ width) (n % 2 ^ width) rest
    ∙ ap (λ m. m + count_ones (n % 2 ^ width)) (count_digit (n / 2 ^ width) top ∙ ap (λ d. from_bool (d == 1)) digit)
    ∙ ap (λ m. from_bool (bit_at n width == 1) + m) (count_is (n % 2 ^ width) width rest ∙ ones_below-low n width width (omega arith))
    ∙ omega arith
  where
    suc_is : (m : ℕ) → suc m ≡ 1 + m
    suc_is m = omega arith

-- ---- parts

-- the range starts past the type
pub nothing_past : (w : Width) (n start end i : ℕ) → n < 2 ^ bits w → bits w ≤ start
    → bit 0 i ≡ (bit n (start + i) && (nat_lt (start + i) end && nat_lt i 32))
nothing_past w n start end i fits past =
    let none = bit-above (bits w) n (start + i) fits (omega arith) in
    bit-zero i ∙ ap (λ t. t && (nat_lt (start + i) end && nat_lt i 32)) (sym none)

-- t is the test of position i of m, which is `n >> start`, cut to the range's length
pub moved : (n m start end i : ℕ) (t : Bool) → start ≤ end → m ≡ n / 2 ^ start → t ≡ (bit m i && (nat_lt i (end - start) && nat_lt i 32))
    → t ≡ (bit n (start + i) && (nat_lt (start + i) end && nat_lt i 32))
moved n m start end i t ordered is cut = grind (arith, nat_lt, nat_tests, bit-shr)

-- the same where `n >> start` was first cut to 32 positions
pub moved_low : (n start end i : ℕ) (t : Bool) → start ≤ end → t ≡ (bit (bit_and (n / 2 ^ start) 4294967295) i && (nat_lt i (end - start) && nat_lt i 32))
    → t ≡ (bit n (start + i) && (nat_lt (start + i) end && nat_lt i 32))
moved_low n start end i t ordered cut =
    let low : bit (bit_and (n / 2 ^ start) 4294967295) i ≡ (bit (n / 2 ^ start) i && nat_lt i 32) =
    bit-and (n / 2 ^ start) 4294967295 i ∙ ap (λ s. bit (n / 2 ^ start) i && s) (bit-low_ones 32 i) in
    let once : (bit (bit_and (n / 2 ^ start) 4294967295) i && (nat_lt i (end - start) && nat_lt i 32)) ≡ (bit (n / 2 ^ start) i && (nat_lt i (end - start) && nat_lt i 32)) =
    grind (arith, nat_tests) in
    moved n (n / 2 ^ start) start end i t ordered refl (cut ∙ once)

-- `lowest`
pub all_low : (n len i : ℕ) → n < 2 ^ 32 → 32 ≤ len → bit n i ≡ (bit n i && (nat_lt i len && nat_lt i 32))
all_low n len i fits long = elim (cases_lt i 32) [
  | inl low ↦ grind (arith, nat_tests)
  | inr past ↦ let none = bit-above 32 n i fits past in grind (arith, nat_tests)
]

pub some_low : (n len i : ℕ) → len < 32 → bit (bit_and n (1 * 2 ^ len % 2 ^ 32 - 1)) i ≡ (bit n i && (nat_lt i len && nat_lt i 32))
some_low n len i short =
    let place : nat_lt i len ≡ (nat_lt i len && nat_lt i 32) = grind (arith, nat_tests) in
    bit-and n _ i ∙ ap (λ t. bit n i && t) (ap (λ m. bit (m - 1) i) (one_shl len 32 short) ∙ bit-low_ones len i ∙ place)
