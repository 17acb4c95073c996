-- The laws of logarithms and powers of two.
use Rattle.std.proofs.Common.{◌≡◌, ℕ, zero, suc, ◌+◌, ◌-◌, ◌*◌, ◌/◌, ◌^◌, ◌<◌, ◌≤◌, ◌↔◌, IsTrue, arith, eq-eqb, sym}
use Rattle.std.proofs.Common.{◌∙◌, ap}
use Rattle.std.proofs.lemmas.Nat.{ones_cat, ones_le_self, pow_below, pow_pos, zero_from_ones}
use Rattle.std.proofs.lemmas.Bool.{cases_lt, eqb-true}
use Rattle.std.proofs.Math.Nat.{pow-suc}
use Rattle.std.proofs.Math.Pow.{pow_mono}
use Rattle.std.specs.Int.{is_power_of_two}
use Rattle.std.specs.Int.Count.{ones-ones}
use Rattle.std.specs.Int.RustNames.{count_ones}
use Rattle.rlsf_model_sizes.specs.PowerOfTwo.{halvings, floor_log2, IsPowerOfTwo}

-- enough halvings leave the power of two that n has
halvings_bounds : (most n : ℕ) → 0 < n → n ≤ most → (2 ^ halvings most n ≤ n) × (n < 2 ^ suc (halvings most n))
halvings_bounds zero n some enough = absurd (omega arith)
halvings_bounds (suc most) zero some enough = absurd (omega arith)
halvings_bounds (suc most) (suc zero) some enough = (omega arith, omega arith)
halvings_bounds (suc most) (suc (suc n)) some enough =
    let h = halvings most (suc (suc n) / 2) in
    let half = halvings_bounds most (suc (suc n) / 2) (omega arith) (omega arith) in
    (omega (arith, pow-suc 2 h), omega (arith, pow-suc 2 h, pow-suc 2 (suc h)))

pub floor_log2-le : (n : ℕ) → 0 < n → 2 ^ floor_log2 n ≤ n
floor_log2-le n some = (halvings_bounds n n some (omega arith)).0

pub floor_log2-lt : (n : ℕ) → 0 < n → n < 2 ^ suc (floor_log2 n)
floor_log2-lt n some = (halvings_bounds n n some (omega arith)).1

-- where n lies between two powers, their exponents are in order
pub pow-between : (n j k : ℕ) → 2 ^ j ≤ n → n < 2 ^ suc k → j ≤ k
pow-between n j k low high = grind (arith, cases_lt, pow_mono)

-- the logarithm is the one exponent whose power of two n has
pub floor_log2-unique : (n k : ℕ) → 2 ^ k ≤ n → n < 2 ^ suc k → floor_log2 n ≡ k
floor_log2-unique n k low high =
    let some : 0 < n = omega (arith, pow_pos k) in
    let from_below : k ≤ floor_log2 n = pow-between n k (floor_log2 n) low (floor_log2-lt n some) in
    let from_above : floor_log2 n ≤ k = pow-between n (floor_log2 n) k (floor_log2-le n some) high in
    omega arith

-- a greater number has no smaller logarithm
pub floor_log2-mono : (m n : ℕ) → 0 < m → m ≤ n → floor_log2 m ≤ floor_log2 n
floor_log2-mono m n some order =
    let low : 2 ^ floor_log2 m ≤ n = omega (arith, floor_log2-le m some) in
    pow-between n (floor_log2 m) (floor_log2 n) low (floor_log2-lt n (omega arith))

pub floor_log2-pow : (k : ℕ) → floor_log2 (2 ^ k) ≡ k
floor_log2-pow k = floor_log2-unique (2 ^ k) k (omega arith) (pow_below k (suc k) (omega arith))

-- every power of two is one
pub IsPowerOfTwo-pow : (k : ℕ) → IsPowerOfTwo (2 ^ k)
IsPowerOfTwo-pow k = ap (λ j. 2 ^ j) (sym (floor_log2-pow k))

-- a power of two is not 0
pub IsPowerOfTwo-positive : (n : ℕ) → IsPowerOfTwo n → 0 < n
IsPowerOfTwo-positive n power = omega (arith, pow_pos (floor_log2 n))

-- a power of two below the next one is at most this one
pub IsPowerOfTwo-le : (n k : ℕ) → IsPowerOfTwo n → n < 2 ^ suc k → n ≤ 2 ^ k
IsPowerOfTwo-le n k power below =
    let order : floor_log2 n ≤ k = pow-between n (floor_log2 n) k (omega arith) below in
    let apart : 2 ^ floor_log2 n ≤ 2 ^ k = pow_mono order in
    omega arith

-- one digit of n is set, or the digits below the highest are not all 0
count_ones-split : (n : ℕ) → 0 < n → count_ones n ≡ 1 + count_ones (n - 2 ^ floor_log2 n)
count_ones-split n some =
    let k = floor_log2 n in
    let low : 2 ^ k ≤ n = floor_log2-le n some in
    let rest : n - 2 ^ k < 2 ^ k = omega (arith, floor_log2-lt n some, pow-suc 2 k) in
    let parts : 1 * 2 ^ k + (n - 2 ^ k) ≡ n = omega arith in
    sym (ap count_ones parts) ∙ ones_cat k 1 (n - 2 ^ k) rest ∙ ap (λ d. d + count_ones (n - 2 ^ k)) (ones-ones 1)

-- one digit of n is set exactly where it is a power of two
count_ones-one : (n : ℕ) → (count_ones n ≡ 1) ↔ IsPowerOfTwo n
count_ones-one zero = ((λ e. absurd (omega (arith, e, ones_le_self 0))), (λ e. absurd (omega arith)))
count_ones-one (suc n) =
    let split = count_ones-split (suc n) (omega arith) in
    let low = floor_log2-le (suc n) (omega arith) in (
      (λ one. let none : suc n - 2 ^ floor_log2 (suc n) ≡ 0 = zero_from_ones _ (omega arith) in omega arith),
      (λ power. let none : suc n - 2 ^ floor_log2 (suc n) ≡ 0 = omega arith in split ∙ ap (λ r. 1 + count_ones r) none ∙ ap (λ r. 1 + r) (ones-ones 0)),
    )

-- what `is_power_of_two` of an unsigned type returns
pub is_power_of_two-iff : (n : ℕ) → IsTrue (is_power_of_two n) ↔ IsPowerOfTwo n
is_power_of_two-iff n =
    ((λ one. (count_ones-one n).0 (eqb-true _ _ one)), (λ power. eq-eqb _ _ ((count_ones-one n).1 power)))
