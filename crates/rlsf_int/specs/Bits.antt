-- The positions of the ones of a number in binary. The lowest is 0.
use Rattle.std.specs.Prelude.{◌≡◌, ℕ, zero, suc, ◌+◌, ◌<◌, ◌≤◌, Bool, true, false, ◌==◌}
use Rattle.std.specs.Int.{bit_at, from_bool}
use Rattle.std.proofs.Common.{ap}
use Rattle.std.proofs.lemmas.Nat.Bits.{bit_at-zero}

-- i is the position of a one of n
unfoldable pub bit : ℕ → ℕ → Bool
bit n i = bit_at n i == 1

pub bit-zero : (i : ℕ) → bit 0 i ≡ false
unfolding bit
bit-zero i = ap (λ d. d == 1) (bit_at-zero i)

-- the answer is the least position of a one of n from `start` on, or `width` where none is below that
pub record IsFirstOne (width n start answer : ℕ) : Type 0 where
  pub none_before : (i : ℕ) → start ≤ i → i < answer → bit n i ≡ false
  pub within : answer ≤ width
  pub found : answer < width → (start ≤ answer) × (bit n answer ≡ true)

-- above the greatest position of a one of n there are `answer` positions below `width`
pub record IsLeadingZeros (width n answer : ℕ) : Type 0 where
  pub none_above : (i : ℕ) → width ≤ i + answer → bit n i ≡ false
  pub within : answer ≤ width
  pub found : (i : ℕ) → i + answer + 1 ≡ width → bit n i ≡ true

-- how many positions below `width` are those of ones of n
unfoldable pub ones_below : ℕ → ℕ → ℕ
ones_below n zero = 0
ones_below n (suc width) = ones_below n width + from_bool (bit n width)
