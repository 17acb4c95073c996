-- Rounding an integer up to a multiple.
use Rattle.std.specs.Prelude.{◌≡◌, ◌≢◌, ℕ, ◌^◌, ◌%◌, ◌<◌, ◌≤◌, ℤ, pos, ◌≤ℤ◌, ◌<ℤ◌, unsigned_abs, MatchOption}
use Rattle.std.specs.Prelude.{Option}

-- `step` divides z
abbrev pub IsMultiple : ℕ → ℤ → Type 0
IsMultiple step z = unsigned_abs z % step ≡ 0

-- the answer is the least multiple of `step` that isn't below the value
pub record IsCeiling (step : ℕ) (value answer : ℤ) : Type 0 where
  pub multiple : IsMultiple step answer
  pub above : value ≤ℤ answer
  pub least : (m : ℤ) → IsMultiple step m → value ≤ℤ m → answer ≤ℤ m

-- the value of a type of `width` bits is rounded up to a multiple of `2 ^ digits`, or refused if that is above the type's
-- greatest. If `digits` is at least `width`, every value but 0 is refused
pub record IsCheckedCeiling (width greatest digits : ℕ) (value : ℤ) (answer : Option ℤ) : Type 0 where
  pub inside : digits < width → MatchOption answer
      ((m : ℤ) → IsCeiling (2 ^ digits) value m → pos greatest <ℤ m)
      (λ m. IsCeiling (2 ^ digits) value m × (m ≤ℤ pos greatest))
  pub outside : width ≤ digits → MatchOption answer (value ≢ pos 0) (λ m. (value ≡ pos 0) × (m ≡ pos 0))
