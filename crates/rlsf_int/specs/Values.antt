-- Which members of a type's logical reading are its values, and which numbers represent them.
use Rattle.std.specs.Prelude.{◌≡◌, ℕ, ◌+◌, ◌<◌, ◌^◌, ℤ, pos, ◌+ℤ◌, ◌≤ℤ◌, ◌⊎◌, List}
use denote.RattleType.{RattleType}
use denote.Laws.{Is}
use mir.Val.{Val}

-- x is a value that the type R has: the system has words for it. A law's number is any number, and a `u8` is one below 256
abbrev pub IsValue : (R : RattleType) → R.Denot → Type 0
IsValue R x = (vs : List Val) × Is R x vs

-- `pattern` pairs the values with the numbers below `2 ^ width`
pub record IsOneToOne {A : Type 0} (IsReal : A → Type 0) (width : ℕ) (pattern : A → ℕ) : Type 0 where
  pub fits : (x : A) → IsReal x → pattern x < 2 ^ width
  pub same : (x y : A) → IsReal x → IsReal y → pattern x ≡ pattern y → x ≡ y
  pub every : (n : ℕ) → n < 2 ^ width → (x : A) × IsReal x × (pattern x ≡ n)

-- the number that a pattern of `width` ones and zeros spells, where the type's numbers end at `greatest`: without a sign, or in
-- two's complement
pub record IsSpelled (width greatest pattern : ℕ) (number : ℤ) : Type 0 where
  pub ends : (greatest + 1 ≡ 2 ^ width) ⊎ ((greatest + 1) + (greatest + 1) ≡ 2 ^ width)
  pub above : pos (greatest + 1) ≤ℤ (number +ℤ pos (2 ^ width))
  pub below : number ≤ℤ pos greatest
  pub spelled : (number ≡ pos pattern) ⊎ ((number +ℤ pos (2 ^ width)) ≡ pos pattern)
