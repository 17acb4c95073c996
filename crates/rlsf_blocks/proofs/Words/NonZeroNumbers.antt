-- What `NonZeroUsize::new` returns, as a number.
use Rattle.std.proofs.Common.{ℕ, ◌≡◌, ◌<◌, Option, Some, None, MatchOption, IfNone, IfSome, arith, refl, sym, ap, subst}
use Rattle.std.specs.declared.num.NonZeroUsize.{NonZeroUsize}
use Rattle.std.specs.Int.NonZero.{non_zero_usize_get}
use Rattle.std.specs.Option.{option_map}

-- the number that it was given, if that is not 0
pub number : (o : Option NonZeroUsize) (n : ℕ) → MatchOption o (n ≡ 0) (λ x. non_zero_usize_get x ≡ n)
    → (n ≡ 0 → option_map non_zero_usize_get o ≡ None) × (0 < n → option_map non_zero_usize_get o ≡ Some n)
number None n is = ((λ zero. refl), λ some. absurd (omega arith))
number (Some x) n is = ((λ zero. absurd (omega (arith, x.ok))), λ some. ap Some is)

-- what holds where no number was made
pub on_none : {P : Type 0} (o : Option NonZeroUsize) (n : ℕ) → MatchOption o (n ≡ 0) (λ x. non_zero_usize_get x ≡ n) → (n ≡ 0 → P) → IfNone o P
on_none None n is holds = holds is
on_none (Some x) n is holds = tt

-- what holds of the number
pub on_some : (P : ℕ → Type 0) (o : Option NonZeroUsize) (n : ℕ) → MatchOption o (n ≡ 0) (λ x. non_zero_usize_get x ≡ n) → P n
    → IfSome o (λ x. P (non_zero_usize_get x))
on_some P None n is holds = tt
on_some P (Some x) n is holds = subst P (sym is) holds
