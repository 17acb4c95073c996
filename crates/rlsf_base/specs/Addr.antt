-- Addresses as numbers.
use Rattle.std.specs.Prelude.{ℕ, zero, suc, Option, Some, None}
use Rattle.std.specs.declared.num.NonZeroUsize.{NonZeroUsize}
use Rattle.std.specs.Int.NonZero.{non_zero_usize_get}
use Rattle.std.specs.Option.{option_map}

-- the number of an address
abbrev pub at : NonZeroUsize → ℕ
at addr = non_zero_usize_get addr

-- the number that is returned, if there is one
abbrev pub reply : Option NonZeroUsize → Option ℕ
reply answer = option_map non_zero_usize_get answer

-- the address that a call returns as a number, where 0 means that there is none
abbrev pub reply_of : ℕ → Option ℕ
reply_of zero = None
reply_of (suc n) = Some (suc n)
