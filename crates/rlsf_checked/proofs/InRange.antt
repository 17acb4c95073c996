-- What is returned at a live address says whether the bytes are in range.
use Rattle.std.proofs.Common.{◌≡◌, ℕ, Bool, cond, Option, Some, Ok, Err, ◌∙◌, ap}
use Rattle.rlsf_checked.specs.Answers.{if_in_range}
use Rattle.rlsf_checked.specs.declared.error.CheckedError.TheVariants.{OutOfRange}

pub at_live : {align : ℕ} {known : Option ℕ} {result fits : Bool} → Some align ≡ known → result ≡ fits → cond result (Ok tt) (Err OutOfRange) ≡ if_in_range known fits
at_live {fits = fits} live is = ap (λ b. cond b (Ok tt) (Err OutOfRange)) is ∙ ap (λ o. if_in_range o fits) live
