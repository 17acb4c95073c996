-- What a call left, by its result.
use Rattle.std.proofs.Common.{◌≡◌, Result, Ok, Err, IsOk, is_ok, if◌then◌else◌, true≢false, sym}

-- what a call that succeeded left
pub when_ok : {X E A : Type 0} (r : Result X E) {is yes : A} (other : A) → IsOk r → is ≡ (if is_ok r then yes else other) → is ≡ yes
when_ok (Ok x) other went e = e
when_ok (Err x) other went e = absurd (true≢false (sym went))
