-- What is said of a question that is refused.
use Rattle.std.proofs.Common.{◌≡◌, Option, Some, None, MatchOption, sym}
use Rattle.std.proofs.lemmas.Option.{none-some}

-- what is said of no value
pub match_none : {A X : Type 0} (P : A → Type 0) (o : Option A) → o ≡ None → X → MatchOption o X P
match_none P None is x = x
match_none P (Some a) is x = absurd (none-some a (sym is))
