-- What holds of an answer that there isn't.
use Rattle.std.proofs.Common.{◌≡◌, Option, Some, None, Result, Ok, Err, IfNone, IfSome, OnErr}

pub none_some : {A : Type 0} (P : A → Type 0) (o : Option A) → o ≡ None → IfSome o P
none_some P None e = tt
none_some P (Some x) e = absurd (cc)

pub none_none : {A P : Type 0} (o : Option A) → P → IfNone o P
none_none None p = p
none_none (Some x) p = tt

pub none_more : {A P Q : Type 0} (o : Option A) → (P → Q) → IfNone o P → IfNone o Q
none_more None f p = f p
none_more (Some x) f p = tt

-- what holds anyway holds of an error
pub err_always : {A E P : Type 0} (r : Result A E) → P → OnErr r P
err_always (Ok x) p = tt
err_always (Err e) p = p
