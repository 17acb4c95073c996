-- A byte of a payload that was filled and then resized.
use Rattle.std.proofs.Common.{◌≡◌, ℕ, ◌<◌, List, Option, Some, None, length, min, replicate, get_or, is_some, true, true≢false, IfSome, arith, sym, ◌∙◌, ap}
use Rattle.std.proofs.lemmas.List.{get_or-replicate, get_or-take, length-replicate}
use Rattle.rlsf_model.specs.Reallocate.{Keeps}

-- a byte that both sizes have
pub kept_byte : (old new : List ℕ) (n byte k : ℕ) → old ≡ replicate n byte → Keeps old new → k < n → k < length new → get_or new k 0 ≡ byte
kept_byte old new n byte k filled keeps low high =
    let m = min (length old) (length new) in
    let long : length old ≡ n = ap length filled ∙ length-replicate n byte in
    let less : k < m = omega (arith, long, low, high) in
    sym (get_or-take m new k 0 less) ∙ ap (λ bs. get_or bs k 0) keeps ∙ get_or-take m old k 0 less ∙ ap (λ bs. get_or bs k 0) filled ∙ get_or-replicate n k byte 0 low

-- the value, where there is one, and what holds of it
pub where_some : {A : Type 0} (o : Option A) (P : A → Type 0) → is_some o ≡ true → IfSome o P → (a : A) × P a
where_some None P some holds = absurd (true≢false (sym some))
where_some (Some a) P some holds = (a, holds)
