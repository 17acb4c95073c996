-- A range that is cut into one chunk.
use mathlib.Core.Path.{ap₂}
use Rattle.std.proofs.Common.{◌≡◌, ℕ, ◌+◌, ◌-◌, ◌*◌, ◌/◌, ◌^◌, ◌<◌, ◌≤◌, [], ◌∷◌, ◌++◌, cond, arith, inl, inr, ◌∙◌, ap, subst}
use Rattle.std.proofs.Common.{sym}
use Rattle.std.proofs.lemmas.Bool.{le-leb}
use Rattle.std.proofs.Math.Nat.{div-eq_of_lt}
use Rattle.std.proofs.Math.Pow.{pow_mono}
use Rattle.rlsf_base.specs.Range.{range_at}
use Rattle.rlsf_model_sizes.specs.Sizes.{max_pool_size}
use Rattle.rlsf_model.specs.Insert.{adjacent, cut, remainder}
use Rattle.rlsf_model.proofs.Cuts.{max_pool-cases}

-- from 64 to 4096 bytes are one chunk where a chunk may be as long
pub cut-one : (fllen pool : ℕ) → 8 ≤ fllen → 64 ≤ pool → pool ≤ 4096 → cut (max_pool_size fllen) (range_at 4096 pool) ≡ range_at 4096 pool ∷ []
cut-one fllen pool rows room short =
    let r = range_at 4096 pool in
    let one : remainder 4096 pool ≡ r ∷ [] = ap (λ b. cond b (r ∷ []) []) (le-leb 64 pool room) in
    elim (max_pool-cases fllen) [
      | inl some ↦
          let most = 2 ^ (5 + fllen) in
          let great : 2 ^ 13 ≤ most = (let more : 13 ≤ 5 + fllen = omega arith in pow_mono {i = 13} more) in
          let none : 0 ≡ pool / most = (let shorter : pool < most = omega (arith, great) in sym (div-eq_of_lt shorter)) in
          let rest : remainder (4096 + 0 * most) (pool - 0 * most) ≡ r ∷ [] = ap₂ remainder (omega arith) (omega arith) ∙ one in
          ap (λ o. cut o r) some ∙ subst (λ n. adjacent 4096 most n ++ remainder (4096 + n * most) (pool - n * most) ≡ r ∷ []) none rest
      | inr (none, large) ↦ ap (λ o. cut o r) none ∙ one
    ]
