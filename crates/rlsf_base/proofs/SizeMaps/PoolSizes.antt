-- The length of the longest chunk.
use Rattle.std.proofs.Common.{◌≡◌, ℕ, ◌+◌, ◌^◌, ◌<◌, ◌≤◌, Some, None, inl, inr, sym, ◌∙◌}
use Rattle.std.proofs.lemmas.Bool.{cases_lt, cond-true, lt-ltb, ltb-true}
use Rattle.std.proofs.lemmas.Option.{cond_some, none-some}
use Rattle.rlsf_model_sizes.specs.Sizes.{max_pool_size}

pub max_pool_size-some : (fllen p : ℕ) → max_pool_size fllen ≡ Some p → (5 + fllen < 64) × (p ≡ 2 ^ (5 + fllen))
max_pool_size-some fllen p is = let parts = cond_some _ (2 ^ (5 + fllen)) p is in (ltb-true (5 + fllen) 64 parts.0, sym parts.1)

pub max_pool_size-none : (fllen : ℕ) → max_pool_size fllen ≡ None → 64 ≤ 5 + fllen
max_pool_size-none fllen is = elim (cases_lt (5 + fllen) 64) [
  | inl few ↦ absurd (none-some (2 ^ (5 + fllen)) (sym is ∙ cond-true _ (Some (2 ^ (5 + fllen))) None (lt-ltb (5 + fllen) 64 few)))
  | inr many ↦ many
]
