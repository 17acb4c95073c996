-- A payload that moved has left its old address.
use Rattle.std.proofs.Common.{◌≡◌, ◌≢◌, ℕ, Option, Some, None, sym, ◌∙◌, ap, subst, inl, inr}
use Rattle.rlsf_model.specs.Callers.{align_at}
use Rattle.rlsf_model.specs.Reallocate.{Plan, Reallocates, ReallocatesBy, plan}
use Rattle.rlsf_model.specs.State.{State, Used, Holds}
use Rattle.rlsf_model.proofs.CallerWords.{align_at-none}
use Rattle.rlsf_model.proofs.Callers.{payload_at-none}
use Rattle.rlsf_model.proofs.Changes.{IsIn-others}

module _ (sllen : ℕ) (s t : State) (addr size to : ℕ) (apart : to ≢ addr) where
  no_block_is_left : (u : Used) → u.payload ≡ addr → (p : Option Plan) → ReallocatesBy sllen s u size p (Some to) t → (v : Used) → Holds t addr v → ⊥
  no_block_is_left u at None did v held =
      (IsIn-others did.released.block.payload v did.meanwhile.used (subst (λ (r : State). Holds r addr v) did.released.after held).0).1
      (held.1 ∙ sym at ∙ sym did.released.holds.1)
  no_block_is_left u at (Some p) did v held = elim (subst (λ (r : State). Holds r addr v) did.after held).0 [
    | inl same ↦ apart (did.answer ∙ sym (ap (λ (w : Used). w.payload) same) ∙ held.1)
    | inr other ↦ (IsIn-others u.payload v s.used other).1 (held.1 ∙ sym at)
  ]

  pub gone_where_moved : Reallocates sllen s addr size (Some to) t → align_at t addr ≡ None
  gone_where_moved step = align_at-none t addr (payload_at-none t addr (no_block_is_left step.block step.holds.1 (plan s step.block size) step.step))
