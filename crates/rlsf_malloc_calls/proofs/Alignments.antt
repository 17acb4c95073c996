-- Where payloads lie whose alignment is 16 or above.
use Rattle.std.proofs.Common.{◌≡◌, ◌≢◌, ◌⊎◌, ℕ, zero, suc, ◌+◌, ◌*◌, ◌%◌, ◌^◌, ◌<◌, ◌≤◌, Some, arith, sym, ◌∙◌, ap, subst}
use Rattle.std.proofs.Common.{inl, inr, pow-add, pow_pos}
use Rattle.rlsf_model_sizes.specs.PowerOfTwo.{floor_log2}
use Rattle.rlsf_model.specs.Callers.{align_at}
use Rattle.rlsf_model.specs.Payload.{payload_of}
use Rattle.rlsf_model.specs.State.{Used}
use Rattle.rlsf_model.specs.WellFormed.{IsUsed}
use Rattle.rlsf_model.proofs.CallerWords.{align_at-live}
use Rattle.rlsf_model.proofs.Payloads.{IsUsed-aligned}
use Rattle.rlsf_model.proofs.RangeLengths.{wide_whole}
use Rattle.rlsf_heap.specs.Heap.{HeapView, Stands}

-- a power of two from 16 on is 16, or 32 or more
power_from_16 : (k n : ℕ) → n ≡ 2 ^ k → 16 ≤ n → (n ≡ 16) ⊎ (32 ≤ n)
power_from_16 zero n e low = absurd (omega (arith, e, low))
power_from_16 (suc zero) n e low = absurd (omega (arith, e, low))
power_from_16 (suc (suc zero)) n e low = absurd (omega (arith, e, low))
power_from_16 (suc (suc (suc zero))) n e low = absurd (omega (arith, e, low))
power_from_16 (suc (suc (suc (suc zero)))) n e low = inl (omega (arith, e))
power_from_16 (suc (suc (suc (suc (suc k))))) n e low =
    let exponent : suc (suc (suc (suc (suc k)))) ≡ 5 + k = omega arith in
    let times : 2 ^ (5 + k) ≡ 32 * 2 ^ k = pow-add 2 5 k in
    inr (omega (arith, e ∙ ap (λ m. 2 ^ m) exponent ∙ times, pow_pos k))

-- a payload of the alignment 16 lies at no multiple of 32, and one of a wider alignment does
placed_by : (u : Used) → IsUsed u → 16 ≤ u.align → ((u.payload % 32 ≢ 0) × (u.align ≡ 16)) ⊎ ((u.payload % 32 ≡ 0) × (16 < u.align))
placed_by u is low = elim (power_from_16 (floor_log2 u.align) u.align is.power low) [
  | inl narrow ↦ (let at : u.payload ≡ payload_of u.block.start 16 = is.placed ∙ ap (payload_of u.block.start) narrow in
      inl (λ e. omega (arith, at, is.whole.start, e), narrow))
  | inr wide ↦ inr (wide_whole u.payload u.align is.power wide (IsUsed-aligned u is), omega (arith, wide))
]

pub narrow_or_wide : (fllen sllen : ℕ) (v : HeapView) → Stands fllen sllen v → (addr align : ℕ) → align_at v.state addr ≡ Some align → 16 ≤ align
    → ((addr % 32 ≢ 0) × (align ≡ 16)) ⊎ ((addr % 32 ≡ 0) × (16 < align))
unfolding Stands
narrow_or_wide fllen sllen v stands addr align is low =
    let (u, held, aligned) = align_at-live v.state addr align is in
    let placed = placed_by u (stands.used u held.0) (subst (λ n. 16 ≤ n) (sym aligned) low) in
    subst (λ (p : ℕ). ((p % 32 ≢ 0) × (align ≡ 16)) ⊎ ((p % 32 ≡ 0) × (16 < align))) held.1
    (subst (λ (n : ℕ). ((u.payload % 32 ≢ 0) × (n ≡ 16)) ⊎ ((u.payload % 32 ≡ 0) × (16 < n))) aligned placed)
