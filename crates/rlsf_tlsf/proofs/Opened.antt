-- An allocator whose memory is opened: its fields, with the memory's own, are those of which its invariant speaks.
use Rattle.std.proofs.Common.{◌≡◌, ℕ, sym, ◌∙◌, ap, subst}
use Rattle.rlsf_tlsf.specs.Allocator.{Allocator, allocator, IsAllocator}
use Rattle.rlsf_tlsf.specs.declared.tlsf.Tlsf.TheInside.{Inside}

module _ {FL SL : Type 0} {FLLEN SLLEN : ℕ} {i j : Inside FL SL FLLEN SLLEN} (same : j ≡ i) where
  pub IsAllocator-opened : {fl_bits sl_bits fllen sllen : ℕ} → IsAllocator fl_bits sl_bits fllen sllen i.memory i.table i.state.state
      → IsAllocator fl_bits sl_bits fllen sllen j.memory j.table j.state.state
  IsAllocator-opened {fl_bits} {sl_bits} {fllen} {sllen} is =
      subst (λ (o : Inside FL SL FLLEN SLLEN). IsAllocator fl_bits sl_bits fllen sllen o.memory o.table o.state.state) (sym same) is

  pub view-opened : {v : Allocator} → allocator i.memory i.table i.state.state ≡ v → allocator j.memory j.table j.state.state ≡ v
  view-opened is = ap (λ (o : Inside FL SL FLLEN SLLEN). allocator o.memory o.table o.state.state) same ∙ is
