use Rattle.std.proofs.Common.{◌%◌, Some, not, arith, ap, sym, ◌∙◌, inl, inr, true≢false}
use Rattle.std.proofs.lemmas.Bool.{eq-eqb, ne_eqb}
use Rattle.rlsf_malloc_calls.proofs.Alignments.{narrow_or_wide}
use Rattle.rlsf_malloc_calls.proofs.Outcomes.{some-same}
use Rattle.rlsf_malloc_calls.proofs.resizing.is_narrow.Goals as goal

pub returns : goal.returns
returns g c =
    let (align, is, low) = c.requires in
    elim (narrow_or_wide g.row.FLLEN g.row.SLLEN c.args.heap.now c.memory_ref.ensures.stands c.args.addr align is low) [
      | inl (apart, narrow) ↦ (λ t. is ∙ ap Some narrow, λ e. ap not (ne_eqb (c.args.addr % 32) 0 apart))
      | inr (whole, wide) ↦ (λ t. absurd (true≢false (sym t ∙ ap not (eq-eqb (c.args.addr % 32) 0 whole))), λ e. absurd (omega (arith, wide, some-same (sym is ∙ e))))
    ]
