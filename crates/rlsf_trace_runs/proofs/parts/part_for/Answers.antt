use Rattle.std.proofs.Common.{arith, refl, ◌∙◌}
use Rattle.std.proofs.lemmas.List.{get_or_default}
use Rattle.rlsf_trace_runs.proofs.WiderMemory.{covers-more, HasRanges-all}
use Rattle.rlsf_trace_runs.proofs.parts.part_for.Goals as goal

pub loop-op-init : goal.loop-op-init
loop-op-init c = ((omega arith, omega arith, omega arith, omega arith), λ k below d. absurd (omega (arith, below)))

pub widened-part-requires-clause-inside : goal.widened-part-requires-clause-inside
widened-part-requires-clause-inside c = c.loop-op.invariant.0

pub loop-op-preserved : goal.loop-op-preserved
loop-op-preserved c = (
  c.widened-part.ensures.inside,
  covers-more c.args.memory c.args.ops.now c.loop-op.invariant.1 c.widened-part.ensures.wider c.op-item.result
      (λ d. c.op-item.is ∙ get_or_default c.args.ops.now c.loop-op.op-index _ d c.loop-op-test.true) c.widened-part.ensures.covers,
)

pub returns : goal.returns
returns c =
    let ((above, below, _, ends), covers) = c.loop-op.invariant in (
      (omega (arith, above), omega (arith, below, ends, c.saturating_sub.ensures)),
      HasRanges-all c.args.memory _ _ c.args.ops.now (λ k within d. covers k (omega (arith, within, c.loop-op-test.false)) d) _ (refl, omega (arith, c.saturating_sub.ensures)),
    )
