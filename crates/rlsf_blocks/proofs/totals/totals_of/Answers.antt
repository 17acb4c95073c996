use Rattle.std.proofs.Common.{◌≤◌, sym, subst}
use Rattle.rlsf_blocks.specs.declared.totals.Totals.{Totals}
use Rattle.rlsf_blocks.proofs.Walking.Totals.{IsCounted, below, one_more}
use Rattle.rlsf_blocks.proofs.totals.totals_of.Goals as goal

pub counted-sum-requires : goal.counted-sum-requires
counted-sum-requires c =
    let is = subst (λ bs. IsCounted c.loop-block.sum bs c.args.blocks) c.in-Some.ensures.steps c.loop-block.invariant.2 in
    record { behind = below c.loop-block.sum c.in-Some.block c.next.new.self c.args.blocks is; few = is.few }

pub loop-block-preserved : goal.loop-block-preserved
loop-block-preserved c =
    let is = subst (λ bs. IsCounted c.loop-block.sum bs c.args.blocks) c.in-Some.ensures.steps c.loop-block.invariant.2 in
    let did = c.counted-sum.ensures in (
      tt,
      tt,
      subst (λ s. IsCounted s c.next.new.self c.args.blocks) (sym did.value)
          (one_more c.loop-block.sum c.in-Some.block c.next.new.self c.args.blocks is (subst (λ (s : Totals). s.payloads ≤ s.used) did.value did.few)),
    )
