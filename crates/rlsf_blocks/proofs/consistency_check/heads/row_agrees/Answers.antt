use Rattle.std.proofs.Common.{◌≢◌, ℕ, ◌∙◌, sym, arith, refl}
use borrow.Author.Count.{below_more}
use Rattle.rlsf_table.specs.Table.{head_at}
use Rattle.rlsf_blocks.specs.Consistency.Heads.{AgreesAt}
use Rattle.rlsf_blocks.proofs.Consistency.Tests.{found_here, found_not, same_tests, tests_same}
use Rattle.rlsf_blocks.proofs.consistency_check.heads.row_agrees.Goals as goal
use Rattle.rlsf_blocks.proofs.consistency_check.heads.row_agrees.Goals.{then-newest-ne0, else-newest-ne0}

pub loop-sl-preserved : goal.loop-sl-preserved
loop-sl-preserved g c = record {
  found =
      let P : ℕ → Type 0 = λ sl. head_at c.args.table.now c.args.fl sl ≢ 0 in
      elim c.if-newest-ne0.branch [
        | then-newest-ne0 w ↦ found_here P c.loop-sl.sl c.if-newest-ne0.has_head (λ none. w.if-newest-ne0.true (c.newest.ensures ∙ none)) w.has_head-is
        | else-newest-ne0 w ↦ found_not P c.loop-sl.sl c.loop-sl.has_head c.if-newest-ne0.has_head (λ some. some (sym c.newest.ensures ∙ w.if-newest-ne0.false)) w.has_head-is
            c.loop-sl.invariant.found
      ];
  agreed = below_more (λ sl. AgreesAt g.row.FLLEN g.row.SLLEN c.args.pools.now c.args.memory.now c.args.table.now c.args.fl sl) c.loop-sl.sl c.loop-sl.invariant.agreed
      (c.if-not-agrees.ensures.0 refl);
}

pub returns : goal.returns
returns g c =
    let found = c.loop-sl.invariant.found in (
      λ same.
          let is = same_tests c.loop-sl.has_head c.args.is_set same in
          record {
            bit = (
              λ set. let (sl, below, some) = found.0 (is ∙ set) in (sl, omega (arith, below, c.loop-sl.auto.sl-end), some),
              λ (sl, below, some). sym is ∙ found.1 (sl, omega (arith, below, c.loop-sl-test.false), some),
            );
            classes = λ sl below. c.loop-sl.invariant.agreed sl (omega (arith, below, c.loop-sl-test.false));
          },
      λ agrees. tests_same c.loop-sl.has_head c.args.is_set
          (λ set. let (sl, below, some) = found.0 set in agrees.bit.1 (sl, omega (arith, below, c.loop-sl.auto.sl-end), some))
          (λ set. let (sl, below, some) = agrees.bit.0 set in found.1 (sl, omega (arith, below, c.loop-sl-test.false), some)),
    )
