use Rattle.std.proofs.Common.{true≢false, arith, refl, sym, ◌∙◌, subst}
use Rattle.rlsf_blocks.specs.Blocks.{walked}
use Rattle.rlsf_tlsf.proofs.Arrivals.{well_formed}
use Rattle.rlsf_tlsf.proofs.IdleRows.{idle_if, used_if}
use Rattle.rlsf_checked.specs.Checked.{PoolList}
use Rattle.rlsf_checked.specs.Steps.Standing.{IsChecked}
use Rattle.rlsf_checked.proofs.FieldsOverSteps.{stands_after, step_of}
use Rattle.rlsf_checked.proofs.RemovedPools.{last_row, removed_last_pool}
use Rattle.rlsf_checked.proofs.Unchanged.{frame_unchanged}
use Rattle.rlsf_checked.proofs.checked.CheckedTlsf.remove_last.Goals as goal

pub iter_blocks-requires : goal.iter_blocks-requires
iter_blocks-requires g c = (omega arith, last_row c.self.invariant.pools)

pub remove_pool-requires : goal.remove_pool-requires
remove_pool-requires g c =
    let w = well_formed c.self.inside.heap c.self.invariant.stands in
    let row = last_row c.self.invariant.pools in
    let idle = idle_if w (walked c.self.inside.pools.last) row c.iter_blocks.result c.iter_blocks.ensures.blocks (sym c.any_used.ensures ∙ c.if-any_used.false) in
    (omega arith, (row, idle))

pub invariant_of-self : goal.invariant_of-self
invariant_of-self g c =
    let did = c.remove_pool.ensures in
    subst (λ (p : PoolList). IsChecked g.row.FLLEN g.row.SLLEN c.remove_pool.new.self c.self.inside.marks p) (sym c.remove_last.ensures)
    (removed_last_pool c.self.invariant (stands_after _ _ _ _ _ did.step) did.frame.place did.frame.aligns (step_of _ _ _ _ _ did.step))

pub returns-then-any_used : goal.returns-then-any_used
returns-then-any_used g c = rw (← c.self.view_is) (
    let w = well_formed c.self.inside.heap c.self.invariant.stands in
    record {
      step = λ e. absurd (true≢false (sym e));
      result = λ e. absurd (true≢false (sym e));
      idle = (
        (λ e. absurd (true≢false (sym e))),
        (λ idle. absurd (used_if w (walked c.self.inside.pools.last) (last_row c.self.invariant.pools) c.iter_blocks.result c.iter_blocks.ensures.blocks
            (sym c.any_used.ensures ∙ c.if-any_used.true) idle)),
      );
      refused = λ e. refl;
      frame = frame_unchanged c.self.inside.heap;
    })

pub returns : goal.returns
returns g c = rw (← c.self.view_is) (
    let w = well_formed c.self.inside.heap c.self.invariant.stands in
    let idle = idle_if w (walked c.self.inside.pools.last) (last_row c.self.invariant.pools) c.iter_blocks.result c.iter_blocks.ensures.blocks
    (sym c.any_used.ensures ∙ c.if-any_used.false) in
    record {
      step = λ e. c.remove_pool.ensures.step;
      result = λ e. c.remove_last.ensures;
      idle = ((λ e. idle), (λ idle. refl));
      refused = λ e. absurd (true≢false e);
      frame = c.remove_pool.ensures.frame;
    })
