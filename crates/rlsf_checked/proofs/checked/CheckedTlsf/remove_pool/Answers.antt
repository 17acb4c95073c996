use Rattle.std.proofs.Common.{true≢false, arith, inl, inr, refl, sym, ◌∙◌, subst}
use Rattle.rlsf_blocks.specs.Blocks.{walked}
use Rattle.rlsf_model.specs.Lists.{IsIn}
use Rattle.rlsf_model.specs.Remove.{IsIdle}
use Rattle.rlsf_tlsf.proofs.Arrivals.{well_formed}
use Rattle.rlsf_tlsf.proofs.IdleRows.{idle_if, used_if}
use Rattle.rlsf_checked.specs.Checked.{PoolList}
use Rattle.rlsf_checked.specs.Pools.{current_pools}
use Rattle.rlsf_checked.specs.Steps.Lists.{listed}
use Rattle.rlsf_checked.specs.Steps.Standing.{IsChecked, IsOneOf, IsCheckedPool}
use Rattle.rlsf_checked.proofs.FieldsOverSteps.{stands_after, step_of}
use Rattle.rlsf_checked.proofs.ListedPools.{one_of}
use Rattle.rlsf_checked.proofs.RemovedPools.{removed_pool}
use Rattle.rlsf_checked.proofs.Unchanged.{frame_unchanged}
use Rattle.rlsf_checked.proofs.checked.CheckedTlsf.remove_pool.Given as given
use Rattle.rlsf_checked.proofs.checked.CheckedTlsf.remove_pool.Goals as goal
use Rattle.rlsf_checked.proofs.checked.CheckedTlsf.remove_pool.Goals.{Else-not-contains}

-- the range is a pool
is_one : (g : given.Over) (c : Else-not-contains g) → IsOneOf c.args.range (listed c.self.inside.pools)
is_one g c = one_of (listed c.self.inside.pools) c.args.range (c.contains.ensures.0 c.if-not-contains.false)

is_pool : (g : given.Over) (c : Else-not-contains g) → IsCheckedPool c.self.inside.heap.state c.args.range
is_pool g c = c.self.invariant.pools.each c.args.range (is_one g c)

pub iter_blocks-requires : goal.iter_blocks-requires
iter_blocks-requires g c = (omega arith, (is_pool g (goal.at.iter_blocks-requires g c).Else-not-contains).row)

pub remove_pool-requires : goal.remove_pool-requires
remove_pool-requires g c =
    let w = well_formed c.self.inside.heap c.self.invariant.stands in
    let row = (is_pool g (goal.at.remove_pool-requires g c).Else-not-contains).row in
    let idle = idle_if w (walked c.args.range) row c.iter_blocks.result c.iter_blocks.ensures.blocks (sym c.any_used.ensures ∙ c.if-any_used.false) in
    (omega arith, (row, idle))

pub invariant_of-self : goal.invariant_of-self
invariant_of-self g c =
    let did = c.remove_pool.ensures in
    let one = is_one g (goal.at.invariant_of-self g c).Else-not-contains in
    subst (λ (p : PoolList). IsChecked g.row.FLLEN g.row.SLLEN c.remove_pool.new.self c.self.inside.marks p) (sym c.remove.ensures)
    (removed_pool c.self.invariant (stands_after _ _ _ _ _ did.step) did.frame.place did.frame.aligns c.args.range one (step_of _ _ _ _ _ did.step))

pub returns-then-not-contains : goal.returns-then-not-contains
returns-then-not-contains g c = rw (← c.self.view_is) (record {
  step = tt;
  result = tt;
  refused = record { answer = inl (refl, λ is. true≢false (sym (c.contains.ensures.1 is) ∙ c.if-not-contains.true)); same = refl };
  frame = frame_unchanged c.self.inside.heap;
  touches = omega arith;
})

pub returns-then-any_used : goal.returns-then-any_used
returns-then-any_used g c =
    let w = well_formed c.self.inside.heap c.self.invariant.stands in
    let row = (is_pool g (goal.at.returns-then-any_used g c).Else-not-contains).row in
    let used : IsIdle c.self.inside.heap.state (walked c.args.range) → ⊥ =
    used_if w (walked c.args.range) row c.iter_blocks.result c.iter_blocks.ensures.blocks (sym c.any_used.ensures ∙ c.if-any_used.true) in
    let is : IsIn c.args.range (current_pools (listed c.self.inside.pools)) = c.contains.ensures.0 c.if-not-contains.false in
    rw (← c.self.view_is) (record {
      step = tt;
      result = tt;
      refused = record { answer = inr (refl, is, used); same = refl };
      frame = frame_unchanged c.self.inside.heap;
      touches = omega arith;
    })

pub returns : goal.returns
returns g c =
    let w = well_formed c.self.inside.heap c.self.invariant.stands in
    let row = (is_pool g (goal.at.returns g c).Else-not-contains).row in
    let idle = idle_if w (walked c.args.range) row c.iter_blocks.result c.iter_blocks.ensures.blocks (sym c.any_used.ensures ∙ c.if-any_used.false) in
    let is : IsIn c.args.range (current_pools (listed c.self.inside.pools)) = c.contains.ensures.0 c.if-not-contains.false in
    rw (← c.self.view_is) (record {
      step = c.remove_pool.ensures.step;
      result = c.remove.ensures;
      refused = record { answer = (is, idle); same = tt };
      frame = c.remove_pool.ensures.frame;
      touches = c.remove_pool.ensures.touches;
    })
