use Rattle.std.proofs.Common.{arith, refl, ◌∙◌}
use Rattle.rlsf_shared_heap.proofs.Collected.{both, none}
use Rattle.rlsf_shared_heap.proofs.shared.owner.OwnerHeap.collect_lent.Goals as goal

pub loop-count-init : goal.loop-count-init
loop-count-init g c = record { collected = none _ _ _; lent = omega arith; few = omega arith; room = refl }

pub loop-count-preserved : goal.loop-count-preserved
loop-count-preserved g c =
    let was = c.loop-count.invariant in
    let one = c.collect_one-one.ensures in record {
      collected = both _ _ _ _ _ _ _ was.collected one.collected;
      lent = omega (arith, was.lent, one.lent);
      few = omega arith;
      room = one.room ∙ was.room;
    }

pub returns-then-one-eq0 : goal.returns-then-one-eq0
returns-then-one-eq0 g c =
    let was = c.loop-count.invariant in
    let one = c.collect_one-one.ensures in record {
      collected = both _ _ _ _ _ _ _ was.collected one.collected;
      lent = omega (arith, was.lent, one.lent);
      few = omega arith;
      room = one.room ∙ was.room;
    }
