use Rattle.std.proofs.Common.{◌≤◌, arith, refl, ap, subst}
use Rattle.rlsf_base.specs.declared.memory.range.Range.{Range}
use Rattle.rlsf_blocks.proofs.Walking.Listing.{IsListed, has_place, put}
use Rattle.rlsf_blocks.proofs.listing.list.Goals as goal

pub loop-block-preserved-then-as_ptr-from : goal.loop-block-preserved-then-as_ptr-from
loop-block-preserved-then-as_ptr-from c =
    let is = subst (λ bs. IsListed c.args.from c.args.into.now c.loop-block.into c.loop-block.count bs c.args.blocks) c.in-Some.ensures.steps c.loop-block.invariant.3 in
    let high : c.args.from ≤ c.in-Some.block.range.start = omega (arith, c.if-as_ptr-from.true, ap (λ (r : Range). r.start) c.as_ptr.ensures) in
    (tt, tt, refl, put is c.put.new.into high (has_place is c.if-count-room.false) c.put.ensures)
