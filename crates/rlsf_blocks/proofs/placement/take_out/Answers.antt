use Rattle.std.proofs.Common.{ℕ, ◌<◌, ◌++◌, arith, refl, rules, sym, subst}
use Rattle.rlsf_base.specs.declared.memory.range.Range.{Range}
use Rattle.rlsf_model.specs.State.{State}
use Rattle.rlsf_table.specs.Table.{IsClassAt}
use Rattle.rlsf_blocks.specs.Steps.Rest.{IsTaken}
use Rattle.rlsf_blocks.proofs.Allocate.TakenOut.{ahead, later, is_newest, IsInnerRoom-rest, IsOpened-rest, IsOpened-whole, rest, split_list}
use Rattle.rlsf_table.proofs.Costs.{Costs-then, Costs-within}
use Rattle.rlsf_blocks.proofs.placement.take_out.Goals as goal

-- the free block has the class at the indices of its length
at_class : {fllen sllen : ℕ} {s : State} {f : Range} {block len taken fl sl : ℕ} → IsClassAt fllen sllen len fl sl → IsTaken sllen s f block len taken
    → IsClassAt fllen sllen f.len fl sl
at_class {fllen} {sllen} {fl = fl} {sl = sl} at take = subst (λ n. IsClassAt fllen sllen n fl sl) (sym take.length) at

pub unlink_newest_block-requires : goal.unlink_newest_block-requires
unlink_newest_block-requires g c =
    let (s, f, v, take) = c.requires.taken in
    (omega arith, (c.requires.parameters, ((f, ahead v take, later v take, take.start, is_newest v take (at_class c.requires.class take), split_list v take), search rules)))

pub leave_rest-requires : goal.leave_rest-requires
leave_rest-requires g c =
    let (s, f, v, take) = c.requires.taken in
    let unlinked = c.unlink_newest_block.ensures.step f (ahead v take) (later v take) take.start (is_newest v take (at_class c.requires.class take)) (split_list v take) in (
      omega arith,
      (
        c.requires.parameters,
        (
          (ahead v take ++ later v take, rest v take, refl, omega (arith, take.start, take.length, take.fits), IsInnerRoom-rest v take unlinked (omega (arith, take.fits))),
          search rules,
        ),
      ),
    )

pub returns-then-longer : goal.returns-then-longer
returns-then-longer g c = record {
  step = λ s f v take.
      let unlinked = c.unlink_newest_block.ensures.step f (ahead v take) (later v take) take.start (is_newest v take (at_class c.requires.class take)) (split_list v take) in
      let short : c.args.taken < c.args.len = omega (arith, take.fits) in
      let room = IsInnerRoom-rest v take unlinked short in
      IsOpened-rest v take unlinked short (c.leave_rest.ensures.step (ahead v take ++ later v take) (rest v take) refl (omega (arith, take.start, take.length, take.fits)) room);
  costs = Costs-then c.unlink_newest_block.ensures.costs c.leave_rest.ensures.costs;
}

pub returns-else-longer : goal.returns-else-longer
returns-else-longer g c = record {
  step = λ s f v take.
      let unlinked = c.unlink_newest_block.ensures.step f (ahead v take) (later v take) take.start (is_newest v take (at_class c.requires.class take)) (split_list v take) in
      IsOpened-whole v take unlinked (omega (arith, take.fits));
  costs = Costs-within (omega arith) c.unlink_newest_block.ensures.costs;
}
