use Rattle.std.proofs.Common.{arith, ◌∙◌, rules, subst, sym}
use Rattle.rlsf_base.proofs.Lending.Present.{here-same}
use Rattle.rlsf_model.specs.State.{usable}
use Rattle.rlsf_blocks.proofs.Reallocate.FirstPlan.{in_place-none, IsReallocated-counted_first, IsReallocated-elsewhere, IsReallocated-planned, plan-moves}
use Rattle.rlsf_blocks.specs.Steps.Resize.{IsElsewhere}
use Rattle.rlsf_blocks.proofs.Reallocate.FirstPlan.{StandsFor-unchanged, own_align}
use Rattle.rlsf_blocks.proofs.Refused.{none_more}
use Rattle.rlsf_table.proofs.Costs.{Costs-counted, Costs-then, Costs-within}
use Rattle.rlsf_blocks.proofs.Reallocate.Copies.{Costs-moving}
use Rattle.rlsf_blocks.proofs.Words.Stays.{Stays, Stays-same, Stays-then}
use Rattle.rlsf_blocks.proofs.reallocation.cases.moved.Goals as goal

pub move_into_previous-requires : goal.move_into_previous-requires
move_into_previous-requires g c =
    let (s, u, v, is, first, here) = c.requires.used in
    (omega arith, (c.requires.parameters, ((s, u, v, is, in_place-none s u c.args.layout.size first, here), (search rules, c.requires.whole))))

pub move_elsewhere-requires : goal.move_elsewhere-requires
move_elsewhere-requires g c =
    let (s, u, v, is, first, here) = c.requires.used in
    let none = in_place-none s u c.args.layout.size first in
    let same = c.in_default.ensures.unchanged in
    let v1 = StandsFor-unchanged c.args.memory.now c.move_into_previous.new.memory c.args.table.now c.move_into_previous.new.table s 4 same v in (
      omega arith,
      (
        c.requires.parameters,
        (
          search rules,
          (
            (s, u, v1, own_align is, none, here-same c.args.memory.now c.move_into_previous.new.memory (usable u) same.0.start same.0.out here),
            λ whole. same.0.out ∙ c.requires.whole whole,
          ),
        ),
      ),
    )

-- ---- in the free block before it

pub returns-in-Some : goal.returns-in-Some
returns-in-Some g c =
    let moves = c.in-Some.ensures in
    record {
      step = λ s u v is first here.
          let (p, third, at, carried) = moves.moved s u v is (in_place-none s u c.args.layout.size first) here in
          IsReallocated-planned c.args.memory.now c.move_into_previous.new.memory c.args.table.now c.move_into_previous.new.table s u c.args.layout.size p c.in-Some.moved
          (plan-moves s u c.args.layout.size first ∙ third) at carried;
      refused = tt;
      costs = Costs-within (omega arith) moves.costs;
      copied = moves.copied;
      own = moves.own;
      here = moves.here;
      kept_here = λ s u v is first here. moves.kept_here s u v is (in_place-none s u c.args.layout.size first) here;
    }

-- ---- elsewhere

pub returns : goal.returns
returns g c =
    let m = c.args.memory.now in
    let n = c.move_into_previous.new.memory in
    let o = c.move_elsewhere.new.memory in
    let size = c.args.layout.size in
    let same = c.in_default.ensures.unchanged in
    let counts = same.0 in
    let moves = c.move_elsewhere.ensures in
    let second : Stays n o = record { start = moves.costs.start; own = moves.own; here = moves.here } in
    let stays = Stays-then (Stays-same m n counts.start counts.out) second in
    record {
      step = λ s u v is first here.
          let none = in_place-none s u size first in
          let v1 = StandsFor-unchanged m n c.args.table.now c.move_into_previous.new.table s 4 same v in
          let nowhere = plan-moves s u size first ∙ c.in_default.ensures.refused s u v is none in
          IsReallocated-counted_first n o c.move_into_previous.new.table c.move_elsewhere.new.table s u size m 4 c.move_elsewhere.result counts
          (IsReallocated-elsewhere n o c.move_into_previous.new.table c.move_elsewhere.new.table s u size c.move_elsewhere.result 5 nowhere v1 moves.unchanged
          (subst (λ a. IsElsewhere g.row.FLLEN g.row.SLLEN n o c.move_elsewhere.new.table s u size a c.move_elsewhere.result) (sym is.alignment)
          (moves.step s u v1 (own_align is) none (here-same m n (usable u) counts.start counts.out here))));
      refused = none_more c.move_elsewhere.result (λ same. same.0.bytes ∙ counts.bytes) moves.unchanged;
      costs = Costs-moving (omega (arith, counts.copied)) (Costs-then (Costs-counted counts) moves.costs);
      copied = λ s u v is. omega (arith, counts.copied, moves.copied s u (StandsFor-unchanged m n c.args.table.now c.move_into_previous.new.table s 4 same v) (own_align is));
      own = stays.own;
      here = stays.here;
      kept_here = λ s u v is first here.
          let v1 = StandsFor-unchanged m n c.args.table.now c.move_into_previous.new.table s 4 same v in
          moves.kept_here s u v1 (own_align is) (in_place-none s u size first) (here-same m n (usable u) counts.start counts.out here);
    }
