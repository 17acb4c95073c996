-- The table has the block in front of its class's list.
use Rattle.std.proofs.Common.{◌≡◌, ℕ, arith, subst, sym}
use Rattle.rlsf_table.specs.Table.{IsClassAt, of_class}
use Rattle.rlsf_table.proofs.Costs.{Costs-counted, Costs-then}
use Rattle.rlsf_table.proofs.Tables.Linking.{coverage-front_class, HasTable-front, IsFreeList-of_class_from, Rewrites-front_class}
use Rattle.rlsf_table.proofs.FreeLists.Counted.{HasTable-counted, IsRoom-counted, Rewrites-counted_first, Rewrites-counted_last}
use Rattle.rlsf_table.proofs.list.link_in_class.Goals as goal

-- the class of a length is that of the block that has it
class_at_range : {fllen sllen n len fl sl : ℕ} → IsClassAt fllen sllen len fl sl → n ≡ len → IsClassAt fllen sllen n fl sl
class_at_range {fllen} {sllen} {n} {len} {fl} {sl} at same = subst (λ k. IsClassAt fllen sllen k fl sl) (sym same) at

pub head-newest-requires : goal.head-newest-requires
head-newest-requires g c =
    let (r, free, place, len, beside) = c.requires.room in
    let at = class_at_range c.requires.class len in
    (omega arith, (at.row, at.place))

pub link_front-requires-clause-place : goal.link_front-requires-clause-place
link_front-requires-clause-place g c =
    let (r, free, place, len, beside) = c.requires.room in
    let at = class_at_range c.requires.class len in
    let counts = c.head-newest.ensures.counts in
    let kept = IsRoom-counted c.args.memory.now c.head-newest.new.memory counts.start counts.bytes counts.out beside in
    let list = IsFreeList-of_class_from kept.list c.args.class.fl c.args.class.sl at.row at.place c.head-newest.result c.head-newest.ensures.value in
    (r, of_class g.row.SLLEN c.args.class.fl c.args.class.sl free, place, list, kept.placed, coverage-front_class c.args.class.fl c.args.class.sl kept at)

pub put-requires : goal.put-requires
put-requires g c =
    let (r, free, place, len, beside) = c.requires.room in
    let at = class_at_range c.requires.class len in
    (omega arith, (c.requires.parameters, (at.row, at.place)))

pub returns-clause-step : goal.returns-clause-step
returns-clause-step g c =
    λ r free place len beside.
    let o = c.link_front.new.memory in
    let fl = c.args.class.fl in
    let sl = c.args.class.sl in
    let at = class_at_range c.requires.class len in
    let read = c.head-newest.ensures.counts in
    let kept = IsRoom-counted c.args.memory.now c.head-newest.new.memory read.start read.bytes read.out beside in
    let list = IsFreeList-of_class_from kept.list fl sl at.row at.place c.head-newest.result c.head-newest.ensures.value in
    let (linked, rewrites) = c.link_front.ensures.step r (of_class g.row.SLLEN fl sl free) place list kept.placed (coverage-front_class fl sl kept at) in
    let bits = c.put.ensures.bits r free at.class beside.list.table.bits in
    let counts = c.put.ensures.counts in (
      HasTable-counted o c.put.new.memory counts.start counts.bytes counts.out (HasTable-front fl sl kept at c.args.block place c.put.ensures.heads bits linked rewrites),
      Rewrites-counted_first c.args.memory.now c.head-newest.new.memory read.start read.bytes read.out
          (Rewrites-counted_last o c.put.new.memory counts.start counts.bytes counts.out (Rewrites-front_class fl sl kept at rewrites)),
    )

pub returns-clause-costs : goal.returns-clause-costs
returns-clause-costs g c = Costs-then (Costs-then (Costs-counted c.head-newest.ensures.counts) c.link_front.ensures.costs) (Costs-counted c.put.ensures.counts)
