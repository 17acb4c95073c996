use Rattle.std.proofs.Common.{◌-◌, ◌∙◌, arith, refl, sym, ap}
use Rattle.rlsf_base.specs.declared.memory.range.Range.{Range}
use Rattle.rlsf_blocks.specs.Laws.{read_from}
use Rattle.rlsf_tlsf.specs.Allocator.{allocator}
use Rattle.rlsf_offsets.specs.Units.{offsets}
use Rattle.rlsf_offsets.proofs.Frees.{IsEmpty-fresh, SizesSpace-fresh, nothing_at}
use Rattle.rlsf_offsets.proofs.Kept.{IsCore-new, IsFresh-new, IsKept-new, none_live-new}
use Rattle.rlsf_offsets.proofs.units.over.Goals as goal

pub insert_in-requires : goal.insert_in-requires
insert_in-requires c =
    let table = c.new-table.ensures c.args.memory in
    let own = c.requires.memory.own in
    let start = ap (λ (r : Range). r.start) c.first_units.ensures in
    let long = ap (λ (r : Range). r.len) c.first_units.ensures in
    let fresh = IsFresh-new c.len.ensures.bounds table own c.new-state.result.state c.new-state.ensures c.first_units.result (c.requires.memory.start ∙ sym start)
    (omega (arith, long, c.requires.memory.len, c.requires.few.0)) in
    (omega arith, (IsCore-new c.len.ensures.bounds table own c.new-state.result.state c.new-state.ensures, (fresh, λ a from to. own (a - c.args.memory.start))))

pub invariant_of-result : goal.invariant_of-result
invariant_of-result c =
    let e = c.insert_in.ensures in
    let table = c.new-table.ensures c.args.memory in
    let own = c.requires.memory.own in
    let state = c.new-state.result.state in
    let none = none_live-new c.len.ensures.bounds table own state c.new-state.ensures in
    IsKept-new c.len.ensures.bounds table own state c.new-state.ensures c.args.units c.args.most c.requires.few.0 c.requires.few.1 c.requires.memory.start c.requires.memory.len
    e.left c.first_units.result c.first_units.ensures _ e.step (e.frame.count ∙ none)

pub returns : goal.returns
returns c =
    let e = c.insert_in.ensures in
    let none = none_live-new c.len.ensures.bounds (c.new-table.ensures c.args.memory) c.requires.memory.own c.new-state.result.state c.new-state.ensures in
    let after = allocator c.insert_in.new.memory c.insert_in.new.table c.insert_in.new.state.state in
    let x = offsets c.args.units after in
    let start = ap (λ (r : Range). r.start) c.first_units.ensures in
    let long = ap (λ (r : Range). r.len) c.first_units.ensures in
    record {
      units = (refl, omega (arith, e.left.costs.length, c.requires.memory.len));
      empty = IsEmpty-fresh x (nothing_at after.state (e.frame.count ∙ none));
      sized = SizesSpace-fresh x c.first_units.result (read_from c.args.memory c.new-state.result.state) (omega (arith, start)) (omega (arith, long)) none e.result.pool;
    }
