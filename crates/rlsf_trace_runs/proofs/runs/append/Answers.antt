use Rattle.std.proofs.Common.{rules, true≢false, arith, refl, sym, ◌∙◌}
use Rattle.rlsf_model.specs.Insert.{Appends, IsNext}
use Rattle.rlsf_trace_text.specs.declared.op.Answer.TheVariants.{Refused}
use Rattle.rlsf_trace_text.specs.declared.op.Op.TheVariants.{Append}
use Rattle.rlsf_trace_text.specs.declared.op.TraceError.TheVariants.{BadRange}
use Rattle.rlsf_tlsf.proofs.Standing.{of_state, stepped}
use Rattle.rlsf_trace_runs.proofs.AppendedChunks.{IsLonger-appended}
use Rattle.rlsf_trace_runs.proofs.NamedPayloads.{LeadsOn-nothing, room_left}
use Rattle.rlsf_trace_runs.proofs.RunStates.{IsAt-appended, IsNext-MayAppend, IsVacant-tables, MayAppend-none, MayAppend-tested, MayInsert-tested}
use Rattle.rlsf_trace_runs.proofs.Overlapping.{no_range}
use Rattle.rlsf_base.specs.Space.{range_of}
use Rattle.rlsf_trace_runs.proofs.runs.append.Goals as goal

pub append_free_block_ptr-taken-requires : goal.append_free_block_ptr-taken-requires
append_free_block_ptr-taken-requires g c =
    let (s, at) = c.requires in
    let may =
    MayAppend-tested at c.args.range c.in-Some.place (MayInsert-tested at c.args.range refl (c.may_insert.ensures.vacant.0 c.if-not-may_insert.false))
    c.in-Some.ensures.found in
    (omega arith, of_state at.stands (λ x. IsNext (range_of c.args.tlsf.now.memory) x c.args.range) (IsNext-MayAppend at c.args.range may))

pub lengthen_pool-requires : goal.lengthen_pool-requires
lengthen_pool-requires g c =
    let (s, at) = c.requires in
    let r = c.args.range in
    let (below, ends) = c.in-Some.ensures.found in
    let may = MayAppend-tested at r c.in-Some.place (MayInsert-tested at r refl (c.may_insert.ensures.vacant.0 c.if-not-may_insert.false)) c.in-Some.ensures.found in
    let next = IsNext-MayAppend at r may in
    let (t, step, stands, _) =
    stepped at.stands c.append_free_block_ptr-taken.new.self (λ x. Appends g.row.FLLEN x r c.append_free_block_ptr-taken.result) c.append_free_block_ptr-taken.ensures.step in
    let longer = IsLonger-appended at.stands.stands.well_formed r next c.append_free_block_ptr-taken.result t step stands.stands.well_formed in
    (below, λ d. omega (arith, ends d, longer.within, may.vacant.lies_in.1, at.stands.stands.well_formed.addressable))

pub returns-then-not-may_insert : goal.returns-then-not-may_insert
returns-then-not-may_insert g c = record {
  does = λ s at.
      LeadsOn-nothing at (Append c.args.range) (Refused BadRange)
      (λ may. true≢false (sym (c.may_insert.ensures.vacant.1 (IsVacant-tables at c.args.range refl may.vacant)) ∙ c.if-not-may_insert.true), refl);
  room = room_left c.args.tables.now;
  place = search rules;
}

pub returns-in_default : goal.returns-in_default
returns-in_default g c = record {
  does = λ s at.
      LeadsOn-nothing at (Append c.args.range) (Refused BadRange) (MayAppend-none at c.args.range c.in_default.ensures.none, refl);
  room = room_left c.args.tables.now;
  place = search rules;
}

pub returns : goal.returns
returns g c = record {
  does = λ s at.
      let r = c.args.range in
      let place = c.in-Some.place in
      let ends = c.in-Some.ensures.found in
      let may = MayAppend-tested at r place (MayInsert-tested at r refl (c.may_insert.ensures.vacant.0 c.if-not-may_insert.false)) ends in
      let (t, step, stands, keeps) =
      stepped at.stands c.append_free_block_ptr-taken.new.self (λ x. Appends g.row.FLLEN x r c.append_free_block_ptr-taken.result)
      c.append_free_block_ptr-taken.ensures.step in (
        _,
        (may, t, step, refl),
        IsAt-appended at c.append_free_block_ptr-taken.ensures.frame.place t stands r c.append_free_block_ptr-taken.result place step may ends c.lengthen_pool.ensures.names
            (c.lengthen_pool.ensures.pools no_range) c.lengthen_pool.ensures.firsts,
        keeps,
      );
  room = c.lengthen_pool.ensures.room;
  place = search rules;
}
