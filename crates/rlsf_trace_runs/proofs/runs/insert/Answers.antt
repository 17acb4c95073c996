use Rattle.std.proofs.Common.{rules, ◌≡◌, ◌+◌, Some, None, true≢false, arith, refl, sym, ◌∙◌, subst}
use Rattle.std.specs.Int.NonZero.{non_zero_usize_get}
use Rattle.rlsf_model_sizes.specs.Rounding.{round32}
use Rattle.rlsf_base.specs.Space.{range_of}
use Rattle.rlsf_model.specs.Insert.{Inserts, IsFresh}
use Rattle.rlsf_model.specs.State.{between}
use Rattle.rlsf_model.proofs.Untouched.{parts_of-IsFresh}
use Rattle.rlsf_trace_text.specs.declared.op.Answer.TheVariants.{Refused}
use Rattle.rlsf_trace_text.specs.declared.op.Op.TheVariants.{Insert}
use Rattle.rlsf_trace_text.specs.declared.op.TraceError.TheVariants.{BadRange}
use Rattle.rlsf_tlsf.proofs.Standing.{of_state, stepped}
use Rattle.rlsf_trace_runs.proofs.NewPools.{pool_bounds}
use Rattle.rlsf_trace_runs.proofs.NamedPayloads.{LeadsOn-nothing, room_left}
use Rattle.rlsf_trace_runs.proofs.RunStates.{IsAt-inserted, IsAt-not_inserted, IsFresh-MayInsert, IsVacant-tables, MayInsert-tested}
use Rattle.rlsf_trace_runs.proofs.runs.insert.Goals as goal

pub insert_free_block_ptr-taken-requires : goal.insert_free_block_ptr-taken-requires
insert_free_block_ptr-taken-requires g c =
    let (s, at) = c.requires.state in
    let may = MayInsert-tested at c.args.range refl (c.may_insert.ensures.vacant.0 c.if-not-may_insert.false) in
    let fresh = of_state at.stands (λ x. IsFresh (range_of c.args.tlsf.now.memory) x c.args.range) (IsFresh-MayInsert at c.args.range may) in
    (omega arith, parts_of-IsFresh (range_of c.args.tlsf.now.memory) c.args.tlsf.now.state c.args.range fresh)

pub pool_of-requires : goal.pool_of-requires
pool_of-requires g c =
    let (s, at) = c.requires.state in
    let may = MayInsert-tested at c.args.range refl (c.may_insert.ensures.vacant.0 c.if-not-may_insert.false) in
    let (t, step, stands, _) =
    stepped at.stands c.insert_free_block_ptr-taken.new.self (λ x. Inserts g.row.FLLEN x c.args.range (Some (non_zero_usize_get c.in-Some.len))) c.in-Some.ensures.step in
    let bounds = pool_bounds g.row.FLLEN s.machine c.args.range (non_zero_usize_get c.in-Some.len) t step stands.stands.well_formed in
    (omega (arith, bounds, c.get.ensures.value), omega (arith, bounds, c.get.ensures.value, may.lies_in.1, at.stands.stands.well_formed.addressable))

pub add_pool-requires : goal.add_pool-requires
add_pool-requires g c =
    let (s, at) = c.requires.state in
    record { room = c.requires.room; in_runs = at.in_runs }

pub returns-in-Some : goal.returns-in-Some
returns-in-Some g c = record {
  does = λ s at.
      let may = MayInsert-tested at c.args.range refl (c.may_insert.ensures.vacant.0 c.if-not-may_insert.false) in
      let (t, step, stands, keeps) =
      stepped at.stands c.insert_free_block_ptr-taken.new.self (λ x. Inserts g.row.FLLEN x c.args.range (Some (non_zero_usize_get c.in-Some.len))) c.in-Some.ensures.step in
      let pool = subst (λ n. c.pool_of.result ≡ between (round32 c.args.range.start) (c.args.range.start + n)) c.get.ensures.value c.pool_of.ensures in (
        _,
        (may, t, step, refl),
        IsAt-inserted at c.in-Some.ensures.frame.place t stands c.args.range c.pool_of.result (non_zero_usize_get c.in-Some.len) step may pool c.add_pool.ensures.names
            c.add_pool.ensures.pools c.add_pool.ensures.in_runs,
        keeps,
      );
  room = search rules;
  place = search rules;
}

pub returns-then-not-may_insert : goal.returns-then-not-may_insert
returns-then-not-may_insert g c = record {
  does = λ s at.
      LeadsOn-nothing at (Insert c.args.range) (Refused BadRange)
      (λ may. true≢false (sym (c.may_insert.ensures.vacant.1 (IsVacant-tables at c.args.range refl may)) ∙ c.if-not-may_insert.true), refl);
  room = room_left c.args.tables.now;
  place = search rules;
}

pub returns-in_default : goal.returns-in_default
returns-in_default g c = record {
  does = λ s at.
      let may = MayInsert-tested at c.args.range refl (c.may_insert.ensures.vacant.0 c.if-not-may_insert.false) in
      let (t, step, stands, keeps) =
      stepped at.stands c.insert_free_block_ptr-taken.new.self (λ x. Inserts g.row.FLLEN x c.args.range None) (rw c.in_default.is at c.insert_free_block_ptr-taken.ensures.step) in
      rw c.in_default.is (_, (may, t, step, refl), IsAt-not_inserted at c.insert_free_block_ptr-taken.ensures.frame.place t stands c.args.range step, keeps);
  room = room_left c.args.tables.now;
  place = search rules;
}
