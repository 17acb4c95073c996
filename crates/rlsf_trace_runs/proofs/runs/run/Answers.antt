use Rattle.std.proofs.Common.{rules, ◌++◌, [], ◌∷◌, arith, refl, sym, ◌∙◌, ap, subst}
use Rattle.std.proofs.lemmas.List.{append_assoc, append-nil, get_or_default}
use Rattle.rlsf_base.specs.Space.{range_of}
use Rattle.rlsf_model.specs.State.{empty}
use Rattle.rlsf_trace_runs.specs.Events.{RunsByEvents}
use Rattle.rlsf_tlsf.specs.Allocator.{IsInState}
use Rattle.rlsf_tlsf.proofs.Standing.{in_state}
use Rattle.rlsf_trace_runs.proofs.RunStates.{IsAt-beginning}
use Rattle.rlsf_trace_runs.proofs.OpsDone.{IsUnderway-beginning, IsUnderway-next, RunsOps-end, RunsByEvents-end}
use Rattle.rlsf_trace_runs.proofs.Outcomes.{when_ok}
use Rattle.rlsf_trace_runs.proofs.runs.run.Goals as goal

pub loop-op-init : goal.loop-op-init
loop-op-init g c =
    let (no_names, no_pools, no_runs) = c.in_ok-tables.ensures.empty in
    let stands = subst (IsInState g.row.FLLEN g.row.SLLEN c.args.tlsf.now) c.requires (in_state g.row.FLLEN g.row.SLLEN c.args.tlsf.now c.memory_ref.ensures.stands) in
    let begun = IsUnderway-beginning {ops = c.args.ops.now} (IsAt-beginning stands no_names no_pools no_runs) refl c.in_ok-tables.ensures.room in
    (([], c.try_reserve.ensures.items ∙ sym (append-nil c.args.answers.now.items), begun), omega (arith, c.in_ok-try_reserve.ensures.ok))

pub loop-op-preserved : goal.loop-op-preserved
loop-op-preserved g c =
    let ((given, items, w), space) = c.loop-op.invariant in
    let pushed = c.push.ensures.succeeds (omega (arith, space, c.loop-op-test.true)) in
    let answer = c.step-answer.result in
    let next =
    IsUnderway-next w c.op-item.result (λ d. c.op-item.is ∙ get_or_default c.args.ops.now c.loop-op.op-index _ d c.loop-op-test.true) c.loop-op-test.true answer
    c.step-answer.new.tlsf c.step-answer.new.tables c.step-answer.ensures.does c.step-answer.ensures.room c.step-answer.ensures.place in
    let more = when_ok c.push.result _ pushed c.push.ensures.items ∙ ap (λ l. l ++ answer ∷ []) items ∙ append_assoc c.args.answers.now.items given (answer ∷ []) in
    ((given ++ answer ∷ [], more, next), omega (arith, space, c.loop-op-test.true, when_ok c.push.result _ pushed c.push.ensures.len, c.push.ensures.capacity))

pub returns : goal.returns
returns g c = record {
  runs =
      let ((given, items, w), _) = c.loop-op.invariant in
      (given, items, (w.state, RunsOps-end w c.loop-op-test.false, w.at.stands.state, w.spare));
  events =
      let ((given, items, w), _) = c.loop-op.invariant in (
        given,
        items,
        subst (RunsByEvents g.row.FLLEN g.row.SLLEN (range_of c.args.tlsf.now.memory) empty c.args.ops.now given) (sym w.at.stands.state)
            (RunsByEvents-end w c.loop-op-test.false),
      );
  refused = search rules;
  place = search rules;
}
