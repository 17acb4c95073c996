use Rattle.std.proofs.Common.{rules, ◌++◌, [], ◌∷◌, arith, refl, sym, ◌∙◌, ap}
use Rattle.std.proofs.lemmas.List.{append_assoc, append-nil, get_or_default}
use Rattle.rlsf_trace_runs.proofs.Outcomes.{when_ok}
use Rattle.rlsf_trace_flex_runs.specs.Steps.Names.{run_of}
use Rattle.rlsf_trace_flex_runs.proofs.OpsDone.{IsUnderway-beginning, IsUnderway-next, RunsFlex-end, RunsFlexByEvents-end}
use Rattle.rlsf_trace_flex_runs.proofs.runs.run_flex.Goals as goal

pub loop-op-init : goal.loop-op-init
loop-op-init g c =
    let begun = IsUnderway-beginning {ops = c.args.ops.now} c.memory_ref.ensures.stands c.requires c.in_ok-names.ensures.empty c.in_ok-names.ensures.spare in
    (([], c.try_reserve.ensures.items ∙ sym (append-nil c.args.answers.now.items), begun), omega (arith, c.in_ok-try_reserve.ensures.ok))

pub loop-op-preserved : goal.loop-op-preserved
loop-op-preserved g c =
    let ((given, items, u), space) = c.loop-op.invariant in
    let pushed = c.push.ensures.succeeds (omega (arith, space, c.loop-op-test.true)) in
    let answer = c.step-answer.result in
    let next =
    IsUnderway-next g.met.S.FlexSource.constant u c.op-item.result (λ d. c.op-item.is ∙ get_or_default c.args.ops.now c.loop-op.op-index _ d c.loop-op-test.true)
    c.loop-op-test.true answer
    c.step-answer.new.flex c.step-answer.new.names c.step-answer.ensures.does c.step-answer.ensures.room in
    let more = when_ok c.push.result _ pushed c.push.ensures.items ∙ ap (λ l. l ++ answer ∷ []) items ∙ append_assoc c.args.answers.now.items given (answer ∷ []) in
    ((given ++ answer ∷ [], more, next), omega (arith, space, c.loop-op-test.true, when_ok c.push.result _ pushed c.push.ensures.len, c.push.ensures.capacity))

pub returns : goal.returns
returns g c = record {
  runs =
      let ((given, items, u), _) = c.loop-op.invariant in (
        given,
        items,
        (
          u.notes,
          run_of c.loop-op.flex c.loop-op.names,
          RunsFlex-end u c.loop-op-test.false,
          u.leads_by,
          refl,
          u.outside,
          RunsFlexByEvents-end u c.loop-op-test.false,
        ),
      );
  refused = tt;
  place = search rules;
}
