use Rattle.std.proofs.Common.{arith, refl, ◌∙◌, subst}
use Rattle.std.proofs.lemmas.List.{get_or_default}
use Rattle.rlsf_tlsf.specs.Allocator.{IsInState}
use Rattle.rlsf_tlsf.proofs.Standing.{in_state}
use Rattle.rlsf_trace_runs.proofs.RunStates.{IsAt-beginning, IsAt-roomy}
use Rattle.rlsf_trace_runs.proofs.PrintedOps.{IsPrinting-beginning, IsPrinting-end, IsPrinting-next}
use Rattle.rlsf_trace_runs.proofs.prints.print_run.Goals as goal

pub loop-op-init : goal.loop-op-init
loop-op-init g c =
    let (no_names, no_pools, no_runs) = c.in_ok-tables.ensures.empty in
    let stands = subst (IsInState g.row.FLLEN g.row.SLLEN c.args.tlsf.now) c.requires (in_state g.row.FLLEN g.row.SLLEN c.args.tlsf.now c.memory_ref.ensures.stands) in
    IsPrinting-beginning (IsAt-beginning stands no_names no_pools no_runs) refl _ c.new-text.ensures.bytes

pub step-answer-requires : goal.step-answer-requires
step-answer-requires g c = (
  omega arith,
  (
    (c.loop-op.invariant.state, IsAt-roomy c.loop-op.invariant.at c.make_room.ensures.names c.make_room.ensures.pools),
    c.in_ok-make_room.ensures.room,
  ),
)

pub loop-op-preserved : goal.loop-op-preserved
unfolding lib.Utf8.encode
loop-op-preserved g c =
    IsPrinting-next c.loop-op.invariant c.op-item.result (λ d. c.op-item.is ∙ get_or_default c.args.ops.now c.loop-op.op-index _ d c.loop-op-test.true) c.loop-op-test.true
    c.step-answer.result _ c.step-answer.new.tlsf c.step-answer.new.tables (λ s at. IsAt-roomy at c.make_room.ensures.names c.make_room.ensures.pools)
    c.step-answer.ensures.does c.step-answer.ensures.place _ _ c.in_ok-print_line.ensures c.in_ok-push.ensures.bytes

pub returns : goal.returns
returns g c = IsPrinting-end c.loop-op.invariant c.loop-op-test.false
