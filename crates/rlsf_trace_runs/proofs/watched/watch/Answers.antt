use Rattle.std.proofs.Common.{rules, arith, refl, sym, ◌∙◌, subst}
use Rattle.std.proofs.lemmas.List.{get_or_default}
use Rattle.rlsf_tlsf.specs.Allocator.{IsInState}
use Rattle.rlsf_tlsf.proofs.Standing.{in_state}
use Rattle.rlsf_trace_runs.proofs.RunStates.{IsAt-beginning, IsAt-roomy, IsAt-sorted}
use Rattle.rlsf_trace_runs.proofs.Passing.{all_blocks_of, IsPassing-beginning, IsPassing-next, IsPassing-told, Passes-end}
use Rattle.rlsf_trace_runs.proofs.watched.watch.Goals as goal

pub loop-op-init : goal.loop-op-init
loop-op-init g c =
    let (no_names, no_pools, no_runs) = c.in_ok-tables.ensures.empty in
    let stands = subst (IsInState g.row.FLLEN g.row.SLLEN c.args.tlsf.now) c.requires (in_state g.row.FLLEN g.row.SLLEN c.args.tlsf.now c.memory_ref.ensures.stands) in
    let begun = IsPassing-beginning {ops = c.args.ops.now} (IsAt-beginning stands no_names no_pools no_runs) refl refl in
    (IsPassing-told begun (sym c.new-answers.ensures.items) (sym c.new-moments.ensures.items), omega arith, omega arith)

pub watched_step-answer-requires : goal.watched_step-answer-requires
watched_step-answer-requires g c =
    let (w, live, usable) = c.loop-op.invariant in (
      omega arith,
      (
        (w.state, IsAt-roomy w.at c.make_room.ensures.names c.make_room.ensures.pools, w.now),
        (c.in_ok-make_room.ensures.room, (search rules, search rules)),
      ),
    )

pub loop-op-preserved : goal.loop-op-preserved
loop-op-preserved g c =
    let (w, live, usable) = c.loop-op.invariant in
    let next = IsPassing-next w c.op-item.result (λ d. c.op-item.is ∙ get_or_default c.args.ops.now c.loop-op.op-index _ d c.loop-op-test.true) c.loop-op-test.true
    c.watched_step-answer.result.0 c.watched_step-answer.result.1 c.watched_step-answer.new.tlsf _ c.watched_step-answer.new.tables
    (λ s at. IsAt-roomy at c.make_room.ensures.names c.make_room.ensures.pools) c.watched_step-answer.ensures.does c.watched_step-answer.ensures.place in (
      IsPassing-told next (sym c.in-Ok.ensures.items) (sym c.in-Ok-push.ensures.items),
      omega (arith, live, c.watched_step-answer.ensures.few),
      omega (arith, usable, c.watched_step-answer.ensures.few),
    )

pub all_blocks-requires : goal.all_blocks-requires
all_blocks-requires g c =
    let (w, _, _) = c.loop-op.invariant in (
      omega arith,
      (
        (w.state, IsAt-sorted w.at c.sort_pools.ensures.names c.sort_pools.ensures.pools c.sort_pools.ensures.in_runs),
        c.sort_pools.ensures.in_order,
      ),
    )

pub returns : goal.returns
returns g c =
    let (w, _, _) = c.loop-op.invariant in
    record {
      states = w.states;
      passed = Passes-end w c.loop-op-test.false;
      moments = w.moments;
      blocks = all_blocks_of w c.in_ok-blocks.blocks.items c.in_ok-blocks.ensures;
    }
