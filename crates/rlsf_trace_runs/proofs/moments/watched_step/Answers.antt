use Rattle.std.proofs.Common.{arith, rules}
use Rattle.rlsf_trace_runs.proofs.Steps.{live-after, moment-after, usable-after}
use Rattle.rlsf_trace_runs.proofs.moments.watched_step.Goals as goal

pub usable_of-after-requires : goal.usable_of-after-requires
usable_of-after-requires g c =
    let (s, at, _) = c.requires.state in
    let (t, _, then, _) = c.step-answer.ensures.does s at in
    (omega arith, (t, then))

pub moved_on-requires-clause-live : goal.moved_on-requires-clause-live
moved_on-requires-clause-live g c =
    let (s, at, now) = c.requires.state in
    let (t, does, then, _) = c.step-answer.ensures.does s at in
    let balance = live-after s t at then c.step-answer.ensures.place c.args.op c.step-answer.result does c.usable_of-before.result c.usable_of-after.result
    (c.usable_of-before.ensures s at) (c.usable_of-after.ensures t then) c.args.moment now in
    (c.requires.few.0, omega (arith, balance))

pub moved_on-requires-clause-usable : goal.moved_on-requires-clause-usable
moved_on-requires-clause-usable g c =
    let (s, at, now) = c.requires.state in
    let (t, does, then, _) = c.step-answer.ensures.does s at in
    let balance = usable-after s t at then c.step-answer.ensures.place c.args.op c.step-answer.result does c.usable_of-before.result c.usable_of-after.result
    (c.usable_of-before.ensures s at) (c.usable_of-after.ensures t then) c.args.moment now in
    (c.requires.few.1, omega (arith, balance))

pub returns : goal.returns
returns g c = record {
  does = λ s at.
      let (t, does, then, _) = c.step-answer.ensures.does s at in (
        t,
        does,
        then,
        λ now. moment-after s t at then c.step-answer.ensures.place c.args.op c.step-answer.result does c.usable_of-before.result c.usable_of-after.result
            (c.usable_of-before.ensures s at) (c.usable_of-after.ensures t then) c.args.moment now c.moved_on.result c.moved_on.ensures.live c.moved_on.ensures.usable,
      );
  few = search rules;
  room = search rules;
  place = search rules;
}
