use Rattle.std.proofs.Common.{[], refl}
use Rattle.rlsf_trace_runs.proofs.Writing.{Appends-more, Appends-none}
use Rattle.rlsf_trace_runs.proofs.output.write_text.Goals as goal

pub loop-init : goal.loop-init
loop-init g c = ([], refl, Appends-none _)

pub loop-preserved : goal.loop-preserved
loop-preserved g c =
    let (done, split, so_far) = c.loop.invariant in
    Appends-more _ _ _ c.args.text.now done c.loop.rest.now c.in-Ok.taken split so_far c.in-Ok.ensures.bytes
