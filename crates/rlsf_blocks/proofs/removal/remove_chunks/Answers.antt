use Rattle.std.proofs.Common.{◌≡◌, ◌<◌, length, arith, ap, subst}
use Rattle.rlsf_base.specs.Range.{end_of}
use Rattle.rlsf_blocks.specs.Blocks.{walked}
use Rattle.rlsf_blocks.specs.StandsFor.{contents, StandsFor}
use Rattle.rlsf_model.specs.Remove.{removed, outside_of}
use Rattle.rlsf_model.specs.State.{State, between}
use Rattle.rlsf_blocks.proofs.Chunks.RemovedRows.{chunk, IsIdle-span, IsIdleChunk-next, IsRemovedTo-next, IsRemovedTo-start, IsRow-span, removed-span}
use Rattle.rlsf_blocks.proofs.removal.remove_chunks.Goals as goal

pub loop-start-init : goal.loop-start-init
loop-start-init g c = λ s v row idle.
    let span = c.span-start.ensures g.row.FLLEN g.row.SLLEN c.args.memory.now c.args.table.now s v row in (
      span,
      IsRemovedTo-start v (between c.span-start.result.0 c.span-start.result.1) (IsRow-span v (walked c.args.range) _ _ span row)
          (IsIdle-span v (walked c.args.range) _ _ span idle),
    )

pub remove_chunk-start-requires : goal.remove_chunk-start-requires
remove_chunk-start-requires g c =
    let (s, v, row, idle) = c.requires.idle in
    let (span, is) = c.loop-start.invariant s v row idle in
    let rowed = IsRow-span v (walked c.args.range) _ _ span row in
    let idles = IsIdle-span v (walked c.args.range) _ _ span idle in
    let q = between c.span-start.result.0 c.span-start.result.1 in
    let more : c.loop-start.start < end_of q = omega (arith, c.loop-start-test.true, span.within) in
    (omega arith, (c.requires.parameters, (removed (between q.start c.loop-start.start) s, chunk v q rowed idles is more, is.stands, IsIdleChunk-next v q rowed idles is more)))

pub loop-start-smaller : goal.loop-start-smaller
loop-start-smaller g c =
    let (s, v, row, idle) = c.requires.idle in
    let (span, is) = c.loop-start.invariant s v row idle in
    let rowed = IsRow-span v (walked c.args.range) _ _ span row in
    let idles = IsIdle-span v (walked c.args.range) _ _ span idle in
    let q = between c.span-start.result.0 c.span-start.result.1 in
    let more : c.loop-start.start < end_of q = omega (arith, c.loop-start-test.true, span.within) in
    let next = IsIdleChunk-next v q rowed idles is more in
    let step = c.remove_chunk-start.ensures.step (removed (between q.start c.loop-start.start) s) (chunk v q rowed idles is more) is.stands next in
    let room = (is.stands.well_formed.chunks (chunk v q rowed idles is more) next.is_chunk).has_room in
    omega (arith, c.loop-start-test.true, step.2, next.begins, room)

pub loop-start-preserved : goal.loop-start-preserved
loop-start-preserved g c = λ s v row idle.
    let (span, is) = c.loop-start.invariant s v row idle in
    let rowed = IsRow-span v (walked c.args.range) _ _ span row in
    let idles = IsIdle-span v (walked c.args.range) _ _ span idle in
    let q = between c.span-start.result.0 c.span-start.result.1 in
    let more : c.loop-start.start < end_of q = omega (arith, c.loop-start-test.true, span.within) in
    let step =
    c.remove_chunk-start.ensures.step (removed (between q.start c.loop-start.start) s) (chunk v q rowed idles is more) is.stands (IsIdleChunk-next v q rowed idles is more) in
    let e = c.remove_chunk-start.ensures in
    (span, IsRemovedTo-next v q rowed idles is more step e.costs (record { start = e.costs.start; own = e.own; here = e.here }))

pub returns : goal.returns
returns g c =
    let (s, v, row, idle) = c.requires.idle in
    let so_far = (c.loop-start.invariant s v row idle).1 in
    record {
      step = λ s v row idle.
          let (span, is) = c.loop-start.invariant s v row idle in
          let end : c.loop-start.start ≡ c.span-start.result.1 = omega (arith, is.to, span.within, c.loop-start-test.false) in
          let after = StandsFor g.row.FLLEN g.row.SLLEN (contents c.loop-start.memory c.loop-start.table) in
          let stands = subst (λ a. after (removed (between c.span-start.result.0 a) s)) end is.stands in
          (subst after (removed-span v (walked c.args.range) _ _ span) stands, is.spare);
      place = so_far.place;
      touches = λ s v row idle.
          let (span, is) = c.loop-start.invariant s v row idle in
          let end : c.loop-start.start ≡ c.span-start.result.1 = omega (arith, is.to, span.within, c.loop-start-test.false) in
          let same = ap (λ (x : State). length x.chunks) (removed-span v (walked c.args.range) _ _ span) in
          let at_end = ap (λ a. length (outside_of (between c.span-start.result.0 a) s.chunks)) end in
          omega (arith, is.touches, same, at_end);
      grow = so_far.grow;
      copied = so_far.copied;
      own = so_far.stays.own;
      here = so_far.stays.here;
    }
