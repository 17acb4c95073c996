use Rattle.std.proofs.Common.{◌+◌, ◌≤◌, arith, sym, subst}
use Rattle.rlsf_base.specs.Range.{end_of}
use Rattle.rlsf_flex.proofs.RangeRows.{IsEdge, IsEdge-end, IsEdge-next, chunk_at}
use Rattle.rlsf_flex.proofs.InnerAllocator.{stood}
use Rattle.rlsf_flex.proofs.trim.pool_len.Goals as goal

pub overflow_sub-range : goal.overflow_sub-range
overflow_sub-range g c =
    let (len, is) = c.requires.pool in
    omega (arith, (c.loop-end.invariant len is).to, is.within)

pub chunk_end-end-requires : goal.chunk_end-end-requires
chunk_end-end-requires g c =
    let (len, is) = c.requires.pool in
    let edge = c.loop-end.invariant len is in
    let more : c.loop-end.end + 64 ≤ end_of c.args.range = omega (arith, c.loop-end-test.true, edge.to, is.within) in
    let (chunk, i, at, to) = chunk_at (stood _ c.requires.stands).well_formed c.args.range len is c.loop-end.end edge more in
    (omega arith, (chunk, i, at))

pub loop-end-smaller : goal.loop-end-smaller
loop-end-smaller g c =
    let (len, is) = c.requires.pool in
    let edge = c.loop-end.invariant len is in
    let more : c.loop-end.end + 64 ≤ end_of c.args.range = omega (arith, c.loop-end-test.true, edge.to, is.within) in
    let w = (stood _ c.requires.stands).well_formed in
    let (chunk, i, at, to) = chunk_at w c.args.range len is c.loop-end.end edge more in
    omega (arith, c.chunk_end-end.ensures chunk i at, at, (w.chunks chunk i).has_room, more)

pub loop-end-preserved : goal.loop-end-preserved
loop-end-preserved g c = λ len is.
    let edge = c.loop-end.invariant len is in
    let more : c.loop-end.end + 64 ≤ end_of c.args.range = omega (arith, c.loop-end-test.true, edge.to, is.within) in
    let w = (stood _ c.requires.stands).well_formed in
    let next = chunk_at w c.args.range len is c.loop-end.end edge more in
    subst (IsEdge c.args.tlsf.now.state c.args.range len) (sym (c.chunk_end-end.ensures next.0 next.1 next.2)) (IsEdge-next w c.args.range len is c.loop-end.end edge more)

pub returns : goal.returns
returns g c = λ len is.
    let edge = c.loop-end.invariant len is in
    let end = IsEdge-end (stood _ c.requires.stands).well_formed c.args.range len is c.loop-end.end edge (omega (arith, c.loop-end-test.false, edge.to, is.within)) in
    omega (arith, end)
