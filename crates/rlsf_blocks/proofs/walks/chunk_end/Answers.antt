use Rattle.std.proofs.Common.{arith}
use Rattle.rlsf_blocks.proofs.Walking.ChunkEnds.{IsInChunk-next, IsInChunk-start, IsReadable-chunk, end_there}
use Rattle.rlsf_blocks.proofs.walks.chunk_end.Goals as goal

pub word-word-requires : goal.word-word-requires
word-word-requires c =
    let (fllen, sllen, t, s, k, v, i, at) = c.requires in
    IsReadable-chunk v k i (IsInChunk-start v.well_formed k i c.args.start at)

pub loop-word-init : goal.loop-word-init
loop-word-init c = (c.word-word.ensures, λ fllen sllen t s k v i at. IsInChunk-start v.well_formed k i c.args.start at)

pub overflow_add-block : goal.overflow_add-block
overflow_add-block c =
    let (fllen, sllen, t, s, k, v, i, at) = c.requires in
    let next = (IsInChunk-next v k i (c.loop-word.invariant.1 fllen sllen t s k v i at) c.loop-word.invariant.0 c.loop-word-test.true).0 in
    record { fits = omega (arith, next.to, (v.well_formed.chunks k i).lies_in.1, v.well_formed.addressable) }

pub word-word-requires-in-loop-word : goal.word-word-requires-in-loop-word
word-word-requires-in-loop-word c =
    let (fllen, sllen, t, s, k, v, i, at) = c.requires in
    IsReadable-chunk v k i (IsInChunk-next v k i (c.loop-word.invariant.1 fllen sllen t s k v i at) c.loop-word.invariant.0 c.loop-word-test.true).0

pub loop-word-smaller : goal.loop-word-smaller
loop-word-smaller c =
    let (fllen, sllen, t, s, k, v, i, at) = c.requires in
    let (next, further) = IsInChunk-next v k i (c.loop-word.invariant.1 fllen sllen t s k v i at) c.loop-word.invariant.0 c.loop-word-test.true in
    omega (arith, further, next.to, (v.well_formed.chunks k i).lies_in.1, v.well_formed.addressable)

pub loop-word-preserved : goal.loop-word-preserved
loop-word-preserved c = (
  c.word-word-in-loop-word.ensures,
  λ fllen sllen t s k v i at. (IsInChunk-next v k i (c.loop-word.invariant.1 fllen sllen t s k v i at) c.loop-word.invariant.0 c.loop-word-test.true).0,
)

pub overflow_add-result : goal.overflow_add-result
overflow_add-result c =
    let (fllen, sllen, t, s, k, v, i, at) = c.requires in
    record { fits = omega (arith, (c.loop-word.invariant.1 fllen sllen t s k v i at).to, (v.well_formed.chunks k i).lies_in.1, v.well_formed.addressable) }

pub returns : goal.returns
returns c = λ fllen sllen t s k v i at. end_there v k i (c.loop-word.invariant.1 fllen sllen t s k v i at) c.loop-word.invariant.0 c.loop-word-test.false
