use Rattle.std.proofs.Common.{◌≡◌, Some, None, true≢false, arith, inl, inr, sym, subst}
use Rattle.rlsf_base.specs.Range.{end_of}
use Rattle.rlsf_model.specs.ChunkRows.{IsRow}
use Rattle.rlsf_model.specs.State.{between}
use Rattle.rlsf_blocks.specs.Steps.BlockAt.{CanReadChunk, IsSpanOf}
use Rattle.rlsf_blocks.proofs.Consistency.Passing.{row_first}
use Rattle.rlsf_blocks.proofs.Consistency.Pieces.{IsBase-valid, SomeChunks-append, SomeChunks-none}
use Rattle.rlsf_blocks.proofs.consistency_check.chunks.are_chunks.Goals as goal

pub loop-chunk-init : goal.loop-chunk-init
loop-chunk-init g c =
    let base = IsBase-valid g.row.FLLEN g.row.SLLEN c.args.memory.now c.requires.parameters c.requires.span.addressable in
    record {
      from = omega arith;
      to = c.requires.order;
      whole = c.requires.whole;
      chunks = SomeChunks-none base c.args.start;
      passes = λ s v. v.row;
    }

pub loop-chunk-preserved : goal.loop-chunk-preserved
loop-chunk-preserved g c =
    let base = IsBase-valid g.row.FLLEN g.row.SLLEN c.args.memory.now c.requires.parameters c.requires.span.addressable in
    let so_far = c.loop-chunk.invariant in
    let (more, up_to, whole, chunk) = c.in-Some.ensures.some in
    record {
      from = omega (arith, so_far.from, more);
      to = up_to;
      whole = whole;
      chunks = SomeChunks-append base c.args.start c.loop-chunk.chunk c.in-Some.next so_far.from (omega (arith, more)) so_far.chunks chunk;
      passes = λ s v.
          let (k, i, at, within, rest) = row_first v c.loop-chunk.chunk c.args.end c.loop-chunk-test.true (so_far.passes s v) in
          let one : Some c.in-Some.next ≡ Some (end_of k) = c.in-Some.ensures.each s k (between c.args.start c.args.end) v i at within in
          let same : c.in-Some.next ≡ end_of k = cc in
          subst (λ a. IsRow s (between a c.args.end)) (sym same) rest;
    }

pub returns-in-None : goal.returns-in-None
returns-in-None g c = (
  λ no. absurd (true≢false (sym no)),
  λ (s, v).
      let (k, i, at, within, rest) = row_first v c.loop-chunk.chunk c.args.end c.loop-chunk-test.true (c.loop-chunk.invariant.passes s v) in
      let clash : None ≡ Some (end_of k) = c.in-None.ensures.each s k (between c.args.start c.args.end) v i at within in
      absurd (cc),
)

pub checked_chunk_end-requires : goal.checked_chunk_end-requires
checked_chunk_end-requires g c =
    let so_far = c.loop-chunk.invariant in
    let legible : CanReadChunk g.row.FLLEN g.row.SLLEN c.args.pools.now c.args.memory.now c.args.table.now c.loop-chunk.chunk c.args.end = elim c.requires.legible [
      | inl here ↦ inl here
      | inr (s, v) ↦
          let (k, i, at, within, rest) = row_first v c.loop-chunk.chunk c.args.end c.loop-chunk-test.true (so_far.passes s v) in
          inr (s, k, between c.args.start c.args.end, v, i, at, within)
    ] in
    let span : IsSpanOf c.args.pools.now c.args.memory.now c.loop-chunk.chunk c.args.end =
    record {
      from = omega (arith, c.requires.span.from, so_far.from);
      to = c.requires.span.to;
      addressable = c.requires.span.addressable;
      pool = λ a low high. c.requires.span.pool a (omega (arith, low, so_far.from)) high;
    } in
    (omega arith, (c.requires.parameters, (span, (legible, (so_far.whole, c.loop-chunk-test.true)))))
