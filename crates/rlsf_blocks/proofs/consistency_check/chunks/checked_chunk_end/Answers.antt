use Rattle.std.proofs.Common.{◌≡◌, ◌≢◌, ◌+◌, ◌-◌, ◌<◌, Some, None, true≢false, arith, refl, sym, ◌∙◌, ap, inl, inr, subst}
use Rattle.rlsf_model_sizes.specs.SizeClass.{IsValidClass, class_of}
use Rattle.rlsf_base.specs.Space.{word_at}
use Rattle.rlsf_blocks.proofs.Walking.ChunkEnds.{IsInChunk, IsInChunk-start}
use Rattle.rlsf_blocks.proofs.Consistency.Classes.{map_floor-none, map_floor-valid}
use Rattle.rlsf_blocks.proofs.Consistency.Passing.{IsLegibleBlock-there, ends_there, goes_on, legible_first, legible_there, not_at_start}
use Rattle.rlsf_blocks.proofs.Consistency.Reading.{IsLegibleBlock-here, legible_here}
use Rattle.rlsf_blocks.specs.Consistency.Pools.{IsPoolWord}
use Rattle.rlsf_blocks.specs.Steps.BlockAt.{IsSpanOf}
use Rattle.rlsf_blocks.specs.Steps.Legible.{IsLegibleBlock}
use Rattle.rlsf_blocks.proofs.Consistency.Pieces.{IsBase-valid, SomeChunks-one, SomePart-more, SomePart-none}
use Rattle.rlsf_blocks.proofs.consistency_check.chunks.checked_chunk_end.Given as given
use Rattle.rlsf_blocks.proofs.consistency_check.chunks.checked_chunk_end.Goals as goal
use Rattle.rlsf_blocks.proofs.consistency_check.chunks.checked_chunk_end.Goals.{In-loop-block}

pub loop-block-init : goal.loop-block-init
loop-block-init g c = record {
  from = omega arith;
  to = omega (arith, c.if-end-chunk.false);
  whole = c.requires.whole;
  part = SomePart-none g.row.FLLEN g.row.SLLEN c.args.pools.now c.args.memory.now c.args.table.now c.args.chunk;
  passes = λ s k r v i at within. IsInChunk-start v.well_formed k i c.args.chunk at;
}

-- where the loop goes on there is a word, and not a sentinel's
not_last : (g : given.Over) (c : In-loop-block g) → IsPoolWord c.args.pools.now c.args.memory.now c.loop-block.block × (word_at c.args.memory.now c.loop-block.block ≢ 35)
not_last g c =
    let so_far = c.loop-block.invariant in
    let word : IsPoolWord c.args.pools.now c.args.memory.now c.loop-block.block = (
      (omega (arith, so_far.whole), (omega (arith, c.requires.span.from, so_far.from), omega (arith, c.requires.span.to, so_far.to))),
      c.requires.span.pool c.loop-block.block so_far.from (omega (arith, so_far.to)),
    ) in
    (word, λ sentinel. true≢false (sym (c.loop-block-test.ensures.1 (word, sentinel))))

pub loop-block-preserved : goal.loop-block-preserved
loop-block-preserved g c =
    let is = c.in-Some.ensures.some in
    let so_far = c.loop-block.invariant in
    let (word, other) = not_last g (goal.at.loop-block-preserved g c).In-loop-block in
    record {
      from = omega (arith, is.some, so_far.from);
      to = is.before_end;
      whole = is.whole;
      part = SomePart-more c.args.chunk c.loop-block.block c.in-Some.next c.args.end so_far.from (omega (arith, c.requires.span.from, so_far.from))
          c.requires.span.to so_far.whole is so_far.part;
      passes = λ s k r v i at within.
          let (stop, block, after) = goes_on v k i (so_far.passes s k r v i at within) c.args.end within other in
          let one : Some c.in-Some.next ≡ Some stop = c.in-Some.ensures.each stop block in
          let same : c.in-Some.next ≡ stop = cc in
          subst (IsInChunk s k) (sym same) after;
    }

pub returns-in-None-clause-each : goal.returns-in-None-clause-each
returns-in-None-clause-each g c = λ s k r v i at within.
    let so_far = c.loop-block.invariant in
    let (word, other) = not_last g (goal.at.returns-in-None-clause-each g c).In-loop-block in
    let (stop, block, after) = goes_on v k i (so_far.passes s k r v i at within) c.args.end within other in
    let clash : None ≡ Some stop = c.in-None.ensures.each stop block in
    absurd (cc)

pub returns-then-block-chunk-clause-each : goal.returns-then-block-chunk-clause-each
returns-then-block-chunk-clause-each g c = λ s k r v i at within.
    absurd (not_at_start v k i c.args.chunk at (ap (word_at c.args.memory.now) (sym c.if-block-chunk.true) ∙ (c.loop-block-test.ensures.0 refl).1))

pub returns-in-Some-map_floor-clause-some : goal.returns-in-Some-map_floor-clause-some
returns-in-Some-map_floor-clause-some g c =
    let so_far = c.loop-block.invariant in
    let more : c.args.chunk < c.loop-block.block = omega (arith, so_far.from, c.if-block-chunk.false) in
    let base = IsBase-valid g.row.FLLEN g.row.SLLEN c.args.memory.now c.requires.parameters c.requires.span.addressable in
    let valid = map_floor-valid g.row.FLLEN g.row.SLLEN (c.loop-block.block - c.args.chunk) c.in-Some-map_floor.field-0 (sym c.in-Some-map_floor.ensures) in (
      omega (arith, more),
      so_far.to,
      omega (arith, so_far.whole),
      SomeChunks-one base c.args.chunk c.loop-block.block c.requires.span.from (omega (arith, so_far.to, c.requires.span.to)) c.requires.whole so_far.whole more valid
          (c.if-not-has_word.ensures.0 refl).1 (c.loop-block-test.ensures.0 refl).1 so_far.part,
    )

pub returns-in-Some-map_floor-clause-each : goal.returns-in-Some-map_floor-clause-each
returns-in-Some-map_floor-clause-each g c = λ s k r v i at within.
    ap Some (ends_there v k i (c.loop-block.invariant.passes s k r v i at within) (c.loop-block-test.ensures.0 refl).1)

pub returns-in-None-map_floor-clause-each : goal.returns-in-None-map_floor-clause-each
returns-in-None-map_floor-clause-each g c = λ s k r v i at within.
    let ends = ends_there v k i (c.loop-block.invariant.passes s k r v i at within) (c.loop-block-test.ensures.0 refl).1 in
    let chunk = v.well_formed.chunks k i in
    absurd (map_floor-none g.row.FLLEN g.row.SLLEN (c.loop-block.block - c.args.chunk) (sym c.in-None-map_floor.ensures)
    (subst (λ n. IsValidClass g.row.FLLEN (class_of g.row.SLLEN n)) (omega (arith, ends, at, chunk.has_room)) chunk.valid))

pub has_word-requires : goal.has_word-requires
has_word-requires g c = elim c.requires.legible [
  | inl here ↦ legible_here c.args.pools.now c.args.memory.now here (c.args.chunk + 8)
  | inr (s, k, r, v, i, at, within) ↦ legible_first v k i c.args.chunk at
]

pub has_word-requires-in-loop-block : goal.has_word-requires-in-loop-block
has_word-requires-in-loop-block g c = elim c.requires.legible [
  | inl here ↦ legible_here c.args.pools.now c.args.memory.now here c.loop-block.block
  | inr (s, k, r, v, i, at, within) ↦ legible_there v k i (c.loop-block.invariant.passes s k r v i at within)
]

pub block_end-requires : goal.block_end-requires
block_end-requires g c =
    let so_far = c.loop-block.invariant in
    let (word, other) = not_last g (goal.at.block_end-requires g c).In-loop-block in
    let legible : IsLegibleBlock c.args.pools.now c.args.memory.now c.loop-block.block = elim c.requires.legible [
      | inl here ↦ IsLegibleBlock-here c.args.pools.now c.args.memory.now here c.loop-block.block word
      | inr (s, k, r, v, i, at, within) ↦ IsLegibleBlock-there v k i (so_far.passes s k r v i at within) other
    ] in
    let span : IsSpanOf c.args.pools.now c.args.memory.now c.loop-block.block c.args.end =
    record {
      from = omega (arith, c.requires.span.from, so_far.from);
      to = c.requires.span.to;
      addressable = c.requires.span.addressable;
      pool = λ a low high. c.requires.span.pool a (omega (arith, low, so_far.from)) high;
    } in
    (omega arith, (c.requires.parameters, (span, (legible, (so_far.whole, so_far.to)))))
