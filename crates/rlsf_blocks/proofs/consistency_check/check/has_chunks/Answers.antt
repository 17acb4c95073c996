use Rattle.std.proofs.Common.{◌≡◌, ◌+◌, ◌-◌, ◌%◌, ◌<◌, true≢false, arith, refl, sym, ◌∙◌, inl, inr, subst}
use Rattle.rlsf_model.specs.State.{between}
use Rattle.rlsf_blocks.specs.Steps.BlockAt.{CanReadChunks, IsSpanOf}
use Rattle.rlsf_blocks.proofs.Consistency.Pieces.{IsBase-valid}
use Rattle.rlsf_blocks.proofs.Consistency.Walked.{HasChunks-nothing, HasChunks-rest, SomeLayoutFrom, rest_of, rest_within}
use Rattle.rlsf_blocks.proofs.consistency_check.check.has_chunks.Goals as goal

pub returns-then-range-skipped : goal.returns-then-range-skipped
returns-then-range-skipped g c =
    let m = c.args.memory.now in
    let base = IsBase-valid g.row.FLLEN g.row.SLLEN m c.requires.parameters (omega (arith, c.start.ensures.bounds)) in
    let skipped = (32 - c.args.range.start % 32) % 32 in (
      λ _. HasChunks-nothing g.row.FLLEN g.row.SLLEN c.args.pools.now m c.args.table.now c.args.range skipped refl base c.if-range-skipped.true,
      λ _. refl,
    )

pub returns-then-is_within : goal.returns-then-is_within
returns-then-is_within g c = grind (arith, HasChunks-rest, rest_of)

pub returns-else-is_within : goal.returns-else-is_within
returns-else-is_within g c =
    let skipped = (32 - c.args.range.start % 32) % 32 in
    let less : skipped < c.args.range.len = omega (arith, c.if-range-skipped.false) in
    let at : c.args.range.start + skipped ≡ c.in-Some.start = omega (arith, c.in-Some.ensures) in (
      λ yes. absurd (true≢false (sym yes ∙ c.if-is_within.false)),
      λ is.
          let lies = rest_within g.row.FLLEN g.row.SLLEN c.args.pools.now c.args.memory.now c.args.table.now c.args.range skipped refl less is in
          c.is_within.ensures.1 (omega (arith, lies.0, at), omega (arith, lies.1, at)),
    )

pub returns-in-None : goal.returns-in-None
returns-in-None g c =
    let skipped = (32 - c.args.range.start % 32) % 32 in
    let less : skipped < c.args.range.len = omega (arith, c.if-range-skipped.false) in (
      λ no. absurd (true≢false (sym no)),
      λ is.
          let lies = rest_within g.row.FLLEN g.row.SLLEN c.args.pools.now c.args.memory.now c.args.table.now c.args.range skipped refl less is in
          absurd (omega (arith, lies.1, c.start.ensures.bounds, c.in-None.ensures)),
    )

pub are_chunks-requires : goal.are_chunks-requires
are_chunks-requires g c =
    let ps = c.args.pools.now in
    let m = c.args.memory.now in
    let t = c.args.table.now in
    let skipped = (32 - c.args.range.start % 32) % 32 in
    let less : skipped < c.args.range.len = omega (arith, c.if-range-skipped.false) in
    let at : c.args.range.start + skipped ≡ c.in-Some.start = omega (arith, c.in-Some.ensures) in
    let from = SomeLayoutFrom g.row.FLLEN g.row.SLLEN ps m t (c.args.range.len - skipped) in
    let legible : CanReadChunks g.row.FLLEN g.row.SLLEN ps m t (between c.in-Some.start (c.in-Some.start + (c.args.range.len - skipped))) = elim c.requires.legible [
      | inl here ↦ inl here
      | inr is ↦ inr (subst from at (rest_of g.row.FLLEN g.row.SLLEN ps m t c.args.range skipped refl less is))
    ] in
    let lies = c.is_within.ensures.0 c.if-is_within.true in
    let span : IsSpanOf ps m c.in-Some.start (c.in-Some.start + (c.args.range.len - skipped)) =
    record {
      from = lies.0;
      to = lies.1;
      addressable = omega (arith, c.start.ensures.bounds);
      pool = λ a low high. c.requires.reaches a (omega (arith, low, at), omega (arith, high, at, less)) (omega (arith, low, lies.0), omega (arith, high, lies.1));
    } in
    (omega arith, (c.requires.parameters, (span, (legible, (omega (arith, at), omega arith)))))
