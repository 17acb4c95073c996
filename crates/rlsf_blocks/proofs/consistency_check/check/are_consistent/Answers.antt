use Rattle.std.proofs.Common.{true≢false, arith, refl, sym, inl, inr}
use borrow.Author.Count.{below_more}
use Rattle.rlsf_blocks.specs.Blocks.{walked}
use Rattle.rlsf_blocks.specs.Consistency.Consistent.{HasChunks}
use Rattle.rlsf_blocks.specs.Consistency.Pools.{HasPoolAt, pool_at}
use Rattle.rlsf_blocks.specs.Steps.BlockAt.{CanReadChunks}
use Rattle.rlsf_blocks.specs.Steps.Legible.{HasLegibleHeads}
use Rattle.rlsf_blocks.proofs.Consistency.Reading.{HasLegibleHeads-agree, HasLegibleHeads-here}
use Rattle.rlsf_blocks.proofs.Consistency.Walked.{AreConsistent-from, pools_chunks, pools_heads, reaches_pool}
use Rattle.rlsf_blocks.proofs.consistency_check.check.are_consistent.Goals as goal

pub heads_agree-requires : goal.heads_agree-requires
heads_agree-requires g c =
    let ps = c.args.pools.now in
    let m = c.args.memory.now in
    let t = c.args.table.now in
    let legible : HasLegibleHeads g.row.FLLEN g.row.SLLEN ps m t = elim c.requires.legible [
      | inl here ↦ HasLegibleHeads-here ps m here g.row.FLLEN g.row.SLLEN t
      | inr are ↦ HasLegibleHeads-agree g.row.FLLEN g.row.SLLEN ps m t (omega (arith, c.start-k-end.ensures.bounds)) (pools_heads g.row.FLLEN g.row.SLLEN ps m t are)
    ] in
    (omega arith, (c.requires.parameters, legible))

pub returns-then-not-heads_agree : goal.returns-then-not-heads_agree
returns-then-not-heads_agree g c = (
  λ no. absurd (true≢false (sym no)),
  λ are. c.if-not-heads_agree.ensures.1 (pools_heads g.row.FLLEN g.row.SLLEN c.args.pools.now c.args.memory.now c.args.table.now are),
)

pub has_chunks-requires : goal.has_chunks-requires
has_chunks-requires g c =
    let ps = c.args.pools.now in
    let m = c.args.memory.now in
    let k = c.loop-k.k in
    let is : HasPoolAt ps k = omega (arith, c.loop-k-test.true) in
    let legible : CanReadChunks g.row.FLLEN g.row.SLLEN ps m c.args.table.now (walked (pool_at ps k)) = elim c.requires.legible [
      | inl here ↦ inl here
      | inr are ↦ inr (pools_chunks g.row.FLLEN g.row.SLLEN ps m c.args.table.now are k is)
    ] in
    (omega arith, (c.requires.parameters, (legible, reaches_pool ps m k is)))

pub returns-then-not-has_chunks : goal.returns-then-not-has_chunks
returns-then-not-has_chunks g c = grind (arith, true≢false, pools_chunks, c.if-not-has_chunks.ensures.1, g.row.FLLEN, g.row.SLLEN, c.loop-k-test.true)

pub loop-k-preserved : goal.loop-k-preserved
loop-k-preserved g c =
    below_more (λ k. HasChunks g.row.FLLEN g.row.SLLEN c.args.pools.now c.args.memory.now c.args.table.now (walked (pool_at c.args.pools.now k))) c.loop-k.k
    c.loop-k.invariant (c.if-not-has_chunks.ensures.0 refl)

pub returns : goal.returns
returns g c = (
  λ _. AreConsistent-from g.row.FLLEN g.row.SLLEN c.args.pools.now c.args.memory.now c.args.table.now (c.if-not-heads_agree.ensures.0 refl)
      (λ k is. c.loop-k.invariant k (omega (arith, is, c.loop-k-test.false))),
  λ _. refl,
)
