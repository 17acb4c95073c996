use Rattle.std.proofs.Common.{◌≡◌, ◌^◌, ◌<◌, [], ◌∷◌, ℕ, true≢false, arith, sym, ◌∙◌, inl, inr, subst}
use mathlib.Core.Path.{ap₂}
use Rattle.rlsf_base.specs.Range.{end_of}
use Rattle.rlsf_base.specs.Space.{range_of}
use Rattle.rlsf_blocks.specs.Blocks.{walked}
use Rattle.rlsf_blocks.specs.Consistency.Consistent.{HasChunks}
use Rattle.rlsf_blocks.specs.Consistency.Heads.{HasHeads}
use Rattle.rlsf_blocks.specs.Consistency.Pools.{all_of}
use Rattle.rlsf_blocks.specs.Steps.BlockAt.{CanReadChunks, ReachesPools}
use Rattle.rlsf_blocks.specs.Steps.Legible.{HasLegibleHeads}
use Rattle.rlsf_blocks.proofs.Consistency.Reading.{HasLegibleHeads-agree, HasLegibleHeads-here, here_all}
use Rattle.rlsf_blocks.proofs.Consistency.Walked.{IsConsistent-from, chunks_of, heads_of, reaches_all}
use Rattle.rlsf_blocks.proofs.consistency_check.check.is_consistent.Goals as goal

-- two numbers
pair : (a b x y : ℕ) → a ≡ x → b ≡ y → a ∷ b ∷ [] ≡ x ∷ y ∷ []
pair a b x y = ap₂ (λ i j. i ∷ j ∷ [])

pub returns-then-heads_agree : goal.returns-then-heads_agree
returns-then-heads_agree g c =
    let m = c.args.memory.now in let t = c.args.table.now in let r = walked c.args.range in
    let same : c.start.result ∷ c.len.result ∷ [] ≡ all_of m = pair _ _ _ _ c.start.ensures.value c.len.ensures.value in (
      λ is. IsConsistent-from g.row.FLLEN g.row.SLLEN m t r
          (subst (λ ps. HasHeads g.row.FLLEN g.row.SLLEN ps m t) same (c.heads_agree.ensures.0 c.if-heads_agree.true))
          (subst (λ ps. HasChunks g.row.FLLEN g.row.SLLEN ps m t r) same (c.has_chunks.ensures.0 is)),
      λ is. c.has_chunks.ensures.1 (subst (λ ps. HasChunks g.row.FLLEN g.row.SLLEN ps m t r) (sym same) (chunks_of g.row.FLLEN g.row.SLLEN m t r is)),
    )

pub returns-else-heads_agree : goal.returns-else-heads_agree
returns-else-heads_agree g c =
    let m = c.args.memory.now in let t = c.args.table.now in
    let same : c.start.result ∷ c.len.result ∷ [] ≡ all_of m = pair _ _ _ _ c.start.ensures.value c.len.ensures.value in (
      λ yes. absurd (true≢false (sym yes ∙ c.if-heads_agree.false)),
      λ is. c.heads_agree.ensures.1 (subst (λ ps. HasHeads g.row.FLLEN g.row.SLLEN ps m t) (sym same)
          (heads_of g.row.FLLEN g.row.SLLEN m t (walked c.args.range) is)),
    )

pub heads_agree-requires : goal.heads_agree-requires
heads_agree-requires g c =
    let m = c.args.memory.now in
    let t = c.args.table.now in
    let addressable : end_of (range_of m) < 2 ^ 64 = omega (arith, c.start.ensures.bounds) in
    let same : c.start.result ∷ c.len.result ∷ [] ≡ all_of m = pair _ _ _ _ c.start.ensures.value c.len.ensures.value in
    let legible : HasLegibleHeads g.row.FLLEN g.row.SLLEN (all_of m) m t = elim c.requires.legible [
      | inl here ↦ HasLegibleHeads-here (all_of m) m (here_all m here) g.row.FLLEN g.row.SLLEN t
      | inr is ↦ HasLegibleHeads-agree g.row.FLLEN g.row.SLLEN (all_of m) m t addressable (heads_of g.row.FLLEN g.row.SLLEN m t (walked c.args.range) is)
    ] in
    (omega arith, (c.requires.parameters, subst (λ ps. HasLegibleHeads g.row.FLLEN g.row.SLLEN ps m t) (sym same) legible))

pub has_chunks-requires : goal.has_chunks-requires
has_chunks-requires g c =
    let m = c.args.memory.now in
    let t = c.args.table.now in
    let r = c.args.range in
    let same : c.start.result ∷ c.len.result ∷ [] ≡ all_of m = pair _ _ _ _ c.start.ensures.value c.len.ensures.value in
    let legible : CanReadChunks g.row.FLLEN g.row.SLLEN (all_of m) m t (walked r) = elim c.requires.legible [
      | inl here ↦ inl (here_all m here)
      | inr is ↦ inr (chunks_of g.row.FLLEN g.row.SLLEN m t (walked r) is)
    ] in
    let reaches : ReachesPools (all_of m) m r = λ a lies inside. reaches_all m a inside in (
      omega arith,
      (
        c.requires.parameters,
        (subst (λ ps. CanReadChunks g.row.FLLEN g.row.SLLEN ps m t (walked r)) (sym same) legible, subst (λ ps. ReachesPools ps m r) (sym same) reaches),
      ),
    )
