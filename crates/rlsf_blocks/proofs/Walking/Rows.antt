-- An iteration over contiguous chunks is at a block, or at its end.
use Rattle.std.proofs.Common.{◌≡◌, ℕ, ◌-◌, ◌^◌, ◌<◌, ◌≤◌, min, arith, inl, inr, subst}
use Rattle.std.proofs.lemmas.Bool.{cases_lt}
use Rattle.rlsf_base.specs.declared.memory.range.Range.{Range}
use Rattle.rlsf_base.specs.Range.{end_of}
use Rattle.rlsf_model_sizes.specs.Rounding.{round32}
use Rattle.rlsf_base.specs.Space.{Space}
use Rattle.rlsf_model.specs.ChunkRows.{IsRow}
use Rattle.rlsf_model.specs.State.{State}
use Rattle.rlsf_table.specs.Table.{Table}
use Rattle.rlsf_blocks.specs.Blocks.{AreBlocks, walked}
use Rattle.rlsf_blocks.specs.StandsFor.{contents, StandsFor}
use Rattle.rlsf_blocks.specs.Steps.Walk.{BlockBegins, IsAtBlock, IsSpan, blocks_between}
use Rattle.rlsf_blocks.proofs.Walking.Begins.{begins_at_chunk}
use Rattle.rlsf_blocks.proofs.Walking.Blocks.{block-some}
use Rattle.rlsf_blocks.proofs.Walking.Listed.{AreFrom-between}

module _ {fllen sllen : ℕ} {m : Space} {t : Table} {s : State} (v : StandsFor fllen sllen (contents m t) s) where
  IsAtBlock-row : (r : Range) → IsRow s r → IsAtBlock s r.start (end_of r)
  IsAtBlock-row r row = record {
    within = omega arith;
    begins = λ lt.
        let (c, i, from, at, to, up_to) = row r.start (omega arith) lt in
        subst (BlockBegins s) (omega (arith, from, at)) (begins_at_chunk v.well_formed c i);
    chunks = λ a from to.
        let (c, i, inside, at, before, up_to) = row a from to in
        (c, i, at, before, up_to);
  }

  IsAtBlock-end : (a : ℕ) → IsAtBlock s a a
  IsAtBlock-end a = record { within = omega arith; begins = λ lt. absurd (omega (arith, lt)); chunks = λ b from to. absurd (omega (arith, from, to)) }

  pub IsAtBlock-span : (r : Range) (start end : ℕ) → IsSpan r start end → IsRow s r → IsAtBlock s start end
  IsAtBlock-span r start end span row = elim (cases_lt 0 r.len) [
    | inl some ↦
        let (same_start, same_end) = span.some some in
        subst (λ a. IsAtBlock s a end) (omega (arith, same_start)) (subst (IsAtBlock s r.start) (omega (arith, same_end)) (IsAtBlock-row r row))
    | inr none ↦ subst (IsAtBlock s start) (span.none (omega (arith, none))) (IsAtBlock-end start)
  ]

  pub AreBlocks-span : (r : Range) (start end : ℕ) → IsSpan r start end → IsRow s r → AreBlocks s r (blocks_between m start end)
  AreBlocks-span r start end span row =
      let are = AreFrom-between v start end (IsAtBlock-span r start end span row) in
      elim (cases_lt 0 r.len) [
        | inl some ↦
            let (same_start, same_end) = span.some some in
            record {
              exactly = λ b. (
                λ i. let (has, from, to) = are.sound b i in (has, omega (arith, from, same_start), omega (arith, to, same_end)),
                λ (has, from, to). are.complete b has (omega (arith, from, same_start)) (omega (arith, to, same_end)),
              );
              in_order = are.in_order;
            }
        | inr none ↦
            let same = span.none (omega (arith, none)) in
            record {
              exactly = λ b. (
                λ i. let (has, from, to) = are.sound b i in absurd (omega (arith, block-some v.well_formed b has, from, to, same)),
                λ (has, from, to). absurd (omega (arith, block-some v.well_formed b has, from, to, none)),
              );
              in_order = are.in_order;
            }
      ]

  -- where a row that isn't empty ends
  row_addressable : (r : Range) → IsRow s r → 0 < r.len → end_of r < 2 ^ 64
  row_addressable r row some =
      let (c, i, inside, at, before, up_to) = row (end_of r - 1) (omega (arith, some)) (omega (arith, some)) in
      omega (arith, before, (v.well_formed.chunks c i).lies_in.1, v.well_formed.addressable)

  -- the iteration begins at the rounded start, if that is before the end, and the end is not cut off
  pub IsSpan-some : (r : Range) (end : ℕ) → end ≡ min (end_of r) (2 ^ 64 - 1) → round32 r.start < end → IsRow s (walked r) → IsSpan (walked r) (round32 r.start) end
  IsSpan-some r end cut lt row = grind (arith, row_addressable)

  -- at the end, if that is not before the rounded start
  pub IsSpan-over : (r : Range) (end : ℕ) → end ≡ min (end_of r) (2 ^ 64 - 1) → end ≤ round32 r.start → round32 r.start < 2 ^ 64 → IsSpan (walked r) end end
  IsSpan-over r end cut over fits = grind arith

  -- or if the rounded start is past the last address
  pub IsSpan-past : (r : Range) (end : ℕ) → 2 ^ 64 ≤ round32 r.start → IsRow s (walked r) → IsSpan (walked r) end end
  IsSpan-past r end past row = grind (arith, row_addressable)
