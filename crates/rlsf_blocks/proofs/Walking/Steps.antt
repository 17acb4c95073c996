-- An iteration goes from a block to the next one.
use Rattle.std.proofs.Common.{◌≡◌, ℕ, ◌+◌, ◌<◌, ◌≤◌, arith, inl, inr, sym, ◌∙◌, ap, subst}
use Rattle.std.proofs.lemmas.Bool.{cases_lt}
use Rattle.rlsf_base.specs.Range.{end_of}
use Rattle.rlsf_base.specs.Space.{Space}
use Rattle.rlsf_model.specs.State.{State}
use Rattle.rlsf_table.specs.Table.{Table}
use Rattle.rlsf_blocks.specs.Blocks.{Block, HasBlock}
use Rattle.rlsf_blocks.specs.StandsFor.{contents, StandsFor}
use Rattle.rlsf_blocks.specs.Steps.Walk.{BlockBegins, IsAtBlock, block_at, next_start}
use Rattle.rlsf_blocks.proofs.Walking.Begins.{begins_at_chunk, begins_behind_chunk, behind_block, block_behind, end_behind, lies_in_same_chunk}
use Rattle.rlsf_blocks.proofs.Walking.Blocks.{block-some, block_last}
use Rattle.rlsf_blocks.proofs.Walking.Sizes.{block_at-block, next_start-block, next_start-sentinel}
use Rattle.rlsf_blocks.proofs.Words.Apart.{Has}

-- a block where an iteration is, and where the iteration goes from there
pub record IsStep (m : Space) (s : State) (start end next : ℕ) : Type 0 where
  pub block : Block
  pub has : HasBlock s block
  pub begins : block.range.start ≡ start
  pub at : block_at m start ≡ block
  pub onward : end_of block.range ≤ next
  pub past : end_of block.range + 32 ≤ end
  -- no block begins between its end and where the iteration goes
  pub nothing_between : (b : Block) → HasBlock s b → end_of block.range ≤ b.range.start → next ≤ b.range.start
  pub rest : IsAtBlock s next end

module _ {fllen sllen : ℕ} {m : Space} {t : Table} {s : State} (v : StandsFor fllen sllen (contents m t) s) where
  -- from a later address on, where a block begins, an iteration goes on to the same end
  later : (start next end : ℕ) → IsAtBlock s start end → start ≤ next → next ≤ end → (next < end → BlockBegins s next) → IsAtBlock s next end
  later start next end is after within begins = grind arith

  step_from : (start end : ℕ) → IsAtBlock s start end → (lt : start < end) → BlockBegins s start → IsStep m s start end (next_start m (end_of (block_at m start).range))
  step_from start end is lt (b, i, begins) =
      let w = v.well_formed in
      let some = block-some w b i in
      let at : block_at m start ≡ b = ap (block_at m) (sym begins) ∙ block_at-block v b i in
      let (c, j, from, to, up_to) = is.chunks start (omega arith) lt in
      let here : Has c b.range.start = record { from = omega (arith, from, begins); to = omega (arith, to, begins) } in
      let inside = lies_in_same_chunk w b i c j b.range.start (record { from = omega arith; to = omega arith }) here in
      subst (λ x. IsStep m s start end (next_start m (end_of x.range))) (sym at)
      (elim (behind_block w b i c j here) [
        | block_behind next ↦ subst (IsStep m s start end) (sym (next_start-block v (end_of b.range) next)) (record {
          block = b;
          has = i;
          begins = begins;
          at = at;
          onward = omega arith;
          past = omega (arith, inside.1, up_to);
          nothing_between = λ d k behind. behind;
          rest = later start (end_of b.range) end is (omega (arith, begins)) (omega (arith, inside.1, up_to)) (λ _. next);
        })
        | end_behind d k sentinel ends ↦ subst (IsStep m s start end) (sym (next_start-sentinel v (end_of b.range) d k sentinel)) (record {
          block = b;
          has = i;
          begins = begins;
          at = at;
          onward = omega arith;
          past = omega (arith, inside.1, up_to);
          nothing_between = λ x l behind. elim (cases_lt x.range.start (end_of b.range + 32)) [
            | inr past ↦ past
            | inl within ↦
                let more = block-some w x l in
                absurd (block_last w x c x.range.start l j (record { from = omega arith; to = omega arith }) (omega (arith, ends, behind)) (omega (arith, ends, within)))
          ];
          rest = later start (end_of b.range + 32) end is (omega (arith, begins)) (omega (arith, inside.1, up_to)) (λ more.
              let (e, l, e_from, e_to, e_up_to) = is.chunks (end_of b.range + 32) (omega (arith, begins)) more in
              let first = begins_behind_chunk w c e j l (record { from = omega (arith, ends, e_from); to = omega (arith, ends, e_to) }) in
              subst (BlockBegins s) (omega (arith, first, ends)) (begins_at_chunk w e l));
        })
      ])

  pub step_of : (start end : ℕ) → IsAtBlock s start end → start < end → IsStep m s start end (next_start m (end_of (block_at m start).range))
  step_of start end is lt = step_from start end is lt (is.begins lt)
