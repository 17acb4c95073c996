-- The blocks that an iteration gives.
use Rattle.std.proofs.Common.{◌≡◌, ℕ, zero, suc, cond, ◌+◌, ◌-◌, ◌<◌, ◌≤◌, List, [], ◌∷◌, ◌++◌, arith, inl, inr, refl, sym, ◌∙◌, ap, subst}
use Rattle.std.proofs.lemmas.Bool.{cases_lt, lt-ltb, le-ltb}
use Rattle.rlsf_base.specs.Range.{end_of}
use Rattle.rlsf_base.specs.Space.{Space}
use Rattle.rlsf_model.specs.Lists.{IsIn}
use Rattle.rlsf_model.specs.State.{State}
use Rattle.rlsf_model.proofs.Coverage.{IsIn-append}
use Rattle.rlsf_table.specs.Table.{Table}
use Rattle.rlsf_blocks.specs.Blocks.{Block, HasBlock, IsInOrder}
use Rattle.rlsf_blocks.specs.StandsFor.{contents, StandsFor}
use Rattle.rlsf_blocks.specs.Steps.Walk.{IsAtBlock, block_at, blocks_between, blocks_within, next_start}
use Rattle.rlsf_blocks.proofs.Walking.Blocks.{block-some, block_block}
use Rattle.rlsf_blocks.proofs.Walking.Steps.{IsStep, step_of}

-- where the iteration goes on from a block
abbrev next_of : Space → ℕ → ℕ
next_of m start = next_start m (end_of (block_at m start).range)

pub blocks_within-end : (m : Space) (most start end : ℕ) → end ≤ start → blocks_within m most start end ≡ []
blocks_within-end m zero start end over = refl
blocks_within-end m (suc most) start end over = ap (λ t. cond t (block_at m start ∷ blocks_within m most (next_of m start) end) []) (le-ltb start end over)

pub blocks_within-more : (m : Space) (most start end : ℕ) → start < end
    → blocks_within m (suc most) start end ≡ block_at m start ∷ blocks_within m most (next_of m start) end
blocks_within-more m most start end lt = ap (λ t. cond t (block_at m start ∷ blocks_within m most (next_of m start) end) []) (lt-ltb start end lt)

-- lists of blocks one behind another
pub IsInOrder-append : (bs cs : List Block) → IsInOrder bs → IsInOrder cs → ((b c : Block) → IsIn b bs → IsIn c cs → end_of b.range ≤ c.range.start)
    → IsInOrder (bs ++ cs)
IsInOrder-append [] cs first second apart = second
IsInOrder-append (b ∷ bs) cs (before, first) second apart = (
  λ c i. elim (IsIn-append c bs cs i) [ inl j ↦ before c j | inr j ↦ apart b c (inl refl) j ],
  IsInOrder-append bs cs first second (λ x c i j. apart x c (inr i) j),
)

-- the blocks of a list are those of the state from one address up to another, in order
pub record AreFrom (s : State) (start end : ℕ) (bs : List Block) : Type 0 where
  pub sound : (b : Block) → IsIn b bs → HasBlock s b × (start ≤ b.range.start) × (end_of b.range ≤ end)
  pub complete : (b : Block) → HasBlock s b → start ≤ b.range.start → end_of b.range ≤ end → IsIn b bs
  pub in_order : IsInOrder bs

module _ {fllen sllen : ℕ} {m : Space} {t : Table} {s : State} (v : StandsFor fllen sllen (contents m t) s) where
  -- how many more there are at most doesn't matter, if they suffice
  pub blocks_within-enough : (p q start end : ℕ) → IsAtBlock s start end → end ≤ start + p → end ≤ start + q
      → blocks_within m p start end ≡ blocks_within m q start end
  blocks_within-enough zero q start end is p_enough q_enough = sym (blocks_within-end m q start end (omega (arith, p_enough)))
  blocks_within-enough (suc p) zero start end is p_enough q_enough = blocks_within-end m (suc p) start end (omega (arith, q_enough))
  blocks_within-enough (suc p) (suc q) start end is p_enough q_enough = elim (cases_lt start end) [
    | inr over ↦ blocks_within-end m (suc p) start end over ∙ sym (blocks_within-end m (suc q) start end over)
    | inl lt ↦
        let step = step_of v start end is lt in
        let some = block-some v.well_formed step.block step.has in
        let rest =
        blocks_within-enough p q (next_of m start) end step.rest (omega (arith, p_enough, step.begins, step.onward)) (omega (arith, q_enough, step.begins, step.onward)) in
        blocks_within-more m p start end lt ∙ ap (λ bs. block_at m start ∷ bs) rest ∙ sym (blocks_within-more m q start end lt)
  ]

  -- the first block, and those from the next one on
  pub blocks_between-more : (start end : ℕ) → IsAtBlock s start end → start < end
      → blocks_between m start end ≡ block_at m start ∷ blocks_between m (next_of m start) end
  blocks_between-more start end is lt =
      let step = step_of v start end is lt in
      let some = block-some v.well_formed step.block step.has in
      let fewer : blocks_within m (end - start - 1) (next_of m start) end ≡ blocks_between m (next_of m start) end =
      blocks_within-enough (end - start - 1) (end - next_of m start) (next_of m start) end step.rest (omega (arith, lt, some, step.begins, step.onward)) (omega arith) in
      let one_more : end - start ≡ suc (end - start - 1) = omega (arith, lt) in
      ap (λ n. blocks_within m n start end) one_more ∙ blocks_within-more m (end - start - 1) start end lt ∙ ap (λ bs. block_at m start ∷ bs) fewer

  AreFrom-none : (start end : ℕ) → end ≤ start → AreFrom s start end []
  AreFrom-none start end over = record {
    sound = λ b i. absurd i;
    complete = λ b has from to. absurd (omega (arith, block-some v.well_formed b has, from, to));
    in_order = tt;
  }

  AreFrom-more : (start end next : ℕ) (bs : List Block) → (step : IsStep m s start end next) → AreFrom s next end bs → AreFrom s start end (step.block ∷ bs)
  AreFrom-more start end next bs step rest =
      let some = block-some v.well_formed step.block step.has in
      record {
        sound = λ b i. elim i [
          | inl same ↦ (
            subst (HasBlock s) (sym same) step.has,
            omega (arith, step.begins, ap (λ (x : Block). x.range.start) same),
            omega (arith, step.past, ap (λ (x : Block). end_of x.range) same),
          )
          | inr j ↦ let (has, from, to) = rest.sound b j in (has, omega (arith, from, step.begins, step.onward), to)
        ];
        complete = λ b has from to. elim (cases_lt b.range.start (end_of step.block.range)) [
          | inr behind ↦ inr (rest.complete b has (step.nothing_between b has behind) to)
          | inl over ↦
              let more = block-some v.well_formed b has in
              inl (block_block v.well_formed b step.block b.range.start has step.has (record { from = omega arith; to = omega arith })
              (record { from = omega (arith, from, step.begins); to = over }))
        ];
        in_order = (λ c i. omega (arith, step.onward, (rest.sound c i).1), rest.in_order);
      }

  pub AreFrom-within : (most start end : ℕ) → IsAtBlock s start end → end ≤ start + most → AreFrom s start end (blocks_within m most start end)
  AreFrom-within zero start end is enough = AreFrom-none start end (omega (arith, enough))
  AreFrom-within (suc most) start end is enough = elim (cases_lt start end) [
    | inr over ↦ subst (AreFrom s start end) (sym (blocks_within-end m (suc most) start end over)) (AreFrom-none start end over)
    | inl lt ↦
        let step = step_of v start end is lt in
        let some = block-some v.well_formed step.block step.has in
        let rest = AreFrom-within most (next_of m start) end step.rest (omega (arith, enough, step.begins, step.onward)) in
        let list : blocks_within m (suc most) start end ≡ step.block ∷ blocks_within m most (next_of m start) end =
        blocks_within-more m most start end lt ∙ ap (λ b. b ∷ blocks_within m most (next_of m start) end) step.at in
        subst (AreFrom s start end) (sym list) (AreFrom-more start end (next_of m start) _ step rest)
  ]

  pub AreFrom-between : (start end : ℕ) → IsAtBlock s start end → AreFrom s start end (blocks_between m start end)
  AreFrom-between start end is = AreFrom-within (end - start) start end is (omega (arith, is.within))
