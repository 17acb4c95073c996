use Rattle.std.proofs.Common.{true≢false, refl, sym, ◌∙◌, ap, subst, inl, inr}
use Rattle.std.proofs.lemmas.Bool.{false≢true}
use Rattle.rlsf_blocks.specs.Blocks.{Block, walked}
use Rattle.rlsf_model.specs.Lists.{IsIn}
use Rattle.rlsf_flex.proofs.RangeRows.{none_occupied, occupied_held}
use Rattle.rlsf_flex.proofs.InnerAllocator.{stood}
use Rattle.rlsf_flex.proofs.trim.is_idle.Goals as goal

pub returns-then-is_occupied : goal.returns-then-is_occupied
returns-then-is_occupied g c =
    let b : Block = c.in-Some.block in
    let i = subst (IsIn b) (sym c.in-Some.ensures.steps) (inl refl) in (
      λ never. absurd (false≢true never),
      λ idle. absurd (occupied_held (stood _ c.requires.stands).well_formed (walked c.args.row) c.iter_blocks-blocks.result c.iter_blocks-blocks.ensures.blocks b
          (c.loop-block.invariant.2 b i) (sym c.is_occupied.ensures ∙ c.if-is_occupied.true) idle),
    )

pub loop-block-preserved : goal.loop-block-preserved
loop-block-preserved g c = (
  tt,
  tt,
  λ b i. c.loop-block.invariant.2 b (subst (IsIn b) (sym c.in-Some.ensures.steps) (inr i)),
  λ b i occupied. elim (subst (IsIn b) c.in-Some.ensures.steps (c.loop-block.invariant.3 b i occupied)) [
    | inl same ↦ absurd (true≢false (sym occupied ∙ ap (λ (d : Block). d.is_occupied) same ∙ sym c.is_occupied.ensures ∙ c.if-is_occupied.false))
    | inr j ↦ j
  ],
)

pub returns : goal.returns
returns g c = (
  λ always. none_occupied (stood _ c.requires.stands).well_formed (walked c.args.row) c.iter_blocks-blocks.result c.iter_blocks-blocks.ensures.blocks c.requires.row
      (λ b i occupied. subst (IsIn b) c.in_default.ensures.steps.0 (c.loop-block.invariant.3 b i occupied)),
  λ idle. refl,
)
