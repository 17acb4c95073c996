use Rattle.std.proofs.Common.{ℕ, ◌^◌, ◌<◌, ◌≤◌, arith, inl, inr, sym, subst}
use Rattle.std.proofs.lemmas.Bool.{cases_lt}
use Rattle.rlsf_model_sizes.specs.Rounding.{round32}
use Rattle.rlsf_blocks.specs.Blocks.{walked}
use Rattle.rlsf_blocks.specs.Steps.Walk.{IsSpan}
use Rattle.rlsf_blocks.proofs.Walking.Rows.{IsSpan-some, IsSpan-over, IsSpan-past}
use Rattle.rlsf_blocks.proofs.walks.span.Goals as goal

not_below : (n : ℕ) → (n < 2 ^ 64 → ⊥) → 2 ^ 64 ≤ n
not_below n never = elim (cases_lt n (2 ^ 64)) [ inl below ↦ absurd (never below) | inr past ↦ past ]

pub returns-in-Some : goal.returns-in-Some
returns-in-Some c = λ fllen sllen m t s v row.
    let (fits, is) = c.in-Some.ensures in
    subst (λ a. IsSpan (walked c.args.range) a c.saturating_add-end.result) (sym is)
    (IsSpan-some v c.args.range c.saturating_add-end.result c.saturating_add-end.ensures (omega (arith, c.if-start-end.true, is)) row)

pub returns-in_default : goal.returns-in_default
returns-in_default c = grind (arith, IsSpan-over, c.in-Some.ensures, c.saturating_add-end.ensures, c.if-start-end.false)

pub returns-in_default-2 : goal.returns-in_default-2
returns-in_default-2 c = λ fllen sllen m t s v row.
    IsSpan-past v c.args.range c.saturating_add-end.result (not_below (round32 c.args.range.start) (λ below. c.in_default.ensures (omega arith, below))) row
