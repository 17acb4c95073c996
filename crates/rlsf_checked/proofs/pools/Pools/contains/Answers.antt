use Rattle.std.proofs.Common.{rules, arith, refl, sym, ◌∙◌, subst, inl, inr}
use Rattle.std.proofs.lemmas.Bool.{false≢true}
use Rattle.std.proofs.lemmas.List.{take_all}
use Rattle.rlsf_model.specs.Lists.{IsIn}
use Rattle.rlsf_checked.specs.Steps.Lists.{listed}
use Rattle.rlsf_checked.proofs.ListedPools.{at_index, before_more, is_in, one_of}
use Rattle.rlsf_checked.proofs.pools.Pools.contains.Goals as goal

pub loop-pool-init : goal.loop-pool-init
loop-pool-init c = λ p i same. absurd i

pub returns-then-is_same : goal.returns-then-is_same
returns-then-is_same c =
    let held = at_index c.deref-pool-items.result.now c.loop-pool.pool-index c.args.range _ c.loop-pool-test.true (search rules) (c.is_same.ensures.0 c.if-is_same.true) in
    (λ e. is_in (listed c.args.self.now) c.args.range (inl (subst (IsIn c.args.range) c.deref-pool-items.ensures.value held)), λ i. refl)

pub loop-pool-preserved : goal.loop-pool-preserved
loop-pool-preserved c = λ p i same. elim (before_more c.deref-pool-items.result.now c.loop-pool.pool-index p _ c.loop-pool-test.true (search rules) i) [
  | inl j ↦ c.loop-pool.invariant p j same
  | inr here ↦ false≢true (sym c.if-is_same.false ∙ c.is_same.ensures.1 (sym here ∙ same))
]

pub returns : goal.returns
returns c =
    let all = take_all c.loop-pool.pool-index c.deref-pool-items.result.now (omega (arith, c.loop-pool-test.false)) in (
      λ e. is_in (listed c.args.self.now) c.args.range (inr (c.is_last.ensures.0 e)),
      λ i. elim (one_of (listed c.args.self.now) c.args.range i) [
        | inl j ↦ absurd (c.loop-pool.invariant c.args.range
            (subst (IsIn c.args.range) (sym all) (subst (IsIn c.args.range) (sym c.deref-pool-items.ensures.value) j)) refl)
        | inr last ↦ c.is_last.ensures.1 last
      ],
    )
