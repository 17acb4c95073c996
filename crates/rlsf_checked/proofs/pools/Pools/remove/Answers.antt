use Rattle.std.proofs.Common.{◌==◌, cond, filter, not, rules, sym, ◌∙◌, ap}
use Rattle.std.proofs.lemmas.Bool.{ne_eqb}
use Rattle.std.proofs.lemmas.Fn.{filter_same}
use Rattle.rlsf_base.specs.declared.memory.range.Range.{Range}
use Rattle.rlsf_checked.specs.Checked.{pools_of}
use Rattle.rlsf_checked.specs.Pools.{without_last}
use Rattle.rlsf_checked.specs.Steps.Lists.{listed}
use Rattle.rlsf_checked.proofs.pools.Pools.remove.Goals as goal

pub returns-else-self-start : goal.returns-else-self-start
returns-else-self-start c =
    let old = c.args.self.now in
    let kept = filter_same _ (λ (p : Range). not (p.start == c.args.start)) _ (λ x b f' k. search rules) _ _ c.retain.ensures.filtered in
    ap (λ xs. pools_of xs old.last) kept
    ∙ sym (ap (λ b. cond b (without_last (listed old)) (pools_of (filter (λ (p : Range). not (p.start == c.args.start)) old.earlier.items) old.last))
    (ne_eqb old.last.start c.args.start c.if-self-start.false))
