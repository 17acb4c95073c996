use Rattle.std.proofs.Common.{rules, ◌≡◌, ◌∷◌, ◌++◌, [], length, slice_index_or, arith, ◌∙◌, ap, subst}
use Rattle.std.proofs.lemmas.List.{get_or_append_left, length-append}
use Rattle.std.proofs.lemmas.List.Sorted.{IsPermutation-append_comm, IsPermutation-trans, length_permutation}
use Rattle.std.specs.Prelude.{IsPermutation}
use Rattle.rlsf_trace_runs.proofs.Outcomes.{when_ok}
use Rattle.rlsf_trace_runs.proofs.PoolRuns.{AreInRuns-more}
use Rattle.rlsf_trace_runs.proofs.pools.Pools.add.Goals as goal

pub returns-clause-ranges : goal.returns-clause-ranges
returns-clause-ranges c =
    let xs = c.args.self.now.ranges.items in
    let pushed : c.push.new.self.items ≡ xs ++ c.args.pool ∷ [] = when_ok c.push.result _ (c.push.ensures.succeeds c.requires.room) c.push.ensures.items in
    IsPermutation-trans _ _ _ (IsPermutation-append_comm (c.args.pool ∷ []) xs)
    (subst (λ l. IsPermutation l c.sort_from.new.pools.items) pushed c.sort_from.ensures.permutation)

pub returns-clause-in_runs : goal.returns-clause-in_runs
returns-clause-in_runs c =
    let xs = c.args.self.now.ranges.items in
    let pushed : c.push.new.self.items ≡ xs ++ c.args.pool ∷ [] = when_ok c.push.result _ (c.push.ensures.succeeds c.requires.room) c.push.ensures.items in
    let begun = c.begin_run-first.ensures in
    let long = length_permutation _ _ c.sort_from.ensures.permutation ∙ ap length pushed ∙ length-append xs (c.args.pool ∷ []) in
    AreInRuns-more c.requires.in_runs (search rules) long
    (λ k d below. c.sort_from.ensures.before k d below ∙ ap (λ l. slice_index_or l k d) pushed
    ∙ get_or_append_left xs (c.args.pool ∷ []) d k (omega (arith, begun.within, c.len.ensures)))
    c.sort_from.ensures.in_order
