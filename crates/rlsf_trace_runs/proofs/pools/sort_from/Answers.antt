use Rattle.std.proofs.Common.{rules, ◌≤◌, ◌<◌, ℕ, length, slice_index_or, sym, subst}
use Rattle.std.proofs.lemmas.List.Sorted.{IsNonDecreasingBy-from_sort_by_key}
use Rattle.std.specs.Prelude.{IsPermutation}
use Rattle.std.specs.List.Sorted.{IsNonDecreasingBy}
use Rattle.rlsf_base.specs.declared.memory.range.Range.{Range}
use Rattle.rlsf_trace_runs.proofs.PoolRuns.{ascending_back, moved_back, written_back}
use Rattle.rlsf_trace_runs.proofs.pools.sort_from.Goals as goal

pub returns-clause-permutation : goal.returns-clause-permutation
returns-clause-permutation c =
    let xs = c.args.pools.now.items in
    let ys = c.sort_unstable_by_key.new.self in
    let is = written_back xs c.deref_mut.result.now ys _ c.args.pools.now.len c.args.first c.deref_mut.ensures.value (search rules) c.requires
    c.sort_unstable_by_key.ensures.permutation in
    subst (IsPermutation xs) (sym is) (moved_back xs c.deref_mut.result.now ys c.args.first c.deref_mut.ensures.value c.sort_unstable_by_key.ensures.permutation)

pub returns-clause-in_order : goal.returns-clause-in_order
returns-clause-in_order c =
    let xs = c.args.pools.now.items in
    let ys = c.sort_unstable_by_key.new.self in
    let is = written_back xs c.deref_mut.result.now ys _ c.args.pools.now.len c.args.first c.deref_mut.ensures.value (search rules) c.requires
    c.sort_unstable_by_key.ensures.permutation in
    let ascending : IsNonDecreasingBy (λ p. p.start) ys =
    IsNonDecreasingBy-from_sort_by_key (λ p. p.start) _ c.sort_unstable_by_key.ensures.sorted (λ a r q k. search rules) in
    subst (λ l. (i j : ℕ) (d : Range) → c.args.first ≤ i → i < j → j < length l → (slice_index_or l i d).start ≤ (slice_index_or l j d).start) (sym is)
    (ascending_back xs ys c.args.first c.requires ascending)
