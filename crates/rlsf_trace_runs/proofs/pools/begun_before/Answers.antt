use Rattle.std.proofs.Common.{ltb, ltb-true, rules}
use Rattle.std.proofs.lemmas.Bool.{ltb-false}
use Rattle.std.proofs.lemmas.List.Sorted.{IsPartitionedBy-ltb, IsPartitionPoint-from_clause}
use Rattle.rlsf_trace_runs.proofs.pools.begun_before.Goals as goal

pub returns : goal.returns
returns c = record {
  bound = search rules;
  point =
      let parted = IsPartitionedBy-ltb (λ p. p.start) _ c.args.addr c.requires in
      let point = IsPartitionPoint-from_clause (λ p. ltb p.start c.args.addr) _ _ c.partition_point.ensures.partitioned parted (λ a r q k. search rules) in
      (λ k d low below. ltb-true _ _ (point.0 k d low below), λ k d low below. ltb-false _ _ (point.1 k d low below));
}
