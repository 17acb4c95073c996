use Rattle.std.proofs.Common.{rules, ◌≤◌, arith, sym, subst}
use Rattle.rlsf_base.proofs.SizeMaps.PoolSizes.{max_pool_size-some}
use Rattle.rlsf_model.proofs.Cuts.{most_whole}
use Rattle.rlsf_blocks.proofs.pool.chunk_length.Goals as goal

pub returns-in-Some : goal.returns-in-Some
returns-in-Some g c = record {
  value = search rules;
  bounds =
      let longest = (max_pool_size-some g.row.FLLEN c.in-Some.most (sym c.in-Some.ensures)).1 in
      let wide : 64 ≤ c.in-Some.most = subst (λ n. 64 ≤ n) (sym longest) (most_whole g.row.FLLEN c.requires.parameters.some_rows).1 in
      (omega arith, omega arith);
}
