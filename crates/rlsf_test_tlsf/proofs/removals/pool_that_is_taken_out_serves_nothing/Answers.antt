use Rattle.std.proofs.Common.{refl, sym, inl, arith, subst, ap}
use Rattle.rlsf_base.specs.Range.{range_at}
use Rattle.rlsf_model.specs.Lists.{IsIn}
use Rattle.rlsf_model.specs.WellFormed.{coverage}
use Rattle.rlsf_test_tlsf.proofs.FirstChunk.{IsRow-one}
use Rattle.rlsf_test_tlsf.proofs.removals.pool_that_is_taken_out_serves_nothing.Goals as goal

pub chunk_end-requires : goal.chunk_end-requires
chunk_end-requires g c = (omega arith, (range_at 4096 256, subst (λ l. IsIn (range_at 4096 256) l) (sym c.with_chunk-tlsf.ensures.0) (inl refl), refl))

pub remove_pool-requires : goal.remove_pool-requires
remove_pool-requires g c =
    let row = IsRow-one c.with_chunk-tlsf.result.state (range_at 4096 256) c.with_chunk-tlsf.ensures.0 in
    (omega arith, (row, λ a low high. ap (λ l. coverage (λ u. u.block) l a) c.with_chunk-tlsf.ensures.1))
