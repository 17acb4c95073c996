-- A pool that is made for an allocation has room for it.
use Rattle.std.proofs.Common.{None, arith, ap, subst, inr}
use Rattle.rlsf_base.specs.Range.{range_at}
use Rattle.rlsf_model.specs.Allocate.{Allocates}
use Rattle.rlsf_model.specs.Insert.{body}
use Rattle.rlsf_model.specs.Laws.{IdleChunkHasRoom, PoolHasRoom}
use Rattle.rlsf_model.specs.WellFormed.{coverage}
use Rattle.rlsf_model.proofs.Room.{idle_chunk_is_one_range}
use Rattle.rlsf_model.proofs.TakenPools.{inserted_pool, pool_has_a_choice, pool_is_found, pool_size_is}

pub pool_has_room : PoolHasRoom
pool_has_room fl_bits sl_bits fllen sllen size align e at s t u taken reply valid told at32 inserted allocated none =
    let (long, whole, short) = pool_size_is fl_bits sl_bits fllen sllen e valid (record { size = size; align = align; is = told }) in
    let (n, answer, is_taken, pool) = inserted_pool fllen sllen e s t (range_at at e) taken valid.some_rows long whole short (inr (at32, omega arith)) inserted in
    let refused : Allocates sllen t size align None u = subst (λ r. Allocates sllen t size align r u) none allocated in
    pool_has_a_choice fl_bits sl_bits fllen sllen size align e t valid told pool refused.0

pub idle_chunk_has_room : IdleChunkHasRoom
idle_chunk_has_room fl_bits sl_bits fllen sllen size align e memory s t c reply valid w told idle is_chunk long allocated none =
    let is_free = (idle_chunk_is_one_range fllen sllen memory s c w (λ a low high. ap (λ l. coverage (λ u. u.block) l a) idle) is_chunk).0 in
    pool_is_found fl_bits sl_bits fllen sllen size align e memory s t valid w told (record { range = body c; is_free = is_free; long = omega arith })
    (subst (λ r. Allocates sllen s size align r t) none allocated)
