-- `rlsf_pool_allocate_zeroed` lends the pool behind the handle to `Pool::allocate_zeroed`, and takes it back.
use Rattle.rlsf_c_lemmas.proofs.Contracts.{changes}
use Rattle.rlsf_c_lemmas.proofs.Exports.{exports2}
use Rattle.rlsf_pool.proofs.Results.{answer}
use Rattle.rlsf_pool_calls.specs.Calls.{PoolAllocatesZeroed}
use Rattle.rlsf_pool_calls.specs.Seen.{seen}
use Rattle.rlsf_pool.specs.contracts.rlsf_pool_allocate_zeroed as f
use Rattle.rlsf_pool.proofs.rlsf_pool_allocate_zeroed.Statement.{statement}
use Rattle.rlsf_pool.proofs.rlsf_pool_allocate_zeroed.Code as code
use Rattle.rlsf_pool_calls.specs.contracts.pool.Pool.{the_row}
use Rattle.rlsf_pool_calls.specs.contracts.pool.Pool.allocate_zeroed as g
use Rattle.rlsf_pool_calls.proofs.pool.Pool.allocate_zeroed.Met.{met}

pub rlsf_pool_allocate_zeroed_spec : {M : Type 1} → statement M
rlsf_pool_allocate_zeroed_spec 𝓤 𝓛 𝓜 𝓡 wired =
    exports2 𝓛 𝓜 𝓡 the_row (answer 𝓛) (changes (λ before x e r after. PoolAllocatesZeroed (seen before) x.0 x.1.0 r (seen after))) g.Key.name f.Key.name
    (met 𝓤 𝓛 𝓜 𝓡 (code.calls-rlsf_pool_calls::pool::Pool::allocate_zeroed 𝓡.env wired)) (code.unfolded 𝓤 𝓛.H 𝓜 𝓡 wired)
