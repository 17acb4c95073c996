-- `rlsf_pool_allocate` lends the pool behind the handle to `Pool::allocate`, and takes it back.
use Rattle.rlsf_c_lemmas.proofs.Contracts.{changes}
use Rattle.rlsf_c_lemmas.proofs.Exports.{exports2}
use Rattle.rlsf_pool.proofs.Results.{answer}
use Rattle.rlsf_pool_calls.specs.Calls.{PoolAllocates}
use Rattle.rlsf_pool_calls.specs.Seen.{seen}
use Rattle.rlsf_pool.specs.contracts.rlsf_pool_allocate as f
use Rattle.rlsf_pool.proofs.rlsf_pool_allocate.Statement.{statement}
use Rattle.rlsf_pool.proofs.rlsf_pool_allocate.Code as code
use Rattle.rlsf_pool_calls.specs.contracts.pool.Pool.{the_row}
use Rattle.rlsf_pool_calls.specs.contracts.pool.Pool.allocate as g
use Rattle.rlsf_pool_calls.proofs.pool.Pool.allocate.Met.{met}

pub rlsf_pool_allocate_spec : {M : Type 1} → statement M
rlsf_pool_allocate_spec 𝓤 𝓛 𝓜 𝓡 wired =
    exports2 𝓛 𝓜 𝓡 the_row (answer 𝓛) (changes (λ before x e r after. PoolAllocates (seen before) x.0 x.1.0 r (seen after))) g.Key.name f.Key.name
    (met 𝓤 𝓛 𝓜 𝓡 (code.calls-rlsf_pool_calls::pool::Pool::allocate 𝓡.env wired)) (code.unfolded 𝓤 𝓛.H 𝓜 𝓡 wired)
