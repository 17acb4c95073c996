-- `rlsf_pool_free` lends the pool behind the handle to `Pool::free`, and takes it back.
use Rattle.rlsf_c_lemmas.proofs.Contracts.{changes, number}
use Rattle.rlsf_c_lemmas.proofs.Exports.{exports1}
use Rattle.rlsf_pool_calls.specs.Calls.{PoolFrees}
use Rattle.rlsf_pool_calls.specs.Seen.{seen}
use Rattle.rlsf_pool.specs.contracts.rlsf_pool_free as f
use Rattle.rlsf_pool.proofs.rlsf_pool_free.Statement.{statement}
use Rattle.rlsf_pool.proofs.rlsf_pool_free.Code as code
use Rattle.rlsf_pool_calls.specs.contracts.pool.Pool.{the_row}
use Rattle.rlsf_pool_calls.specs.contracts.pool.Pool.free as g
use Rattle.rlsf_pool_calls.proofs.pool.Pool.free.Met.{met}

pub rlsf_pool_free_spec : {M : Type 1} → statement M
rlsf_pool_free_spec 𝓤 𝓛 𝓜 𝓡 wired =
    exports1 𝓛 𝓜 𝓡 the_row (number 𝓛) (changes (λ before x e r after. PoolFrees (seen before) x.0 r (seen after))) g.Key.name f.Key.name
    (met 𝓤 𝓛 𝓜 𝓡 (code.calls-rlsf_pool_calls::pool::Pool::free 𝓡.env wired)) (code.unfolded 𝓤 𝓛.H 𝓜 𝓡 wired)
