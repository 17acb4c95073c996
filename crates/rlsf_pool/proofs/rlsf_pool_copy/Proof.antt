-- `rlsf_pool_copy` lends the pool behind the handle to `Pool::copy`, and takes it back.
use Rattle.rlsf_c_lemmas.proofs.Contracts.{changes, number}
use Rattle.rlsf_c_lemmas.proofs.Exports.{exports3}
use Rattle.rlsf_pool_calls.specs.Calls.{PoolCopies}
use Rattle.rlsf_pool_calls.specs.Seen.{seen}
use Rattle.rlsf_pool.specs.contracts.rlsf_pool_copy as f
use Rattle.rlsf_pool.proofs.rlsf_pool_copy.Statement.{statement}
use Rattle.rlsf_pool.proofs.rlsf_pool_copy.Code as code
use Rattle.rlsf_pool_calls.specs.contracts.pool.Pool.{the_row}
use Rattle.rlsf_pool_calls.specs.contracts.pool.Pool.copy as g
use Rattle.rlsf_pool_calls.proofs.pool.Pool.copy.Met.{met}

pub rlsf_pool_copy_spec : {M : Type 1} → statement M
rlsf_pool_copy_spec 𝓤 𝓛 𝓜 𝓡 wired =
    exports3 𝓛 𝓜 𝓡 the_row (number 𝓛) (changes (λ before x e r after. PoolCopies (seen before) x.0 x.1.0 x.1.1.0 r (seen after))) g.Key.name f.Key.name
    (met 𝓤 𝓛 𝓜 𝓡 (code.calls-rlsf_pool_calls::pool::Pool::copy 𝓡.env wired)) (code.unfolded 𝓤 𝓛.H 𝓜 𝓡 wired)
