-- `rlsf_pool_destroy` takes the pool from behind the handle, drops it, and puts an ended one there.
use Rattle.std.proofs.Common.{◌≡◌, refl}
use Rattle.rlsf_c_lemmas.proofs.Replacing.{replaces}
use Rattle.rlsf_pool.proofs.Results.{pool}
use Rattle.rlsf_pool_calls.specs.Seen.{ended}
use Rattle.rlsf_pool.specs.contracts.rlsf_pool_destroy as f
use Rattle.rlsf_pool.proofs.rlsf_pool_destroy.Statement.{statement}
use Rattle.rlsf_pool.proofs.rlsf_pool_destroy.Code as code
use Rattle.rlsf_pool_calls.specs.contracts.pool.finish as g
use Rattle.rlsf_pool_calls.proofs.pool.finish.Met.{met}

pub rlsf_pool_destroy_spec : {M : Type 1} → statement M
rlsf_pool_destroy_spec 𝓤 𝓛 𝓜 𝓡 wired =
    replaces 𝓛 𝓜 𝓡 (pool 𝓛) refl (λ before after. after ≡ ended) g.Key.name f.Key.name (met 𝓤 𝓛 𝓜 𝓡 (code.calls-rlsf_pool_calls::pool::finish 𝓡.env wired))
    (code.unfolded 𝓤 𝓛.H 𝓜 𝓡 wired)
