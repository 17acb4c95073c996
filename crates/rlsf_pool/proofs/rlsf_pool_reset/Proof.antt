-- `rlsf_pool_reset` takes the pool from behind the handle, and puts it back without payloads and ranges.
use Rattle.std.proofs.Common.{refl}
use Rattle.rlsf_c_lemmas.proofs.Replacing.{replaces}
use Rattle.rlsf_pool.proofs.Results.{pool}
use Rattle.rlsf_pool_calls.specs.Seen.{IsReset}
use Rattle.rlsf_pool.specs.contracts.rlsf_pool_reset as f
use Rattle.rlsf_pool.proofs.rlsf_pool_reset.Statement.{statement}
use Rattle.rlsf_pool.proofs.rlsf_pool_reset.Code as code
use Rattle.rlsf_pool_calls.specs.contracts.pool.reset as g
use Rattle.rlsf_pool_calls.proofs.pool.reset.Met.{met}

pub rlsf_pool_reset_spec : {M : Type 1} → statement M
rlsf_pool_reset_spec 𝓤 𝓛 𝓜 𝓡 wired =
    replaces 𝓛 𝓜 𝓡 (pool 𝓛) refl (λ before after. IsReset before after) g.Key.name f.Key.name (met 𝓤 𝓛 𝓜 𝓡 (code.calls-rlsf_pool_calls::pool::reset 𝓡.env wired))
    (code.unfolded 𝓤 𝓛.H 𝓜 𝓡 wired)
