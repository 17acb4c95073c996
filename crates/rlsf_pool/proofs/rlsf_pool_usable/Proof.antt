-- `rlsf_pool_usable` lends the pool behind the handle to `Pool::usable`, and takes it back.
use Rattle.std.proofs.Common.{◌≡◌}
use Rattle.rlsf_c_lemmas.proofs.Contracts.{changes}
use Rattle.rlsf_c_lemmas.proofs.Exports.{exports1}
use Rattle.rlsf_pool.proofs.Results.{answer}
use Rattle.rlsf_pool_calls.specs.Calls.{Tells}
use Rattle.rlsf_pool_calls.specs.Seen.{seen}
use Rattle.rlsf_pool.specs.contracts.rlsf_pool_usable as f
use Rattle.rlsf_pool.proofs.rlsf_pool_usable.Statement.{statement}
use Rattle.rlsf_pool.proofs.rlsf_pool_usable.Code as code
use Rattle.rlsf_pool_calls.specs.contracts.pool.Pool.{the_row}
use Rattle.rlsf_pool_calls.specs.contracts.pool.Pool.usable as g
use Rattle.rlsf_pool_calls.proofs.pool.Pool.usable.Met.{met}

pub rlsf_pool_usable_spec : {M : Type 1} → statement M
rlsf_pool_usable_spec 𝓤 𝓛 𝓜 𝓡 wired =
    exports1 𝓛 𝓜 𝓡 the_row (answer 𝓛) (changes (λ before x e r after. Tells (seen before) x.0 r × (after ≡ before))) g.Key.name f.Key.name
    (met 𝓤 𝓛 𝓜 𝓡 (code.calls-rlsf_pool_calls::pool::Pool::usable 𝓡.env wired)) (code.unfolded 𝓤 𝓛.H 𝓜 𝓡 wired)
