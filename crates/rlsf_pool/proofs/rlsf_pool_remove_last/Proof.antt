-- `rlsf_pool_remove_last` lends the pool behind the handle to `Pool::remove_last`, and takes it back.
use Rattle.rlsf_c_lemmas.proofs.Contracts.{changes, number}
use Rattle.rlsf_c_lemmas.proofs.Exports.{exports0}
use Rattle.rlsf_pool_calls.specs.Calls.{RemovesLast}
use Rattle.rlsf_pool_calls.specs.Seen.{seen}
use Rattle.rlsf_pool.specs.contracts.rlsf_pool_remove_last as f
use Rattle.rlsf_pool.proofs.rlsf_pool_remove_last.Statement.{statement}
use Rattle.rlsf_pool.proofs.rlsf_pool_remove_last.Code as code
use Rattle.rlsf_pool_calls.specs.contracts.pool.Pool.{the_row}
use Rattle.rlsf_pool_calls.specs.contracts.pool.Pool.remove_last as g
use Rattle.rlsf_pool_calls.proofs.pool.Pool.remove_last.Met.{met}

pub rlsf_pool_remove_last_spec : {M : Type 1} → statement M
rlsf_pool_remove_last_spec 𝓤 𝓛 𝓜 𝓡 wired =
    exports0 𝓛 𝓜 𝓡 the_row (number 𝓛) (changes (λ before x e r after. RemovesLast (seen before) r (seen after))) g.Key.name f.Key.name
    (met 𝓤 𝓛 𝓜 𝓡 (code.calls-rlsf_pool_calls::pool::Pool::remove_last 𝓡.env wired)) (code.unfolded 𝓤 𝓛.H 𝓜 𝓡 wired)
