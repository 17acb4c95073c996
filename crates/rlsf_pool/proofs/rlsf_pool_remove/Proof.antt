-- `rlsf_pool_remove` lends the pool behind the handle to `Pool::remove`, and takes it back.
use Rattle.rlsf_c_lemmas.proofs.Contracts.{changes, number}
use Rattle.rlsf_c_lemmas.proofs.Exports.{exports2}
use Rattle.rlsf_base.specs.Range.{range_at}
use Rattle.rlsf_pool_calls.specs.Calls.{RemovesRange}
use Rattle.rlsf_pool_calls.specs.Seen.{seen}
use Rattle.rlsf_pool.specs.contracts.rlsf_pool_remove as f
use Rattle.rlsf_pool.proofs.rlsf_pool_remove.Statement.{statement}
use Rattle.rlsf_pool.proofs.rlsf_pool_remove.Code as code
use Rattle.rlsf_pool_calls.specs.contracts.pool.Pool.{the_row}
use Rattle.rlsf_pool_calls.specs.contracts.pool.Pool.remove as g
use Rattle.rlsf_pool_calls.proofs.pool.Pool.remove.Met.{met}

pub rlsf_pool_remove_spec : {M : Type 1} → statement M
rlsf_pool_remove_spec 𝓤 𝓛 𝓜 𝓡 wired =
    exports2 𝓛 𝓜 𝓡 the_row (number 𝓛) (changes (λ before x e r after. RemovesRange (seen before) (range_at x.0 x.1.0) r (seen after))) g.Key.name f.Key.name
    (met 𝓤 𝓛 𝓜 𝓡 (code.calls-rlsf_pool_calls::pool::Pool::remove 𝓡.env wired)) (code.unfolded 𝓤 𝓛.H 𝓜 𝓡 wired)
