-- `rlsf_pool_insert` lends the pool behind the handle to `Pool::insert`, and takes it back.
use Rattle.rlsf_c_lemmas.proofs.Contracts.{changes}
use Rattle.rlsf_c_lemmas.proofs.Exports.{exports2}
use Rattle.rlsf_base.specs.Range.{range_at}
use Rattle.rlsf_pool.proofs.Results.{answer}
use Rattle.rlsf_pool_calls.specs.Calls.{PoolInserts}
use Rattle.rlsf_pool_calls.specs.Seen.{insert_result, seen}
use Rattle.rlsf_pool.specs.contracts.rlsf_pool_insert as f
use Rattle.rlsf_pool.proofs.rlsf_pool_insert.Statement.{statement}
use Rattle.rlsf_pool.proofs.rlsf_pool_insert.Code as code
use Rattle.rlsf_pool_calls.specs.contracts.pool.Pool.{the_row}
use Rattle.rlsf_pool_calls.specs.contracts.pool.Pool.insert as g
use Rattle.rlsf_pool_calls.proofs.pool.Pool.insert.Met.{met}

pub rlsf_pool_insert_spec : {M : Type 1} → statement M
rlsf_pool_insert_spec 𝓤 𝓛 𝓜 𝓡 wired =
    exports2 𝓛 𝓜 𝓡 the_row (answer 𝓛) (changes (λ v x e r w. PoolInserts (insert_result v (range_at x.0 x.1.0)) (seen v) (range_at x.0 x.1.0) r (seen w))) g.Key.name f.Key.name
    (met 𝓤 𝓛 𝓜 𝓡 (code.calls-rlsf_pool_calls::pool::Pool::insert 𝓡.env wired)) (code.unfolded 𝓤 𝓛.H 𝓜 𝓡 wired)
