-- `rlsf_pool_write` lends the pool behind the handle to `Pool::write`, passes the bytes on, and takes the pool back.
use denote.Builtin.{u8}
use Rattle.rlsf_c_lemmas.proofs.Contracts.{changes, number}
use Rattle.rlsf_c_lemmas.proofs.Exports.{exports_shared2}
use Rattle.rlsf_pool_calls.specs.Calls.{PoolWrites}
use Rattle.rlsf_pool_calls.specs.Seen.{seen}
use Rattle.rlsf_pool.specs.contracts.rlsf_pool_write as f
use Rattle.rlsf_pool.proofs.rlsf_pool_write.Statement.{statement}
use Rattle.rlsf_pool.proofs.rlsf_pool_write.Code as code
use Rattle.rlsf_pool_calls.specs.contracts.pool.Pool.{the_row}
use Rattle.rlsf_pool_calls.specs.contracts.pool.Pool.write as g
use Rattle.rlsf_pool_calls.proofs.pool.Pool.write.Met.{met}

pub rlsf_pool_write_spec : {M : Type 1} → statement M
rlsf_pool_write_spec 𝓤 𝓛 𝓜 𝓡 wired =
    exports_shared2 𝓛 𝓜 𝓡 the_row (number 𝓛) u8 (changes (λ before x e r after. PoolWrites (seen before) x.0 x.1.0 x.1.1.now r (seen after))) g.Key.name f.Key.name
    (met 𝓤 𝓛 𝓜 𝓡 (code.calls-rlsf_pool_calls::pool::Pool::write 𝓡.env wired)) (code.unfolded 𝓤 𝓛.H 𝓜 𝓡 wired)
