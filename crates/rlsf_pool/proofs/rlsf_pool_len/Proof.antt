-- `rlsf_pool_len` lends the pool behind the handle to `Pool::len`, and takes it back.
use Rattle.std.proofs.Common.{◌≡◌}
use Rattle.rlsf_c_lemmas.proofs.Contracts.{changes, number}
use Rattle.rlsf_c_lemmas.proofs.Exports.{exports0}
use Rattle.rlsf_pool_calls.specs.Seen.{seen}
use Rattle.rlsf_pool.specs.contracts.rlsf_pool_len as f
use Rattle.rlsf_pool.proofs.rlsf_pool_len.Statement.{statement}
use Rattle.rlsf_pool.proofs.rlsf_pool_len.Code as code
use Rattle.rlsf_pool_calls.specs.contracts.pool.Pool.{the_row}
use Rattle.rlsf_pool_calls.specs.contracts.pool.Pool.len as g
use Rattle.rlsf_pool_calls.proofs.pool.Pool.len.Met.{met}

pub rlsf_pool_len_spec : {M : Type 1} → statement M
rlsf_pool_len_spec 𝓤 𝓛 𝓜 𝓡 wired =
    exports0 𝓛 𝓜 𝓡 the_row (number 𝓛) (changes (λ before x e r after. (r ≡ (seen before).memory.len) × (after ≡ before))) g.Key.name f.Key.name
    (met 𝓤 𝓛 𝓜 𝓡 (code.calls-rlsf_pool_calls::pool::Pool::len 𝓡.env wired)) (code.unfolded 𝓤 𝓛.H 𝓜 𝓡 wired)
