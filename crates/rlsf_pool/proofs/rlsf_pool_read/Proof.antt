-- `rlsf_pool_read` lends the pool behind the handle to `Pool::read`, passes on where the bytes go, and takes the pool back.
use Rattle.std.proofs.Common.{◌≡◌}
use denote.Builtin.{u8}
use Rattle.rlsf_c_lemmas.proofs.Contracts.{changes, number}
use Rattle.rlsf_c_lemmas.proofs.Exports.{exports_mutable2}
use Rattle.rlsf_pool_calls.specs.Calls.{Reads}
use Rattle.rlsf_pool_calls.specs.Seen.{seen}
use Rattle.rlsf_pool.specs.contracts.rlsf_pool_read as f
use Rattle.rlsf_pool.proofs.rlsf_pool_read.Statement.{statement}
use Rattle.rlsf_pool.proofs.rlsf_pool_read.Code as code
use Rattle.rlsf_pool_calls.specs.contracts.pool.Pool.{the_row}
use Rattle.rlsf_pool_calls.specs.contracts.pool.Pool.read as g
use Rattle.rlsf_pool_calls.proofs.pool.Pool.read.Met.{met}

pub rlsf_pool_read_spec : {M : Type 1} → statement M
rlsf_pool_read_spec 𝓤 𝓛 𝓜 𝓡 wired =
    exports_mutable2 𝓛 𝓜 𝓡 the_row (number 𝓛) u8 (changes (λ before x e r after. Reads (seen before) x.0 x.1.0 x.1.1.now r e × (after ≡ before))) g.Key.name f.Key.name
    (met 𝓤 𝓛 𝓜 𝓡 (code.calls-rlsf_pool_calls::pool::Pool::read 𝓡.env wired)) (code.unfolded 𝓤 𝓛.H 𝓜 𝓡 wired)
