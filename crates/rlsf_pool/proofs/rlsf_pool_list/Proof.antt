-- `rlsf_pool_list` lends the pool behind the handle to `Pool::list`, passes on where the bytes go, and takes the pool back.
use Rattle.std.proofs.Common.{◌≡◌}
use denote.Builtin.{usize}
use Rattle.rlsf_c_lemmas.proofs.Contracts.{changes, number}
use Rattle.rlsf_c_lemmas.proofs.Exports.{exports_mutable1}
use Rattle.rlsf_pool_calls.specs.Walks.{IsPoolListing}
use Rattle.rlsf_pool_calls.specs.Seen.{seen}
use Rattle.rlsf_pool.specs.contracts.rlsf_pool_list as f
use Rattle.rlsf_pool.proofs.rlsf_pool_list.Statement.{statement}
use Rattle.rlsf_pool.proofs.rlsf_pool_list.Code as code
use Rattle.rlsf_pool_calls.specs.contracts.pool.Pool.{the_row}
use Rattle.rlsf_pool_calls.specs.contracts.pool.Pool.list as g
use Rattle.rlsf_pool_calls.proofs.pool.Pool.list.Met.{met}

pub rlsf_pool_list_spec : {M : Type 1} → statement M
rlsf_pool_list_spec 𝓤 𝓛 𝓜 𝓡 wired =
    exports_mutable1 𝓛 𝓜 𝓡 the_row (number 𝓛) usize (changes (λ before x e r after. IsPoolListing (seen before) x.0 x.1.now r e × (after ≡ before))) g.Key.name f.Key.name
    (met 𝓤 𝓛 𝓜 𝓡 (code.calls-rlsf_pool_calls::pool::Pool::list 𝓡.env wired)) (code.unfolded 𝓤 𝓛.H 𝓜 𝓡 wired)
