-- `rlsf_pool_stats` lends the pool behind the handle to `Pool::stats`, and takes it back.
use Rattle.std.proofs.Common.{◌≡◌}
use Rattle.rlsf_c_lemmas.proofs.Contracts.{changes}
use Rattle.rlsf_c_lemmas.proofs.Exports.{exports0}
use Rattle.rlsf_pool.proofs.Results.{totals}
use Rattle.rlsf_pool_calls.specs.Walks.{IsSummary}
use Rattle.rlsf_pool_calls.specs.Seen.{seen}
use Rattle.rlsf_pool.specs.contracts.rlsf_pool_stats as f
use Rattle.rlsf_pool.proofs.rlsf_pool_stats.Statement.{statement}
use Rattle.rlsf_pool.proofs.rlsf_pool_stats.Code as code
use Rattle.rlsf_pool_calls.specs.contracts.pool.Pool.{the_row}
use Rattle.rlsf_pool_calls.specs.contracts.pool.Pool.stats as g
use Rattle.rlsf_pool_calls.proofs.pool.Pool.stats.Met.{met}

pub rlsf_pool_stats_spec : {M : Type 1} → statement M
rlsf_pool_stats_spec 𝓤 𝓛 𝓜 𝓡 wired =
    exports0 𝓛 𝓜 𝓡 the_row (totals 𝓛) (changes (λ before x e r after. IsSummary (seen before) r × (after ≡ before))) g.Key.name f.Key.name
    (met 𝓤 𝓛 𝓜 𝓡 (code.calls-rlsf_pool_calls::pool::Pool::stats 𝓡.env wired)) (code.unfolded 𝓤 𝓛.H 𝓜 𝓡 wired)
