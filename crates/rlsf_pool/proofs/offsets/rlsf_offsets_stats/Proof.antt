-- `rlsf_offsets_stats` lends the space behind the handle to `OffsetSpace::stats`, and takes it back.
use Rattle.std.proofs.Common.{◌≡◌}
use Rattle.rlsf_c_lemmas.proofs.Contracts.{changes}
use Rattle.rlsf_c_lemmas.proofs.Exports.{exports0}
use Rattle.rlsf_pool.proofs.Results.{totals}
use Rattle.rlsf_pool_calls.specs.Spaces.{TotalsIn}
use Rattle.rlsf_pool.specs.contracts.offsets.rlsf_offsets_stats as f
use Rattle.rlsf_pool.proofs.offsets.rlsf_offsets_stats.Statement.{statement}
use Rattle.rlsf_pool.proofs.offsets.rlsf_offsets_stats.Code as code
use Rattle.rlsf_pool_calls.specs.contracts.space.OffsetSpace.{the_row}
use Rattle.rlsf_pool_calls.specs.contracts.space.OffsetSpace.stats as g
use Rattle.rlsf_pool_calls.proofs.space.OffsetSpace.stats.Met.{met}

pub rlsf_offsets_stats_spec : {M : Type 1} → statement M
rlsf_offsets_stats_spec 𝓤 𝓛 𝓜 𝓡 wired =
    exports0 𝓛 𝓜 𝓡 the_row (totals 𝓛) (changes (λ before x e r after. TotalsIn before r × (after ≡ before))) g.Key.name f.Key.name
    (met 𝓤 𝓛 𝓜 𝓡 (code.calls-rlsf_pool_calls::space::OffsetSpace::stats 𝓡.env wired)) (code.unfolded 𝓤 𝓛.H 𝓜 𝓡 wired)
