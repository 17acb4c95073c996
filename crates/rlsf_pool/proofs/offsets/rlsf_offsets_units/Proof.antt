-- `rlsf_offsets_units` lends the space behind the handle to `OffsetSpace::units`, and takes it back.
use Rattle.std.proofs.Common.{◌≡◌}
use Rattle.rlsf_c_lemmas.proofs.Contracts.{changes, number}
use Rattle.rlsf_c_lemmas.proofs.Exports.{exports0}
use Rattle.rlsf_pool_calls.specs.Spaces.{space_units}
use Rattle.rlsf_pool.specs.contracts.offsets.rlsf_offsets_units as f
use Rattle.rlsf_pool.proofs.offsets.rlsf_offsets_units.Statement.{statement}
use Rattle.rlsf_pool.proofs.offsets.rlsf_offsets_units.Code as code
use Rattle.rlsf_pool_calls.specs.contracts.space.OffsetSpace.{the_row}
use Rattle.rlsf_pool_calls.specs.contracts.space.OffsetSpace.units as g
use Rattle.rlsf_pool_calls.proofs.space.OffsetSpace.units.Met.{met}

pub rlsf_offsets_units_spec : {M : Type 1} → statement M
rlsf_offsets_units_spec 𝓤 𝓛 𝓜 𝓡 wired =
    exports0 𝓛 𝓜 𝓡 the_row (number 𝓛) (changes (λ before x e r after. (r ≡ space_units before) × (after ≡ before))) g.Key.name f.Key.name
    (met 𝓤 𝓛 𝓜 𝓡 (code.calls-rlsf_pool_calls::space::OffsetSpace::units 𝓡.env wired)) (code.unfolded 𝓤 𝓛.H 𝓜 𝓡 wired)
