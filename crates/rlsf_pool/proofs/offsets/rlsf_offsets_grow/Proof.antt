-- `rlsf_offsets_grow` lends the space behind the handle to `OffsetSpace::grow`, and takes it back.
use Rattle.rlsf_c_lemmas.proofs.Contracts.{changes, number}
use Rattle.rlsf_c_lemmas.proofs.Exports.{exports1}
use Rattle.rlsf_pool_calls.specs.Spaces.{GrowsIn}
use Rattle.rlsf_pool.specs.contracts.offsets.rlsf_offsets_grow as f
use Rattle.rlsf_pool.proofs.offsets.rlsf_offsets_grow.Statement.{statement}
use Rattle.rlsf_pool.proofs.offsets.rlsf_offsets_grow.Code as code
use Rattle.rlsf_pool_calls.specs.contracts.space.OffsetSpace.{the_row}
use Rattle.rlsf_pool_calls.specs.contracts.space.OffsetSpace.grow as g
use Rattle.rlsf_pool_calls.proofs.space.OffsetSpace.grow.Met.{met}

pub rlsf_offsets_grow_spec : {M : Type 1} → statement M
rlsf_offsets_grow_spec 𝓤 𝓛 𝓜 𝓡 wired =
    exports1 𝓛 𝓜 𝓡 the_row (number 𝓛) (changes (λ before x e r after. GrowsIn before x.0 r after)) g.Key.name f.Key.name
    (met 𝓤 𝓛 𝓜 𝓡 (code.calls-rlsf_pool_calls::space::OffsetSpace::grow 𝓡.env wired)) (code.unfolded 𝓤 𝓛.H 𝓜 𝓡 wired)
