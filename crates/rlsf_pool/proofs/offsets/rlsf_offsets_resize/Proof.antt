-- `rlsf_offsets_resize` lends the space behind the handle to `OffsetSpace::resize`, and takes it back.
use Rattle.rlsf_c_lemmas.proofs.Contracts.{changes, number}
use Rattle.rlsf_c_lemmas.proofs.Exports.{exports2}
use Rattle.rlsf_pool_calls.specs.Spaces.{ResizesIn}
use Rattle.rlsf_pool.specs.contracts.offsets.rlsf_offsets_resize as f
use Rattle.rlsf_pool.proofs.offsets.rlsf_offsets_resize.Statement.{statement}
use Rattle.rlsf_pool.proofs.offsets.rlsf_offsets_resize.Code as code
use Rattle.rlsf_pool_calls.specs.contracts.space.OffsetSpace.{the_row}
use Rattle.rlsf_pool_calls.specs.contracts.space.OffsetSpace.resize as g
use Rattle.rlsf_pool_calls.proofs.space.OffsetSpace.resize.Met.{met}

pub rlsf_offsets_resize_spec : {M : Type 1} → statement M
rlsf_offsets_resize_spec 𝓤 𝓛 𝓜 𝓡 wired =
    exports2 𝓛 𝓜 𝓡 the_row (number 𝓛) (changes (λ before x e r after. ResizesIn before x.0 x.1.0 r after)) g.Key.name f.Key.name
    (met 𝓤 𝓛 𝓜 𝓡 (code.calls-rlsf_pool_calls::space::OffsetSpace::resize 𝓡.env wired)) (code.unfolded 𝓤 𝓛.H 𝓜 𝓡 wired)
