-- `rlsf_offsets_allocate` lends the space behind the handle to `OffsetSpace::allocate`, and takes it back.
use Rattle.rlsf_c_lemmas.proofs.Contracts.{changes}
use Rattle.rlsf_c_lemmas.proofs.Exports.{exports2}
use Rattle.rlsf_pool.proofs.Results.{answer}
use Rattle.rlsf_pool_calls.specs.Spaces.{AllocatesIn}
use Rattle.rlsf_pool.specs.contracts.offsets.rlsf_offsets_allocate as f
use Rattle.rlsf_pool.proofs.offsets.rlsf_offsets_allocate.Statement.{statement}
use Rattle.rlsf_pool.proofs.offsets.rlsf_offsets_allocate.Code as code
use Rattle.rlsf_pool_calls.specs.contracts.space.OffsetSpace.{the_row}
use Rattle.rlsf_pool_calls.specs.contracts.space.OffsetSpace.allocate as g
use Rattle.rlsf_pool_calls.proofs.space.OffsetSpace.allocate.Met.{met}

pub rlsf_offsets_allocate_spec : {M : Type 1} → statement M
rlsf_offsets_allocate_spec 𝓤 𝓛 𝓜 𝓡 wired =
    exports2 𝓛 𝓜 𝓡 the_row (answer 𝓛) (changes (λ before x e r after. AllocatesIn before x.0 x.1.0 r after)) g.Key.name f.Key.name
    (met 𝓤 𝓛 𝓜 𝓡 (code.calls-rlsf_pool_calls::space::OffsetSpace::allocate 𝓡.env wired)) (code.unfolded 𝓤 𝓛.H 𝓜 𝓡 wired)
