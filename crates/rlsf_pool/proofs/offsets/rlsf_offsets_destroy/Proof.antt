-- `rlsf_offsets_destroy` takes the space from behind the handle, drops it, and puts an ended one there.
use Rattle.std.proofs.Common.{◌≡◌, refl}
use Rattle.rlsf_c_lemmas.proofs.Replacing.{replaces}
use Rattle.rlsf_pool.proofs.Results.{space}
use Rattle.rlsf_pool_calls.specs.Spaces.{ended_space}
use Rattle.rlsf_pool.specs.contracts.offsets.rlsf_offsets_destroy as f
use Rattle.rlsf_pool.proofs.offsets.rlsf_offsets_destroy.Statement.{statement}
use Rattle.rlsf_pool.proofs.offsets.rlsf_offsets_destroy.Code as code
use Rattle.rlsf_pool_calls.specs.contracts.space.finish as g
use Rattle.rlsf_pool_calls.proofs.space.finish.Met.{met}

pub rlsf_offsets_destroy_spec : {M : Type 1} → statement M
rlsf_offsets_destroy_spec 𝓤 𝓛 𝓜 𝓡 wired =
    replaces 𝓛 𝓜 𝓡 (space 𝓛) refl (λ before after. after ≡ ended_space) g.Key.name f.Key.name (met 𝓤 𝓛 𝓜 𝓡 (code.calls-rlsf_pool_calls::space::finish 𝓡.env wired))
    (code.unfolded 𝓤 𝓛.H 𝓜 𝓡 wired)
