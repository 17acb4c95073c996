-- `rlsf_offsets_len` lends the space behind the handle to `OffsetSpace::len`, and takes it back.
use Rattle.std.proofs.Common.{◌≡◌}
use Rattle.rlsf_c_lemmas.proofs.Contracts.{changes}
use Rattle.rlsf_c_lemmas.proofs.Exports.{exports1}
use Rattle.rlsf_pool.proofs.Results.{answer}
use Rattle.rlsf_pool_calls.specs.Spaces.{TellsIn}
use Rattle.rlsf_pool.specs.contracts.offsets.rlsf_offsets_len as f
use Rattle.rlsf_pool.proofs.offsets.rlsf_offsets_len.Statement.{statement}
use Rattle.rlsf_pool.proofs.offsets.rlsf_offsets_len.Code as code
use Rattle.rlsf_pool_calls.specs.contracts.space.OffsetSpace.{the_row}
use Rattle.rlsf_pool_calls.specs.contracts.space.OffsetSpace.len as g
use Rattle.rlsf_pool_calls.proofs.space.OffsetSpace.len.Met.{met}

pub rlsf_offsets_len_spec : {M : Type 1} → statement M
rlsf_offsets_len_spec 𝓤 𝓛 𝓜 𝓡 wired =
    exports1 𝓛 𝓜 𝓡 the_row (answer 𝓛) (changes (λ before x e r after. TellsIn before x.0 r × (after ≡ before))) g.Key.name f.Key.name
    (met 𝓤 𝓛 𝓜 𝓡 (code.calls-rlsf_pool_calls::space::OffsetSpace::len 𝓡.env wired)) (code.unfolded 𝓤 𝓛.H 𝓜 𝓡 wired)
