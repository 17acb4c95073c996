-- `rlsf_large_free`, by the template of its shape.
use Rattle.rlsf_malloc.proofs.Exports.{frees}
use Rattle.rlsf_malloc.proofs.HeapKinds.{large}
use Rattle.rlsf_malloc.proofs.large_exports.rlsf_large_free.Statement.{statement}
use Rattle.rlsf_malloc.proofs.large_exports.rlsf_large_free.Code as code

pub rlsf_large_free_spec : {M : Type 1} → statement M
rlsf_large_free_spec 𝓤 𝓛 𝓜 𝓡 wired = frees large 𝓤 𝓛 𝓜 𝓡 (code.calls-rlsf_heap::thin::ThinPayload::from_raw 𝓡.env wired)
    (code.calls-rlsf_malloc_calls::calls::free 𝓡.env wired) _ _ _ (code.unfolded 𝓤 𝓛.H 𝓜 𝓡 wired)
