-- `rlsf_large_allocate`, by the template of its shape.
use Rattle.rlsf_malloc.proofs.Exports.{allocates}
use Rattle.rlsf_malloc.proofs.HeapKinds.{large}
use Rattle.rlsf_malloc.proofs.large_exports.rlsf_large_allocate.Statement.{statement}
use Rattle.rlsf_malloc.proofs.large_exports.rlsf_large_allocate.Code as code

pub rlsf_large_allocate_spec : {M : Type 1} → statement M
rlsf_large_allocate_spec 𝓤 𝓛 𝓜 𝓡 wired = allocates large 𝓤 𝓛 𝓜 𝓡 (code.calls-rlsf_malloc_calls::calls::allocate 𝓡.env wired)
    (code.calls-rlsf_heap::thin::ThinPayload::into_raw 𝓡.env wired) _ _ _ (code.unfolded 𝓤 𝓛.H 𝓜 𝓡 wired)
