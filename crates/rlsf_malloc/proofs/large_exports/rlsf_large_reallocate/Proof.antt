-- `rlsf_large_reallocate`, by the template of its shape.
use Rattle.rlsf_malloc.proofs.Exports.{reallocates}
use Rattle.rlsf_malloc.proofs.HeapKinds.{large}
use Rattle.rlsf_malloc.proofs.large_exports.rlsf_large_reallocate.Statement.{statement}
use Rattle.rlsf_malloc.proofs.large_exports.rlsf_large_reallocate.Code as code

pub rlsf_large_reallocate_spec : {M : Type 1} → statement M
rlsf_large_reallocate_spec 𝓤 𝓛 𝓜 𝓡 wired = reallocates large 𝓤 𝓛 𝓜 𝓡 (code.calls-rlsf_heap::thin::ThinPayload::from_raw 𝓡.env wired)
    (code.calls-rlsf_malloc_calls::resizing::resize_any 𝓡.env wired) (code.calls-rlsf_malloc_calls::replies::Reply::into_raw 𝓡.env wired) _ _ _ (code.unfolded 𝓤 𝓛.H 𝓜 𝓡 wired)
