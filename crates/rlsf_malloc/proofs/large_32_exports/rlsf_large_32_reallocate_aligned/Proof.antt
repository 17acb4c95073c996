-- `rlsf_large_32_reallocate_aligned`, by the template of its shape.
use Rattle.rlsf_malloc.proofs.Exports.{reallocates_aligned}
use Rattle.rlsf_malloc.proofs.HeapKinds.{large_32}
use Rattle.rlsf_malloc.proofs.large_32_exports.rlsf_large_32_reallocate_aligned.Statement.{statement}
use Rattle.rlsf_malloc.proofs.large_32_exports.rlsf_large_32_reallocate_aligned.Code as code

pub rlsf_large_32_reallocate_aligned_spec : {M : Type 1} → statement M
rlsf_large_32_reallocate_aligned_spec 𝓤 𝓛 𝓜 𝓡 wired = reallocates_aligned large_32 𝓤 𝓛 𝓜 𝓡 (code.calls-rlsf_heap::thin::ThinPayload::from_raw 𝓡.env wired)
    (code.calls-rlsf_malloc_calls::resizing::resize_aligned 𝓡.env wired) (code.calls-rlsf_malloc_calls::replies::Reply::into_raw 𝓡.env wired) _ _ _
    (code.unfolded 𝓤 𝓛.H 𝓜 𝓡 wired)
