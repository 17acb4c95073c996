-- `rlsf_large_8_reallocate_in_place`, by the template of its shape.
use Rattle.rlsf_malloc.proofs.Exports.{reallocates_in_place}
use Rattle.rlsf_malloc.proofs.HeapKinds.{large_8}
use Rattle.rlsf_malloc.proofs.large_8_exports.rlsf_large_8_reallocate_in_place.Statement.{statement}
use Rattle.rlsf_malloc.proofs.large_8_exports.rlsf_large_8_reallocate_in_place.Code as code

pub rlsf_large_8_reallocate_in_place_spec : {M : Type 1} → statement M
rlsf_large_8_reallocate_in_place_spec 𝓤 𝓛 𝓜 𝓡 wired = reallocates_in_place large_8 𝓤 𝓛 𝓜 𝓡 (code.calls-rlsf_heap::thin::ThinPayload::from_raw 𝓡.env wired)
    (code.calls-rlsf_malloc_calls::resizing::resize_in_place 𝓡.env wired) (code.calls-rlsf_malloc_calls::replies::Reply::into_raw 𝓡.env wired) _ _ _
    (code.unfolded 𝓤 𝓛.H 𝓜 𝓡 wired)
