-- `rlsf_large_allocate_zeroed`, by the template of its shape.
use Rattle.rlsf_malloc.proofs.Exports.{allocates_zeroed}
use Rattle.rlsf_malloc.proofs.HeapKinds.{large}
use Rattle.rlsf_malloc.proofs.large_exports.rlsf_large_allocate_zeroed.Statement.{statement}
use Rattle.rlsf_malloc.proofs.large_exports.rlsf_large_allocate_zeroed.Code as code

pub rlsf_large_allocate_zeroed_spec : {M : Type 1} → statement M
rlsf_large_allocate_zeroed_spec 𝓤 𝓛 𝓜 𝓡 wired = allocates_zeroed large 𝓤 𝓛 𝓜 𝓡 (code.calls-rlsf_malloc_calls::calls::allocate_zeroed 𝓡.env wired)
    (code.calls-rlsf_heap::thin::ThinPayload::into_raw 𝓡.env wired) _ _ _ (code.unfolded 𝓤 𝓛.H 𝓜 𝓡 wired)
