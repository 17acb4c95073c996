-- `rlsf_large_8_malloc`, by the template of its shape.
use Rattle.rlsf_malloc.proofs.Exports.{mallocs}
use Rattle.rlsf_malloc.proofs.HeapKinds.{large_8}
use Rattle.rlsf_malloc.proofs.large_8_exports.rlsf_large_8_malloc.Statement.{statement}
use Rattle.rlsf_malloc.proofs.large_8_exports.rlsf_large_8_malloc.Code as code

pub rlsf_large_8_malloc_spec : {M : Type 1} → statement M
rlsf_large_8_malloc_spec 𝓤 𝓛 𝓜 𝓡 wired = mallocs large_8 𝓤 𝓛 𝓜 𝓡 (code.calls-rlsf_malloc_calls::calls::malloc 𝓡.env wired)
    (code.calls-rlsf_heap::thin::ThinPayload::into_raw 𝓡.env wired) _ _ _ (code.unfolded 𝓤 𝓛.H 𝓜 𝓡 wired)
