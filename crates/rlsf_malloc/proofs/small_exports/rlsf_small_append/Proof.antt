-- `rlsf_small_append`, by the template of its shape.
use Rattle.rlsf_malloc.proofs.Exports.{appends}
use Rattle.rlsf_malloc.proofs.HeapKinds.{small}
use Rattle.rlsf_malloc.proofs.small_exports.rlsf_small_append.Statement.{statement}
use Rattle.rlsf_malloc.proofs.small_exports.rlsf_small_append.Code as code

pub rlsf_small_append_spec : {M : Type 1} → statement M
rlsf_small_append_spec 𝓤 𝓛 𝓜 𝓡 wired = appends small 𝓤 𝓛 𝓜 𝓡 (code.calls-rlsf_heap::loan::Loan::from_raw 𝓡.env wired)
    (code.calls-rlsf_malloc_calls::calls::append 𝓡.env wired) (code.calls-rlsf_malloc_calls::replies::Lending::into_raw 𝓡.env wired) _ _ _ (code.unfolded 𝓤 𝓛.H 𝓜 𝓡 wired)
