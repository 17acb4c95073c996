-- `rlsf_large_32_remove`, by the template of its shape.
use Rattle.rlsf_malloc.proofs.Exports.{removes}
use Rattle.rlsf_malloc.proofs.HeapKinds.{large_32}
use Rattle.rlsf_malloc.proofs.large_32_exports.rlsf_large_32_remove.Statement.{statement}
use Rattle.rlsf_malloc.proofs.large_32_exports.rlsf_large_32_remove.Code as code

pub rlsf_large_32_remove_spec : {M : Type 1} → statement M
rlsf_large_32_remove_spec 𝓤 𝓛 𝓜 𝓡 wired = removes large_32 𝓤 𝓛 𝓜 𝓡 (code.calls-rlsf_heap::loan::Loan::from_raw 𝓡.env wired)
    (code.calls-rlsf_malloc_calls::pools::remove_in 𝓡.env wired) (code.calls-rlsf_malloc_calls::replies::Lending::into_raw 𝓡.env wired) _ _ _ (code.unfolded 𝓤 𝓛.H 𝓜 𝓡 wired)
