-- `rlsf_large_8_add`, by the template of its shape.
use Rattle.rlsf_malloc.proofs.Exports.{adds}
use Rattle.rlsf_malloc.proofs.HeapKinds.{large_8}
use Rattle.rlsf_malloc.proofs.large_8_exports.rlsf_large_8_add.Statement.{statement}
use Rattle.rlsf_malloc.proofs.large_8_exports.rlsf_large_8_add.Code as code

pub rlsf_large_8_add_spec : {M : Type 1} → statement M
rlsf_large_8_add_spec 𝓤 𝓛 𝓜 𝓡 wired = adds large_8 𝓤 𝓛 𝓜 𝓡 (code.calls-rlsf_heap::loan::Loan::from_raw 𝓡.env wired)
    (code.calls-rlsf_malloc_calls::calls::add 𝓡.env wired) (code.calls-rlsf_malloc_calls::replies::Lending::into_raw 𝓡.env wired) _ _ _ (code.unfolded 𝓤 𝓛.H 𝓜 𝓡 wired)
