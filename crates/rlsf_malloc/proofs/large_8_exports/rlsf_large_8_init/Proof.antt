-- `rlsf_large_8_init`, by the template of its shape.
use Rattle.rlsf_malloc.proofs.Exports.{begins}
use Rattle.rlsf_malloc.proofs.HeapKinds.{large_8}
use Rattle.rlsf_malloc.proofs.large_8_exports.rlsf_large_8_init.Statement.{statement}
use Rattle.rlsf_malloc.proofs.large_8_exports.rlsf_large_8_init.Code as code

pub rlsf_large_8_init_spec : {M : Type 1} → statement M
rlsf_large_8_init_spec 𝓤 𝓛 𝓜 𝓡 wired = begins large_8 𝓤 𝓛 𝓜 𝓡 (code.calls-rlsf_base::memory::open_memory::OpenMemory::over_addresses 𝓡.env wired)
    (code.calls-rlsf_malloc_calls::calls::over 𝓡.env wired) _ (code.unfolded 𝓤 𝓛.H 𝓜 𝓡 wired)
