-- `rlsf_large_check`, by the template of its shape.
use Rattle.rlsf_malloc.proofs.Exports.{checks}
use Rattle.rlsf_malloc.proofs.HeapKinds.{large}
use Rattle.rlsf_malloc.proofs.large_exports.rlsf_large_check.Statement.{statement}
use Rattle.rlsf_malloc.proofs.large_exports.rlsf_large_check.Code as code

pub rlsf_large_check_spec : {M : Type 1} → statement M
rlsf_large_check_spec 𝓤 𝓛 𝓜 𝓡 wired = checks large 𝓤 𝓛 𝓜 𝓡 (code.calls-rlsf_malloc_calls::pools::check_in 𝓡.env wired) _ _ _ (code.unfolded 𝓤 𝓛.H 𝓜 𝓡 wired)
