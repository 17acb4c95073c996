-- `rlsf_large_32_stats`, by the template of its shape.
use Rattle.rlsf_malloc.proofs.Exports.{totals}
use Rattle.rlsf_malloc.proofs.HeapKinds.{large_32}
use Rattle.rlsf_malloc.proofs.large_32_exports.rlsf_large_32_stats.Statement.{statement}
use Rattle.rlsf_malloc.proofs.large_32_exports.rlsf_large_32_stats.Code as code

pub rlsf_large_32_stats_spec : {M : Type 1} → statement M
rlsf_large_32_stats_spec 𝓤 𝓛 𝓜 𝓡 wired = totals large_32 𝓤 𝓛 𝓜 𝓡 (code.calls-rlsf_malloc_calls::pools::totals_in 𝓡.env wired) _ _ _ (code.unfolded 𝓤 𝓛.H 𝓜 𝓡 wired)
