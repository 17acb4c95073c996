-- `rlsf_large_end`, by the template of its shape.
use Rattle.rlsf_malloc.proofs.Exports.{ends}
use Rattle.rlsf_malloc.proofs.HeapKinds.{large}
use Rattle.rlsf_malloc.proofs.large_exports.rlsf_large_end.Statement.{statement}
use Rattle.rlsf_malloc.proofs.large_exports.rlsf_large_end.Code as code

pub rlsf_large_end_spec : {M : Type 1} → statement M
rlsf_large_end_spec 𝓤 𝓛 𝓜 𝓡 wired = ends large 𝓤 𝓛 𝓜 𝓡 (code.calls-rlsf_malloc_calls::calls::parts 𝓡.env wired)
    (code.calls-rlsf_base::memory::block::RawParts::release_lent 𝓡.env wired) _ (code.unfolded 𝓤 𝓛.H 𝓜 𝓡 wired)
