-- `rlsf_small_list`, by the template of its shape.
use Rattle.rlsf_malloc.proofs.Exports.{lists}
use Rattle.rlsf_malloc.proofs.HeapKinds.{small}
use Rattle.rlsf_malloc.proofs.small_exports.rlsf_small_list.Statement.{statement}
use Rattle.rlsf_malloc.proofs.small_exports.rlsf_small_list.Code as code

pub rlsf_small_list_spec : {M : Type 1} → statement M
rlsf_small_list_spec 𝓤 𝓛 𝓜 𝓡 wired = lists small 𝓤 𝓛 𝓜 𝓡 (code.calls-rlsf_malloc_calls::pools::list_in 𝓡.env wired) _ _ _ (code.unfolded 𝓤 𝓛.H 𝓜 𝓡 wired)
