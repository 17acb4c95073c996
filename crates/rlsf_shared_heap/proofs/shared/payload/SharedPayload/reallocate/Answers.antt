use Rattle.std.proofs.Common.{rules}
use Rattle.rlsf_shared_heap.proofs.shared.payload.SharedPayload.reallocate.Goals as goal

-- one search, so that a mutation's refusal offers none
pub invariant_of-result : goal.invariant_of-result
invariant_of-result g c = search rules
