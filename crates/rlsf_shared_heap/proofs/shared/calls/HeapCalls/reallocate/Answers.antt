use Rattle.rlsf_shared_heap.proofs.Replies.{reallocation_of}
use Rattle.rlsf_shared_heap.proofs.shared.calls.HeapCalls.reallocate.Goals as goal

pub returns-clause-reply : goal.returns-clause-reply
returns-clause-reply g c =
    let did = c.reallocate.ensures in
    reallocation_of c.args.self.now c.reallocate.new.self c.args.payload c.args.size c.reallocate.result did.result did.refused
