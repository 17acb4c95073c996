-- A `&` to it may go to another thread.
use denote.Param.Send.{IsSync, part_keyless}
use Rattle.rlsf_shared_heap.specs.contracts.shared.heap_identity.HeapIdentity.{the_row}
use Rattle.rlsf_shared_heap.proofs.shared.heap_identity.HeapIdentity.TheSendSync.Send.{send}

pub sync : IsSync the_row
sync = record { shared = λ d b o κ q. part_keyless the_row send q d b o }
