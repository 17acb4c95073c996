-- The ghost state may cross threads.
use denote.Struct.Struct.{exits_of}
use denote.Struct.Owning.{shape, fields, to}
use denote.Param.Send.{IsSend, IsSync, AllSend, part_keyless, owning_send, struct_send}
use Rattle.std_alloc.proofs.SendSync.{quiet}
use Rattle.rlsf_tlsf.specs.contracts.state.GhostState as GhostState

pub GhostState-send : IsSend GhostState.the_row
GhostState-send =
    let O = GhostState.the_type in let all : AllSend (fields O) = tt in
    owning_send O all (λ d. tt) (λ k. quiet (to O) (exits_of k (fields O)) ((struct_send (shape O) all).leaving k))

pub GhostState-sync : IsSync GhostState.the_row
GhostState-sync = record { shared = λ d b o κ q. part_keyless GhostState.the_row GhostState-send q d b o }
