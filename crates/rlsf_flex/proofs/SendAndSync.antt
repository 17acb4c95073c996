-- The ghost ranges may cross threads.
use denote.Struct.Struct.{exits_of}
use denote.Struct.Owning.{shape, fields, to}
use denote.Param.Send.{IsSend, IsSync, AllSend, part_keyless, owning_send, struct_send}
use Rattle.std_alloc.proofs.SendSync.{quiet}
use Rattle.rlsf_flex.specs.contracts.ranges.GhostRanges as GhostRanges

pub GhostRanges-send : IsSend GhostRanges.the_row
GhostRanges-send =
    let O = GhostRanges.the_type in let all : AllSend (fields O) = tt in
    owning_send O all (λ d. tt) (λ k. quiet (to O) (exits_of k (fields O)) ((struct_send (shape O) all).leaving k))

pub GhostRanges-sync : IsSync GhostRanges.the_row
GhostRanges-sync = record { shared = λ d b o κ q. part_keyless GhostRanges.the_row GhostRanges-send q d b o }
