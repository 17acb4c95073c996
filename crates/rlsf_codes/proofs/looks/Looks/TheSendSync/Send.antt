-- The count may move to another thread.
use denote.Param.Send.{IsSend, AllSend, owning_send, struct_send}
use denote.Struct.Struct.{exits_of}
use denote.Struct.Owning.{shape, fields, to}
use Rattle.std_alloc.proofs.SendSync.{quiet}
use Rattle.rlsf_codes.specs.contracts.looks.Looks as Looks

pub send : IsSend Looks.the_row
send =
    let O = Looks.the_type in let all : AllSend (fields O) = tt in
    owning_send O all (λ d. tt) (λ k. quiet (to O) (exits_of k (fields O)) ((struct_send (shape O) all).leaving k))
