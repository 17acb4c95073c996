-- A `&` to the count may go to another thread.
use denote.Param.Send.{IsSync, part_keyless}
use Rattle.rlsf_codes.specs.contracts.looks.Looks.{the_row}
use Rattle.rlsf_codes.proofs.looks.Looks.TheSendSync.Send.{send}

pub sync : IsSync the_row
sync = record { shared = λ d b o κ q. part_keyless the_row send q d b o }
