-- A `&` to the state may go to another thread.
use denote.Param.Send.{IsSync}
use Rattle.rlsf_tlsf.proofs.SendAndSync.{GhostState-sync}
use Rattle.rlsf_tlsf.specs.contracts.state.GhostState.{the_row}

pub sync : IsSync the_row
sync = GhostState-sync
