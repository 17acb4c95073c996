-- The state may move to another thread.
use denote.Param.Send.{IsSend}
use Rattle.rlsf_tlsf.proofs.SendAndSync.{GhostState-send}
use Rattle.rlsf_tlsf.specs.contracts.state.GhostState.{the_row}

pub send : IsSend the_row
send = GhostState-send
