-- The ranges may move to another thread.
use denote.Param.Send.{IsSend}
use Rattle.rlsf_flex.proofs.SendAndSync.{GhostRanges-send}
use Rattle.rlsf_flex.specs.contracts.ranges.GhostRanges.{the_row}

pub send : IsSend the_row
send = GhostRanges-send
