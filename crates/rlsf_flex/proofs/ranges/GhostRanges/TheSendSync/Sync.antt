-- A `&` to the ranges may go to another thread.
use denote.Param.Send.{IsSync}
use Rattle.rlsf_flex.proofs.SendAndSync.{GhostRanges-sync}
use Rattle.rlsf_flex.specs.contracts.ranges.GhostRanges.{the_row}

pub sync : IsSync the_row
sync = GhostRanges-sync
