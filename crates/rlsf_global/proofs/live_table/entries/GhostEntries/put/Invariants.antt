use Rattle.rlsf_global.proofs.RowNumbers.{put_from}
use Rattle.rlsf_global.proofs.live_table.entries.GhostEntries.put.Given as goal

abbrev pub ghost-advance : goal.ghost-advance
ghost-advance a = put_from
