use Rattle.rlsf_model_global.specs.Rows.{without_row}
use Rattle.rlsf_global.proofs.live_table.entries.GhostEntries.remove.Given as goal

abbrev pub ghost-advance : goal.ghost-advance
ghost-advance a = λ x y z. without_row x
