use Rattle.rlsf_global.proofs.RowsBelow.{live-few}
use Rattle.rlsf_global.proofs.live_table.LiveTable.len.Goals as goal

pub returns-clause-few : goal.returns-clause-few
returns-clause-few c = live-few c.self.inside.codes c.self.inside.entries.rows c.self.inside.live c.self.invariant
