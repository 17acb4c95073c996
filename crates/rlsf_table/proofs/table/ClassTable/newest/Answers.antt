-- Each row has a head for each class.
use Rattle.std.proofs.Common.{ap}
use Rattle.rlsf_table.specs.Table.{head_at}
use Rattle.rlsf_table.proofs.table.ClassTable.newest.Goals as goal

pub bounds-row-sl : goal.bounds-row-sl
bounds-row-sl g c = c.requires.1

pub returns : goal.returns
returns g c = ap (λ t. head_at t c.args.fl c.args.sl) c.self.view_is
