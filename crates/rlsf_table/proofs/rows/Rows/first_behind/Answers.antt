use Rattle.std.proofs.Common.{arith}
use Rattle.rlsf_table.proofs.Tables.Rows.{behind-few, behind-few_none}
use Rattle.rlsf_table.proofs.rows.Rows.first_behind.Goals as goal

pub returns-then-places-ne0 : goal.returns-then-places-ne0
returns-then-places-ne0 g c = behind-few g.row.PLACES c.args.self.now.low c.args.self.now.high c.args.fl (omega arith) (omega arith) c.args.place (omega arith)
    c.if-places-ne0.true

pub returns-else-places-ne0 : goal.returns-else-places-ne0
returns-else-places-ne0 g c =
    behind-few_none g.row.PLACES c.args.self.now.low c.args.self.now.high c.args.fl (omega arith) (omega arith) c.args.place (omega arith) c.if-places-ne0.false
