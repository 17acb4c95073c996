use Rattle.std.proofs.Common.{arith}
use Rattle.rlsf_table.proofs.Tables.Rows.{first-few, first-many}
use Rattle.rlsf_table.proofs.rows.Rows.first.Goals as goal

pub returns-then-this-le64 : goal.returns-then-this-le64
returns-then-this-le64 g c = first-few g.row.PLACES c.args.self.now.low c.args.self.now.high c.args.fl c.if-this-le64.true (omega arith)

pub returns-else-this-le64 : goal.returns-else-this-le64
returns-else-this-le64 g c = first-many g.row.PLACES c.args.self.now.low c.args.self.now.high c.args.fl c.if-this-le64.false c.both.result c.both.ensures c.both.type_inv
