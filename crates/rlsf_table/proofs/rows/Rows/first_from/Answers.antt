use Rattle.std.proofs.Common.{arith}
use Rattle.rlsf_table.proofs.Tables.Rows.{CanBegin-word, first_from-few, first_from-few_none}
use Rattle.rlsf_table.proofs.rows.Rows.first_from.Goals as goal

pub returns-then-places-ne0 : goal.returns-then-places-ne0
returns-then-places-ne0 g c =
    first_from-few g.row.PLACES c.args.self.now.low c.args.self.now.high c.args.fl c.if-this-le64.true (omega arith) c.args.start
    (CanBegin-word g.row.PLACES c.args.start c.if-this-le64.true c.requires.1) c.if-places-ne0.true

pub returns-else-places-ne0 : goal.returns-else-places-ne0
returns-else-places-ne0 g c =
    first_from-few_none g.row.PLACES c.args.self.now.low c.args.self.now.high c.args.fl c.if-this-le64.true (omega arith) c.args.start
    (CanBegin-word g.row.PLACES c.args.start c.if-this-le64.true c.requires.1) c.if-places-ne0.false
