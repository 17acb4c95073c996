use Rattle.std.proofs.Common.{rules, arith}
use Rattle.rlsf_table.proofs.Tables.Rows.{inserted-few, inserted-many}
use Rattle.rlsf_table.proofs.rows.Rows.insert.Goals as goal

pub returns-then-this-le64 : goal.returns-then-this-le64
returns-then-this-le64 g c = record {
  own = inserted-few g.row.PLACES c.args.self.now.low c.args.self.now.high c.args.fl c.if-this-le64.true c.args.place (omega arith) (omega arith);
  others = search rules;
}

pub returns-else-this-le64 : goal.returns-else-this-le64
returns-else-this-le64 g c = record {
  own =
      inserted-many g.row.PLACES c.args.self.now.low c.args.self.now.high c.args.fl c.if-this-le64.false c.both.result c.both.ensures c.set_both.new.self.low
      c.set_both.new.self.high c.args.place (omega arith) c.set_both.ensures.own;
  others = search rules;
}
