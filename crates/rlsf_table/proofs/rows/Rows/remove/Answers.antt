use Rattle.std.proofs.Common.{◌≡◌, ◌-◌, ◌*◌, ◌%◌, ◌^◌, bit_and, false, slice_index, slice_set, rules, arith, subst}
use Rattle.rlsf_int.specs.Bits.{bit}
use Rattle.rlsf_table.specs.Steps.Places.{row_word}
use Rattle.rlsf_table.proofs.Tables.Rows.{kept-few, kept-many, removed-few, removed-many}
use Rattle.rlsf_table.proofs.rows.Rows.remove.Goals as goal

pub returns-then-this-le64 : goal.returns-then-this-le64
returns-then-this-le64 g c =
    let place = c.args.place in
    let low = c.args.self.now.low in
    let high = c.args.self.now.high in
    let fl = c.args.fl in
    let in_word : place ≡ place % 64 = omega arith in
    record {
      gone = subst (λ p. bit (row_word g.row.PLACES (slice_set low fl (bit_and (slice_index low fl) (2 ^ 64 - 1 - 1 * 2 ^ p % 2 ^ 64))) high fl) place ≡ false) in_word
          (removed-few g.row.PLACES low high fl c.if-this-le64.true (omega arith) place (omega arith) (omega arith));
      own = λ k apart.
          subst (λ p. bit (row_word g.row.PLACES (slice_set low fl (bit_and (slice_index low fl) (2 ^ 64 - 1 - 1 * 2 ^ p % 2 ^ 64))) high fl) k
          ≡ bit (row_word g.row.PLACES low high fl) k) in_word
          (kept-few g.row.PLACES low high fl c.if-this-le64.true (omega arith) place (omega arith) (omega arith) k apart);
      others = search rules;
    }

pub returns-else-this-le64 : goal.returns-else-this-le64
returns-else-this-le64 g c = record {
  gone =
      removed-many g.row.PLACES c.args.self.now.low c.args.self.now.high c.args.fl c.if-this-le64.false c.both.result c.both.ensures c.set_both.new.self.low
      c.set_both.new.self.high c.args.place (omega arith) c.both.type_inv c.set_both.ensures.own;
  own =
      kept-many g.row.PLACES c.args.self.now.low c.args.self.now.high c.args.fl c.if-this-le64.false c.both.result c.both.ensures c.set_both.new.self.low c.set_both.new.self.high
      c.args.place (omega arith) c.both.type_inv c.set_both.ensures.own;
  others = search rules;
}
