-- The bitmap of a row is its word's.
use Rattle.std.proofs.Common.{rules, ◌∙◌, ap, slice_index, sym}
use Rattle.rlsf_int.specs.Bits.{bit}
use Rattle.rlsf_table.proofs.Tables.Rows.{row_words-at}
use Rattle.rlsf_table.proofs.table.ClassTable.sl_bitmap.Goals as goal

pub returns : goal.returns
returns g c = record {
  within = λ sl within.
      c.bitmap.ensures.within sl within
      ∙ sym (ap (λ t. bit (slice_index t.second_level c.args.fl) sl) (sym c.self.view_is)
      ∙ ap (λ n. bit n sl) (row_words-at g.row.FLLEN g.row.SLLEN _ _ c.args.fl c.requires.row));
  past = search rules;
}
