-- The scans of the bitmaps find the least class.
use Rattle.std.proofs.Common.{rules, arith, sym, subst}
use Rattle.rlsf_table.specs.Table.{HasBits}
use Rattle.rlsf_table.proofs.Tables.RowLengths.{row_length-bounds}
use Rattle.rlsf_table.proofs.Tables.Rows.{IsFirstOne-row}
use Rattle.rlsf_table.proofs.Tables.Search.{row_lt, IsLeastFrom-own_row, IsLeastFrom-none, IsLeastFrom-row_behind, scanned_places-whole_row}
use Rattle.rlsf_table.proofs.table.ClassTable.first_from.Goals as goal

pub returns-in-Some : goal.returns-in-Some
returns-in-Some g c = record {
  first = λ free bits blocks.
      let some = row_length-bounds g.row.SLLEN c.requires.parameters.power_of_two in
      let inside = subst (λ t. HasBits g.row.FLLEN g.row.SLLEN t free) (sym c.self.view_is) bits in
      let scan = IsFirstOne-row g.row.FLLEN g.row.SLLEN _ _ c.args.fl c.requires.class.0 c.in-Some.ensures.1 in
      IsLeastFrom-own_row some.0 inside blocks c.requires.class.0 scan c.in-Some.ensures.0;
  counts = search rules;
}

pub returns-in_default-first_behind : goal.returns-in_default-first_behind
returns-in_default-first_behind g c = record {
  first = λ free bits blocks.
      let some = row_length-bounds g.row.SLLEN c.requires.parameters.power_of_two in
      let inside = subst (λ t. HasBits g.row.FLLEN g.row.SLLEN t free) (sym c.self.view_is) bits in
      let scan = IsFirstOne-row g.row.FLLEN g.row.SLLEN _ _ c.args.fl c.requires.class.0 c.in_default.ensures in
      IsLeastFrom-none some.0 inside blocks c.requires.class.0 scan (scanned_places-whole_row g.row.SLLEN some.1) (omega arith) c.in_default-first_behind.ensures
      (scanned_places-whole_row g.row.FLLEN c.requires.parameters.rows_fit);
  counts = search rules;
}

pub first-requires : goal.first-requires
first-requires g c =
    let (free, bits, blocks) = c.requires.list in
    let some = row_length-bounds g.row.SLLEN c.requires.parameters.power_of_two in
    let inside = subst (λ t. HasBits g.row.FLLEN g.row.SLLEN t free) (sym c.self.view_is) bits in
    (omega arith, row_lt some.0 inside blocks c.in-Some-first_behind.row (c.in-Some-first_behind.ensures.1.found c.in-Some-first_behind.ensures.0).1)

pub returns : goal.returns
returns g c = record {
  first = λ free bits blocks.
      let some = row_length-bounds g.row.SLLEN c.requires.parameters.power_of_two in
      let inside = subst (λ t. HasBits g.row.FLLEN g.row.SLLEN t free) (sym c.self.view_is) bits in
      let scan = IsFirstOne-row g.row.FLLEN g.row.SLLEN _ _ c.args.fl c.requires.class.0 c.in_default.ensures in
      let in_rows = row_lt some.0 inside blocks c.in-Some-first_behind.row (c.in-Some-first_behind.ensures.1.found c.in-Some-first_behind.ensures.0).1 in
      let behind = IsFirstOne-row g.row.FLLEN g.row.SLLEN _ _ c.in-Some-first_behind.row in_rows c.first.ensures in
      IsLeastFrom-row_behind some.0 inside blocks c.requires.class.0 scan (scanned_places-whole_row g.row.SLLEN some.1) (omega arith) c.in-Some-first_behind.ensures.1
      in_rows
      (scanned_places-whole_row g.row.FLLEN c.requires.parameters.rows_fit) behind;
  counts = search rules;
}
