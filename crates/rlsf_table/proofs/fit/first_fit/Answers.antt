-- The head of the least class from the first on that reaches the size is the choice.
use Rattle.std.proofs.Common.{arith, rules, ◌≡◌, Some, None, MatchOption, ◌∙◌, sym, subst}
use Rattle.rlsf_base.specs.declared.memory.range.Range.{Range}
use Rattle.rlsf_model.specs.Allocate.{choice}
use Rattle.rlsf_table.specs.Table.{IsClassAt}
use Rattle.rlsf_table.proofs.Tables.RowLengths.{row_length-bounds}
use Rattle.rlsf_table.proofs.Tables.Choice.{choice-past_rows, choice-none_from, choice-head}
use Rattle.rlsf_table.proofs.fit.first_fit.Goals as goal

pub returns-in_err-fl : goal.returns-in_err-fl
returns-in_err-fl g c = record {
  choice = λ free is.
      let some = row_length-bounds g.row.SLLEN c.requires.parameters.power_of_two in
      let none = choice-past_rows g.row.FLLEN g.row.SLLEN c.args.size some.0 free is.blocks c.in_err-fl.ensures in
      subst (λ o. MatchOption o (choice g.row.SLLEN c.args.size free ≡ None)
      (λ found. (f : Range) × (choice g.row.SLLEN c.args.size free ≡ Some f) × (f.start ≡ found.start)
      × IsClassAt g.row.FLLEN g.row.SLLEN f.len found.class.fl found.class.sl)) (sym c.from_residual.ensures) none;
  counts = search rules;
}

pub first_from-requires : goal.first_from-requires
first_from-requires g c =
    let (free, is) = c.requires.list in
    (omega arith, (c.requires.parameters, ((c.in_ok-fl.ensures.row, c.in_ok-fl.ensures.place), (free, is.table.bits, is.blocks))))

pub returns-in_err-class : goal.returns-in_err-class
returns-in_err-class g c = record {
  choice = λ free is.
      let some = row_length-bounds g.row.SLLEN c.requires.parameters.power_of_two in
      let none =
      choice-none_from g.row.FLLEN g.row.SLLEN c.args.size some.0 free is.blocks (c.in_ok-fl.fl, c.in_ok-fl.sl) c.in_ok-fl.ensures
      (c.in_err-class.ensures.first free is.table.bits is.blocks) in
      subst (λ o. MatchOption o (choice g.row.SLLEN c.args.size free ≡ None)
      (λ found. (f : Range) × (choice g.row.SLLEN c.args.size free ≡ Some f) × (f.start ≡ found.start)
      × IsClassAt g.row.FLLEN g.row.SLLEN f.len found.class.fl found.class.sl)) (sym c.from_residual-in_err-class.ensures) none;
  counts = search rules;
}

pub head-requires : goal.head-requires
head-requires g c =
    let (free, is) = c.requires.list in
    let least = c.in_ok-class.ensures.first free is.table.bits is.blocks in
    (omega arith, (least.0, least.1))

pub returns : goal.returns
returns g c = record {
  choice = λ free is.
      let some = row_length-bounds g.row.SLLEN c.requires.parameters.power_of_two in
      let least = c.in_ok-class.ensures.first free is.table.bits is.blocks in
      let (f, chosen, starts, class) = choice-head g.row.FLLEN g.row.SLLEN c.args.size some.0 free is.blocks (c.in_ok-fl.fl, c.in_ok-fl.sl) c.in_ok-fl.ensures c.in_ok-class.class
      least _ c.args.table.now is.table.lists in
      (f, chosen, starts ∙ sym c.head.ensures.value, record { row = least.0; place = least.1; class = class });
  counts = search rules;
}
