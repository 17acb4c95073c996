use Rattle.std.proofs.Common.{sym, ◌∙◌, Some}
use Rattle.std.proofs.lemmas.Bool.{eq-eqb, eqb-true}
use mathlib.Core.Path.{ap₂}
use Rattle.rlsf_table.proofs.Tables.RowLengths.{row_length-bounds}
use Rattle.rlsf_blocks.proofs.Consistency.Classes.{IsClassAt-same, map_floor-some}
use Rattle.rlsf_blocks.proofs.consistency_check.heads.has_class.Goals as goal

pub returns-then-row-fl : goal.returns-then-row-fl
returns-then-row-fl g c =
    let some = row_length-bounds g.row.SLLEN c.requires.parameters.power_of_two in
    let named = sym c.in-Some.ensures in (
      λ same. map_floor-some g.row.FLLEN g.row.SLLEN c.args.size c.args.fl c.args.sl some.0 c.requires.size
          (named ∙ ap₂ (λ a b. Some (a, b)) c.if-row-fl.true (eqb-true _ _ same)),
      λ at.
          let there = map_floor-some g.row.FLLEN g.row.SLLEN c.args.size c.in-Some.row c.in-Some.place some.0 c.requires.size named in
          eq-eqb c.in-Some.place c.args.sl (IsClassAt-same g.row.FLLEN g.row.SLLEN c.args.size c.in-Some.row c.in-Some.place c.args.fl c.args.sl there at).1,
    )
