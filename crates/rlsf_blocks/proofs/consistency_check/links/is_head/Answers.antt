use Rattle.std.proofs.Common.{arith, sym, ◌∙◌}
use Rattle.std.proofs.lemmas.Bool.{eq-eqb, eqb-true}
use mathlib.Core.Path.{ap₂}
use Rattle.rlsf_table.specs.Table.{head_at}
use Rattle.rlsf_table.proofs.Tables.RowLengths.{row_length-bounds}
use Rattle.rlsf_blocks.proofs.Consistency.Classes.{IsClassAt-same, map_floor-some}
use Rattle.rlsf_blocks.proofs.consistency_check.links.is_head.Goals as goal

pub newest-requires : goal.newest-requires
newest-requires g c =
    let some = row_length-bounds g.row.SLLEN c.requires.parameters.power_of_two in
    let at = map_floor-some g.row.FLLEN g.row.SLLEN c.args.len c.in-Some.fl c.in-Some.sl some.0 c.requires.size (sym c.in-Some.ensures) in
    (omega arith, (at.row, at.place))

pub returns-in-Some : goal.returns-in-Some
returns-in-Some g c =
    let some = row_length-bounds g.row.SLLEN c.requires.parameters.power_of_two in
    let at = map_floor-some g.row.FLLEN g.row.SLLEN c.args.len c.in-Some.fl c.in-Some.sl some.0 c.requires.size (sym c.in-Some.ensures) in (
      λ same. (c.in-Some.fl, c.in-Some.sl, at, sym c.newest.ensures ∙ eqb-true _ _ same),
      λ (fl, sl, there, is).
          let same = IsClassAt-same g.row.FLLEN g.row.SLLEN c.args.len c.in-Some.fl c.in-Some.sl fl sl at there in
          eq-eqb c.newest.result c.args.block (c.newest.ensures ∙ ap₂ (λ i j. head_at c.args.table.now i j) same.0 same.1 ∙ is),
    )
