use Rattle.std.proofs.Common.{◌-◌, ◌*◌, ◌^◌, refl}
use Rattle.rlsf_base.proofs.SizeMaps.Quotients.{IsRoundedUp}
use Rattle.rlsf_base.proofs.SizeMaps.Reaching.{in_row}
use Rattle.rlsf_base.proofs.SizeMaps.RowLengths.{IsPower-row_length}
use Rattle.rlsf_base.proofs.SizeMaps.SearchStarts.{IsSearchStart-map_ceil, IsSearchStart-parts}
use Rattle.rlsf_base.proofs.classes.search_start.Goals as goal

pub overflow_sub-row : goal.overflow_sub-row
overflow_sub-row g c = c.reaching_parts-row.ensures.row.0

pub returns-then-this-le32 : goal.returns-then-this-le32
returns-then-this-le32 g c =
    let any = (IsPower-row_length g.row.SLLEN c.requires.parameters.power_of_two).some in
    let row = c.reaching_parts-row.ensures.row in
    let k = c.reaching_parts-row.result.0 in
    let t = c.reaching_parts-row.result.1 in
    let rounded : IsRoundedUp (c.args.size * g.row.SLLEN) (2 ^ k) t = record { reached = c.reaching_parts-row.ensures.parts.0; tight = c.reaching_parts-row.ensures.parts.1 } in
    IsSearchStart-parts g.row.FLLEN g.row.SLLEN c.args.size any c.requires.size k t row.2 row.3 rounded c.if-this-le32.true row.0 c.within_rows.result
    (c.within_rows.ensures (in_row k (t - g.row.SLLEN)) refl)

pub returns-else-this-le32 : goal.returns-else-this-le32
returns-else-this-le32 g c =
    let any = (IsPower-row_length g.row.SLLEN c.requires.parameters.power_of_two).some in
    IsSearchStart-map_ceil g.row.FLLEN g.row.SLLEN c.args.size any c.requires.size c.map_ceil.result c.map_ceil.ensures
