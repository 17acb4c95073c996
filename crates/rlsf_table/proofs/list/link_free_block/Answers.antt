-- The indices are those of the block's class.
use Rattle.std.proofs.Common.{arith, subst}
use Rattle.rlsf_table.specs.Table.{IsClassAt}
use Rattle.rlsf_table.proofs.FreeLists.Indices.{IsClassAt-told, room}
use Rattle.rlsf_table.proofs.list.link_free_block.Goals as goal

pub class_of-fl-requires-clause-size : goal.class_of-fl-requires-clause-size
class_of-fl-requires-clause-size g c =
    let (r, free, place, len, beside) = c.requires.room in
    omega (arith, len, room c.requires.parameters beside.block)

pub link_in_class-requires : goal.link_in_class-requires
link_in_class-requires g c =
    let (r, free, place, len, beside) = c.requires.room in
    let at =
    subst (λ n. IsClassAt g.row.FLLEN g.row.SLLEN n c.class_of-fl.result.0 c.class_of-fl.result.1) len
    (IsClassAt-told c.requires.parameters beside.block c.args.len c.class_of-fl.result len c.class_of-fl.ensures) in
    (omega arith, (c.requires.parameters, (at, (c.requires.room, c.requires.view))))
