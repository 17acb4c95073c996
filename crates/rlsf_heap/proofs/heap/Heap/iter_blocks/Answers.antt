use Rattle.std.proofs.Common.{sym, subst}
use Rattle.rlsf_model.specs.ChunkRows.{IsRow}
use Rattle.rlsf_blocks.specs.Blocks.{AreBlocks, walked}
use Rattle.rlsf_blocks.specs.Laws.{read_from}
use Rattle.rlsf_heap.specs.Heap.{HeapView}
use Rattle.rlsf_heap.proofs.heap.Heap.iter_blocks.Goals as goal

pub walk_blocks-requires : goal.walk_blocks-requires
walk_blocks-requires g c =
    let row = subst (λ (o : HeapView). IsRow o.state (walked c.args.range)) (sym c.self.view_is) c.requires in
    (g.row.FLLEN, g.row.SLLEN, c.self.inside.table, read_from c.self.inside.memory c.self.inside.state.state, c.self.invariant.stands, row)

pub returns-clause-blocks : goal.returns-clause-blocks
returns-clause-blocks g c =
    let row = subst (λ (o : HeapView). IsRow o.state (walked c.args.range)) (sym c.self.view_is) c.requires in
    subst (λ (o : HeapView). AreBlocks o.state (walked c.args.range) c.walk_blocks.result) c.self.view_is
    (c.walk_blocks.ensures.blocks g.row.FLLEN g.row.SLLEN c.self.inside.table (read_from c.self.inside.memory c.self.inside.state.state) c.self.invariant.stands row)
