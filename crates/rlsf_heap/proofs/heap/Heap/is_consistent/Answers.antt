use Rattle.std.proofs.Common.{arith, inr, sym, subst}
use Rattle.rlsf_model.specs.ChunkRows.{IsRow}
use Rattle.rlsf_table.proofs.Parameters.{IsValid-widest}
use Rattle.rlsf_blocks.specs.Blocks.{walked}
use Rattle.rlsf_blocks.specs.Laws.{read_from}
use Rattle.rlsf_blocks.specs.Consistency.Consistent.{IsConsistent}
use Rattle.rlsf_blocks.proofs.Consistency.Represented.{represented_is_consistent}
use Rattle.rlsf_heap.specs.Heap.{HeapView}
use Rattle.rlsf_heap.proofs.heap.Heap.is_consistent.Goals as goal

pub is_consistent-requires : goal.is_consistent-requires
is_consistent-requires g c =
    let m = c.self.inside.memory in
    let own = subst (λ (o : HeapView). IsRow o.state (walked c.args.range)) (sym c.self.view_is) c.requires in
    let is = represented_is_consistent g.row.FLLEN g.row.SLLEN m c.self.inside.table (read_from m c.self.inside.state.state) (walked c.args.range) c.self.invariant.stands own in
    (omega arith, (IsValid-widest g.FLBitmap.BitPattern.width_limit c.self.invariant.valid, inr is))

pub returns : goal.returns
returns g c =
    let m = c.self.inside.memory in
    let own = subst (λ (o : HeapView). IsRow o.state (walked c.args.range)) (sym c.self.view_is) c.requires in
    let is = represented_is_consistent g.row.FLLEN g.row.SLLEN m c.self.inside.table (read_from m c.self.inside.state.state) (walked c.args.range) c.self.invariant.stands own in
    record {
      consistent = subst (λ (o : HeapView). IsConsistent g.row.FLLEN g.row.SLLEN o.memory o.table (walked c.args.range)) c.self.view_is is;
      result = c.is_consistent.ensures.1 is;
    }
