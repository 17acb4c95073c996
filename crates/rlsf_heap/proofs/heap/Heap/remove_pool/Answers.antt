use Rattle.std.proofs.Common.{arith, sym, ap, subst}
use Rattle.rlsf_model.specs.ChunkRows.{IsRow}
use Rattle.rlsf_model.specs.Remove.{IsIdle, Removes}
use Rattle.rlsf_model.specs.State.{State}
use Rattle.rlsf_blocks.specs.Blocks.{walked}
use Rattle.rlsf_blocks.specs.Laws.{read_from}
use Rattle.rlsf_heap.specs.Heap.{HeapView}
use Rattle.rlsf_heap.proofs.OnCores.{IsHeap-pools, Steps-left, core_of, frame-pools}
use Rattle.rlsf_heap.proofs.heap.Heap.remove_pool.Goals as goal

pub remove_in-requires : goal.remove_in-requires
remove_in-requires g c =
    let row = subst (λ (o : HeapView). IsRow o.state (walked c.args.range)) (sym c.self.view_is) c.requires.row in
    let idle = subst (λ (o : HeapView). IsIdle o.state (walked c.args.range)) (sym c.self.view_is) c.requires.idle in
    (omega arith, (core_of c.self.invariant g.FLBitmap.BitPattern.width_limit, (row, idle)))

pub invariant_of-self : goal.invariant_of-self
invariant_of-self g c = IsHeap-pools c.remove_in.ensures.left c.self.invariant (ap (λ (x : State). x.used) c.remove_in.ensures.step)

pub returns : goal.returns
returns g c =
    let ledger = c.self.inside.ledger.name in
    let e = c.remove_in.ensures in
    rw (← c.self.view_is) (record {
      step = Steps-left e.left ledger c.self.inside.lent (Removes (read_from c.self.inside.memory c.self.inside.state.state) (walked c.args.range)) e.step;
      untouched = e.result.untouched;
      result = e.result.gone;
      frame = frame-pools e.left c.self.invariant (ap (λ (x : State). x.used) e.step) ledger e.frame;
      touches = e.touches;
    })
