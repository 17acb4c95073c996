use Rattle.std.proofs.Common.{◌≤◌, arith, sym, subst}
use Rattle.rlsf_base.specs.Space.{range_of}
use Rattle.rlsf_model.specs.Insert.{Appends, IsNext, IsUntouched}
use Rattle.rlsf_model.proofs.Untouched.{parts_of-IsFresh}
use Rattle.rlsf_model.proofs.Chunks.{used-appended}
use Rattle.rlsf_blocks.specs.Laws.{read_from}
use Rattle.rlsf_heap.specs.Heap.{HeapView, IsUsable}
use Rattle.rlsf_heap.proofs.Kept.{owned_range}
use Rattle.rlsf_heap.proofs.OnCores.{IsHeap-pools, Steps-left, core_of, frame-pools}
use Rattle.rlsf_heap.proofs.heap.Heap.append_free_block_ptr.Goals as goal

pub append_in-requires : goal.append_in-requires
append_in-requires g c =
    let is = c.self.invariant in
    let (lies, clear) = parts_of-IsFresh (range_of c.args.self.now.memory) c.args.self.now.state c.args.range c.requires.next.fresh in
    let told = subst (λ (o : HeapView). (o.memory.start ≤ c.args.range.start) × IsUntouched o.state.chunks c.args.range × IsUsable o c.args.range) (sym c.self.view_is)
    (lies.0, clear, c.requires.usable) in
    let own = owned_range is c.args.range told.0 told.1 c.self.inside.ledger.name told.2 in (
      omega arith,
      (core_of is g.FLBitmap.BitPattern.width_limit, (subst (λ (o : HeapView). IsNext (range_of o.memory) o.state c.args.range) (sym c.self.view_is) c.requires.next, own)),
    )

pub invariant_of-self : goal.invariant_of-self
invariant_of-self g c =
    IsHeap-pools c.append_in.ensures.left c.self.invariant (used-appended g.row.FLLEN (read_from c.self.inside.memory c.self.inside.state.state)
    (read_from c.append_in.new.memory c.append_in.new.state.state) c.args.range c.append_in.result c.append_in.ensures.step)

pub returns : goal.returns
returns g c =
    let s = read_from c.self.inside.memory c.self.inside.state.state in
    let ledger = c.self.inside.ledger.name in
    let e = c.append_in.ensures in
    rw (← c.self.view_is) (record {
      step = Steps-left e.left ledger c.self.inside.lent (Appends g.row.FLLEN s c.args.range c.append_in.result) e.step;
      untouched = e.result.untouched;
      bounds = record { bounds = e.bounds; budgets = e.result.budgets; blocks = e.result.blocks };
      refused = e.refused;
      frame = frame-pools e.left c.self.invariant
          (used-appended g.row.FLLEN s (read_from c.append_in.new.memory c.append_in.new.state.state) c.args.range c.append_in.result e.step) ledger e.frame;
      touches = e.left.costs.touches;
    })
