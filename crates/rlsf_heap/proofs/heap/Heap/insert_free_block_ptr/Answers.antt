use Rattle.std.proofs.Common.{◌≤◌, arith, sym, subst}
use Rattle.rlsf_base.specs.Addr.{reply}
use Rattle.rlsf_base.specs.Space.{range_of}
use Rattle.rlsf_model.specs.Insert.{Inserts, IsFresh, IsUntouched}
use Rattle.rlsf_model.proofs.Chunks.{used-inserted}
use Rattle.rlsf_model.proofs.Untouched.{IsFresh-untouched}
use Rattle.rlsf_blocks.specs.Laws.{read_from}
use Rattle.rlsf_heap.specs.Heap.{HeapView, IsUsable}
use Rattle.rlsf_heap.proofs.RangePools.{pool_if}
use Rattle.rlsf_heap.proofs.Kept.{owned_range}
use Rattle.rlsf_heap.proofs.OnCores.{IsHeap-pools, Steps-left, core_of, frame-pools}
use Rattle.rlsf_heap.proofs.heap.Heap.insert_free_block_ptr.Goals as goal

pub insert_in-requires : goal.insert_in-requires
insert_in-requires g c =
    let is = c.self.invariant in
    let old = c.args.self.now in
    let fresh = IsFresh-untouched (range_of old.memory) old.state c.args.range c.requires.lies_in c.requires.untouched in
    let told = subst (λ (o : HeapView). (o.memory.start ≤ c.args.range.start) × IsUntouched o.state.chunks c.args.range × IsUsable o c.args.range) (sym c.self.view_is)
    (c.requires.lies_in.0, c.requires.untouched, c.requires.usable) in
    let own = owned_range is c.args.range told.0 told.1 c.self.inside.ledger.name told.2 in (
      omega arith,
      (core_of is g.FLBitmap.BitPattern.width_limit, (subst (λ (o : HeapView). IsFresh (range_of o.memory) o.state c.args.range) (sym c.self.view_is) fresh, own)),
    )

pub invariant_of-self : goal.invariant_of-self
invariant_of-self g c =
    IsHeap-pools c.insert_in.ensures.left c.self.invariant (used-inserted g.row.FLLEN (read_from c.self.inside.memory c.self.inside.state.state)
    (read_from c.insert_in.new.memory c.insert_in.new.state.state) c.args.range (reply c.insert_in.result) c.insert_in.ensures.step)

pub returns : goal.returns
returns g c =
    let s = read_from c.self.inside.memory c.self.inside.state.state in
    let ledger = c.self.inside.ledger.name in
    let e = c.insert_in.ensures in
    rw (← c.self.view_is) (record {
      step = Steps-left e.left ledger c.self.inside.lent (Inserts g.row.FLLEN s c.args.range (reply c.insert_in.result)) e.step;
      untouched = e.result.untouched;
      pool = pool_if s (read_from c.insert_in.new.memory c.insert_in.new.state.state) c.args.range c.insert_in.result g.row.FLLEN
          c.self.invariant.valid.some_rows (subst (λ (o : HeapView). IsUntouched o.state.chunks c.args.range) (sym c.self.view_is) c.requires.untouched) e.step e.result.untouched;
      room = record {
        pool = e.result.pool;
        budget = e.result.budget;
        kept = record { bounds = e.bounds; budgets = e.result.budgets; blocks = e.result.blocks };
      };
      refused = e.refused;
      frame = frame-pools e.left c.self.invariant
          (used-inserted g.row.FLLEN s (read_from c.insert_in.new.memory c.insert_in.new.state.state) c.args.range (reply c.insert_in.result) e.step) ledger e.frame;
      touches = e.left.costs.touches;
    })
