use Rattle.std.proofs.Common.{◌<◌, arith}
use Rattle.rlsf_heap.specs.Heap.{addr_of}
use Rattle.rlsf_model.specs.Allocate.{Allocates}
use Rattle.rlsf_model.specs.Sized.{live_count}
use Rattle.rlsf_partitions.proofs.Tiles.{HasTiles-allocated, Stands-stepped, if_never, never_refused, within_allocated}
use Rattle.rlsf_partitions.proofs.partition.Partition.take.Goals as goal

pub invariant_of-self : goal.invariant_of-self
invariant_of-self c =
    let i = c.self.inside in
    let few : live_count i.heap.state < i.count = omega (arith, c.self.invariant.within, c.live.ensures, c.if-live-self.false) in
    let r = c.allocate.result in
    let step = c.allocate.ensures.step in
    record {
      stands = Stands-stepped c.allocate.new.self (Allocates 8 i.heap.state i.layout.size i.layout.align (addr_of r)) step;
      narrow = c.self.invariant.narrow;
      enough = c.self.invariant.enough;
      begins = c.self.invariant.begins;
      within = within_allocated i.heap c.allocate.new.self i.layout.size i.layout.align i.count r few c.allocate.ensures.result c.allocate.ensures.refused;
      room = λ some. HasTiles-allocated i.heap c.allocate.new.self i.layout.size i.layout.align i.count (addr_of r) c.self.invariant.narrow
          c.self.invariant.stands step (c.self.invariant.room some);
    }

pub returns-clause-full : goal.returns-clause-full
returns-clause-full c =
    let i = c.self.inside in
    let few : live_count i.heap.state < i.count = omega (arith, c.self.invariant.within, c.live.ensures, c.if-live-self.false) in
    rw (← c.self.view_is) (
      (λ none. absurd (never_refused i.heap c.allocate.new.self i.layout.size i.layout.align i.count c.allocate.result c.self.invariant.narrow
          c.self.invariant.stands c.self.invariant.begins c.self.invariant.room few c.allocate.ensures.step none)),
      λ full. absurd (omega (arith, full, few)),
    )

pub returns-clause-refused : goal.returns-clause-refused
returns-clause-refused c =
    let i = c.self.inside in
    let few : live_count i.heap.state < i.count = omega (arith, c.self.invariant.within, c.live.ensures, c.if-live-self.false) in
    if_never c.allocate.result _ (never_refused i.heap c.allocate.new.self i.layout.size i.layout.align i.count c.allocate.result c.self.invariant.narrow
    c.self.invariant.stands c.self.invariant.begins c.self.invariant.room few c.allocate.ensures.step)
