use Rattle.std.proofs.Common.{arith, subst, ◌∙◌}
use Rattle.rlsf_model.specs.Allocate.{Allocates}
use Rattle.rlsf_heap.specs.Heap.{HeapView, Steps, addr_of}
use Rattle.rlsf_shared_heap.specs.Owners.{Serves}
use Rattle.rlsf_shared_heap.proofs.Collected.{served, unchanged}
use Rattle.rlsf_shared_heap.proofs.shared.owner.OwnerHeap.allocate.Goals as goal

pub returns : goal.returns
unfolding Serves
returns g c =
    let between = c.self.inside.heap in
    let collected = rw (← c.self.view_is) at c.collect.ensures.collected in
    let lent = rw (← c.self.view_is) at c.collect.ensures.lent in
    let room = rw (← c.self.view_is) at c.collect.ensures.room in
    let few = c.collect.ensures.few in
    let did = c.allocate.ensures in
    record {
      step = (between, c.collect.result, few, lent, collected, did.step);
      alone = λ none. subst
          (λ (h : HeapView). Steps g.row.FLLEN g.row.SLLEN c.allocate.new.self
          (Allocates g.row.SLLEN h.state c.args.layout.size c.args.layout.align (addr_of c.allocate.result)))
          (unchanged g.row.FLLEN g.row.SLLEN c.args.self.now.heap between c.collect.result (omega (arith, none, lent)) collected) did.step;
      result = served _ _ _ _ _ _ _ _ collected c.allocate.result did.result;
      room = λ count most wide sized lives short low. did.room.bounds count most wide (collected.bounds count most wide sized) (omega (arith, lives, collected.live)) short low;
      bounds = λ count most wide sized short low. did.bounds count most wide (collected.bounds count most wide sized) short low;
      frame = record {
        identity = did.frame.heap.identity ∙ collected.identity;
        settled = λ s. did.frame.settled (collected.settled s);
        room = room;
      };
      touches = omega (arith, did.touches, collected.touches, few);
    }
