use Rattle.std.proofs.Common.{arith, ◌∙◌}
use Rattle.rlsf_shared_heap.specs.Owners.{ServesLent}
use Rattle.rlsf_shared_heap.proofs.Collected.{served_zeros}
use Rattle.rlsf_shared_heap.proofs.shared.owner.OwnerHeap.allocate_lent.Goals as goal

pub returns : goal.returns
unfolding ServesLent
returns g c =
    let did = c.collect.ensures in
    let was = did.collected in
    let made = c.lend_new.ensures in
    let zeroed = served_zeros _ _ _ _ _ _ _ _ was c.lend_new.result made.result in
    record {
      step = (c.collect.new.self, c.collect.result, did.few, did.lent, did.room, was, made.new);
      result = zeroed.0;
      zeros = zeroed.1;
      room = λ count most wide sized lives short low less.
          made.room count most wide (was.bounds count most wide sized) (omega (arith, lives, was.live)) short low (omega (arith, less, did.lent, did.room));
      bounds = λ count most wide sized short low. made.bounds count most wide (was.bounds count most wide sized) short low;
      frame = record {
        identity = made.frame.identity ∙ was.identity;
        settled = λ s. made.frame.settled (was.settled s);
        room = made.frame.room ∙ did.room;
      };
      touches = omega (arith, made.touches, was.touches, did.few);
    }
