use Rattle.std.proofs.Common.{◌-◌, ap, ◌∙◌}
use Rattle.rlsf_shared_heap.proofs.shared.owner.OwnerHeap.take_back.Goals as goal

pub returns : goal.returns
returns g c =
    let did = c.deallocate.ensures in
    let owner = rw (← c.self.view_is) at did.owner in
    rw (← c.into_payload.ensures.same) (record {
      step = rw (← c.self.view_is) at did.step;
      result = rw (← c.self.view_is) at did.result;
      bounds = rw (← c.self.view_is) at did.bounds;
      frame = rw (← c.self.view_is) at did.frame;
      lent = c.saturating_sub-self-inside.ensures ∙ ap (λ n. n - 1) owner.lent;
      room = owner.room;
      touches = owner.touches;
    })
