use Rattle.std.proofs.Common.{arith, refl, ◌∙◌}
use Rattle.rlsf_shared_heap.proofs.shared.owner.OwnerHeap.lend_new.Goals as goal

pub returns-then-room-self : goal.returns-then-room-self
returns-then-room-self g c =
    rw (← c.self.view_is) (record {
      new = record { full = λ _. (refl, refl); step = λ less. absurd (omega (arith, less)); lent = omega arith };
      result = tt;
      room = λ count most wide sized lives short low less. absurd (omega (arith, less));
      bounds = λ count most wide sized short low. sized;
      frame = record { identity = refl; settled = λ s. s; room = refl };
      touches = omega arith;
    })

pub returns-in_err-payload : goal.returns-in_err-payload
returns-in_err-payload g c =
    let did = c.in_err-payload.ensures in
    let none = c.from_residual.ensures in
    rw (← c.self.view_is) (rw none (record {
      new = record { full = λ e. absurd (omega (arith, e)); step = λ _. did.step; lent = omega arith };
      result = tt;
      room = λ count most wide sized lives short low less. did.room.bounds count most wide sized lives short low;
      bounds = did.bounds;
      frame = record { identity = did.frame.heap.identity; settled = did.frame.settled; room = refl };
      touches = did.touches;
    }))

pub new-requires : goal.new-requires
new-requires g c =
    let did = c.in_ok-payload.ensures.result in
    record { own = did.made.identity ∙ c.self.invariant.0; written = did.written }

pub returns : goal.returns
returns g c =
    let did = c.in_ok-payload.ensures in
    rw (← c.self.view_is) (rw c.new.ensures (record {
      new = record { full = λ e. absurd (omega (arith, e)); step = λ _. did.step; lent = omega arith };
      result = did.result;
      room = λ count most wide sized lives short low less. refl;
      bounds = did.bounds;
      frame = record { identity = did.frame.heap.identity; settled = did.frame.settled; room = refl };
      touches = did.touches;
    }))
