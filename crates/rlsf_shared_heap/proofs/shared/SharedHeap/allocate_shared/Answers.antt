use Rattle.rlsf_shared_heap.proofs.shared.SharedHeap.allocate_shared.Goals as goal

pub new-requires : goal.new-requires
new-requires g c = record { own = c.in_ok-payload.ensures.payload; written = c.in_ok-payload.ensures.written }

pub returns : goal.returns
returns g c =
    let did = c.in_ok-payload.ensures in
    rw c.new.ensures (record {
      payload = did.payload;
      zeros = did.zeros;
      align = did.align;
      aligned = did.aligned;
      sized = did.sized;
      few = did.few;
    })

pub returns-in_err-payload : goal.returns-in_err-payload
returns-in_err-payload g c = rw c.from_residual.ensures (record { payload = tt; zeros = tt; align = tt; aligned = tt; sized = tt; few = tt })
