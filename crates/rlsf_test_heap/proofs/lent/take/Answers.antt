use Rattle.std.proofs.Common.{sym, ◌∙◌, ap}
use Rattle.rlsf_test_heap.proofs.lent.take.Goals as goal

pub returns : goal.returns
returns c =
    let did = c.reclaim.ensures.reclaimed in
    let settled = c.requires.lent.1 in
    record {
      heap = (did.heap.identity, did.heap.place.0, did.heap.place.1, did.heap.lent);
      settled = did.settled settled;
      state = did.heap.state;
      others = c.reclaim.ensures.others;
      part = (did.home ∙ sym (ap (λ i. i.home) did.heap.identity), sym did.part.start, sym did.part.len, did.full settled);
    }
