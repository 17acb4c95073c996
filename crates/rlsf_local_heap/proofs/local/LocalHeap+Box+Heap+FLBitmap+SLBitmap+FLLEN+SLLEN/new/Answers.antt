use Rattle.std.proofs.Common.{◌%◌, ◌≤◌, arith, ap, ◌∙◌}
use Rattle.rlsf_base.specs.OpenSpace.{Home}
use Rattle.rlsf_base.specs.Range.{range_at}
use Rattle.rlsf_local_heap.specs.Constants.{Constants, chunks_of_range, constants_of}
use Rattle.rlsf_local_heap.proofs.Outcomes.{ok_is_no_error}
use Rattle.rlsf_local_heap.proofs.local.«LocalHeap+Box+Heap+FLBitmap+SLBitmap+FLLEN+SLLEN».new.Goals as goal

some_address : 1 ≤ 4096
some_address = omega arith

pub returns-in-Ok : goal.returns-in-Ok
returns-in-Ok g c =
    let m = c.in_ok-memory.ensures in
    let made = c.in_a_box.ensures ∙ ap constants_of c.in-Ok.ensures.ok in
    let home = ap (λ (k : Constants). k.heap.home) made ∙ c.over_all.ensures.home in
    record {
      memory = (ap (λ (h : Home). h.start) home ∙ m.memory.start, ap (λ (h : Home). h.len) home ∙ m.memory.len, ap (λ (h : Home). h.view.shift % 16) home ∙ m.memory.units);
      pool = ap (λ (k : Constants). k.chunks) made ∙ c.over_all.ensures.chunks ∙ (λ i. chunks_of_range g.row.FLLEN (range_at (m.memory.start i) (m.memory.len i)));
      too_long = (λ e. absurd (ok_is_no_error e), λ long. absurd (ok_is_no_error (m.too_long.1 (some_address, long))));
      starts = λ e. ok_is_no_error e;
    }

pub returns : goal.returns
returns g c =
    let m = c.in_ok-memory.ensures in
    record {
      memory = tt;
      pool = tt;
      too_long = (λ e. absurd cc, λ long. absurd (ok_is_no_error (m.too_long.1 (some_address, long))));
      starts = λ e. cc;
    }
