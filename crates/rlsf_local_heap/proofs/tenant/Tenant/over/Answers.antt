use Rattle.std.proofs.Common.{refl, ap, is_some, ◌∙◌}
use Rattle.rlsf_base.specs.Range.{range_at}
use Rattle.rlsf_local_heap.specs.Constants.{Constants, chunks_of_range}
use Rattle.rlsf_local_heap.proofs.tenant.Tenant.over.Goals as goal

pub invariant_of-result : goal.invariant_of-result
invariant_of-result g c =
    record { tied = ap (λ (k : Constants). k.heap.home) c.in_a_box.ensures ∙ c.over_all.ensures.home ∙ c.begin-memory.ensures.memory.0 }

pub returns-in_err-payload : goal.returns-in_err-payload
returns-in_err-payload g c = rw c.in_err-payload.was (record { some = tt; none = ap is_some c.from_residual.ensures; lease = tt; pool = tt })

pub returns : goal.returns
returns g c =
    let m = c.begin-memory.ensures.memory in rw c.in_ok-payload.was (record {
      some = refl;
      none = tt;
      lease = c.begin-memory.ensures.payload;
      pool = ap (λ (k : Constants). k.chunks) c.in_a_box.ensures ∙ c.over_all.ensures.chunks
          ∙ (λ i. chunks_of_range g.row.FLLEN (range_at (m.1 i) (m.0 i).len))
          ∙ ap (λ n. chunks_of_range g.row.FLLEN (range_at 64 n)) c.begin-memory.ensures.payload.2;
    })
