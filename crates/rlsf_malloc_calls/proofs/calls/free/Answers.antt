use Rattle.std.proofs.Common.{arith}
use Rattle.rlsf_malloc_calls.proofs.Outcomes.{freed, kept_heap}
use Rattle.rlsf_malloc_calls.proofs.calls.free.Goals as goal

pub returns-then-addr-ne0 : goal.returns-then-addr-ne0
returns-then-addr-ne0 g c =
    let old = c.args.heap.now in let new = c.deallocate_thin_written.new.self in let did = c.deallocate_thin_written.ensures in
    freed g.row.FLLEN g.row.SLLEN old new (kept_heap did.frame.heap did.frame.settled c.requires.0) c.args.addr c.args.payload.of c.requires.1.start
    (λ e. omega (arith, c.if-addr-ne0.true, e)) did.step did.result.live did.result.gone.gone did.result.gone.aligns did.result.gone.count did.frame.chunks
