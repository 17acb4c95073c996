use Rattle.std.proofs.Common.{Some, ap, subst, ◌∙◌}
use Rattle.rlsf_base.specs.Piece.{Piece}
use Rattle.rlsf_model.specs.Release.{Deallocates}
use Rattle.rlsf_heap.specs.Heap.{Steps}
use Rattle.rlsf_heap.proofs.Found.{deallocated}
use Rattle.rlsf_heap.proofs.Tickets.{payload_of_bytes}
use Rattle.rlsf_heap.proofs.heap.Heap.deallocate_thin_written.Goals as goal

pub returns : goal.returns
returns g c =
    let e = c.put_written.ensures in
    let of = c.args.payload.of in
    let one = c.into_parts.ensures.bytes.0 in
    let old = c.args.self.now in
    let new = c.put_written.new.self in record {
      step = subst (λ n. Steps g.row.FLLEN g.row.SLLEN new (Deallocates old.state n)) (ap (λ (p : Piece). p.start) one ∙ c.requires.some.0) e.step;
      result = deallocated old new c.into_parts.result.0.piece of.align of.identity.ledger of (payload_of_bytes of c.into_parts.result.0.piece one) c.requires.some.0 e.owner
          (e.live ∙ ap (λ n. Some n) c.into_parts.ensures.ticket.3) e.result e.freed;
      bounds = e.bounds;
      frame = e.frame;
      touches = e.touches;
    }
