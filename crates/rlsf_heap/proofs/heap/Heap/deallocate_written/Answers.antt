use Rattle.std.proofs.Common.{◌≡◌, Some, refl, sym, ap, ◌∙◌}
use Rattle.rlsf_base.specs.Piece.{Piece}
use Rattle.rlsf_heap.specs.Heap.{payload_view}
use Rattle.rlsf_heap.proofs.Found.{deallocated}
use Rattle.rlsf_heap.proofs.heap.Heap.deallocate_written.Given as given
use Rattle.rlsf_heap.proofs.heap.Heap.deallocate_written.Goals as goal
use Rattle.rlsf_heap.proofs.heap.Heap.deallocate_written.Goals.{After-into_thin_bytes}

-- its bytes, with its alignment and its ticket's name, are the payload
thin_parts : (g : given.Over) (c : After-into_thin_bytes g)
    → payload_view c.into_thin_bytes.result.piece c.args.payload.align c.into_parts-part.result.1.name ≡ c.args.payload
thin_parts g c =
    ap (λ (q : Piece). payload_view q c.args.payload.align c.into_parts-part.result.1.name) c.into_thin_bytes.ensures.piece ∙ c.into_parts-part.ensures.parts

pub returns-clause-result : goal.returns-clause-result
returns-clause-result g c =
    let did = c.put_written.ensures in
    deallocated c.args.self.now c.put_written.new.self c.into_thin_bytes.result.piece c.args.payload.align c.into_parts-part.result.1.name c.args.payload
    (thin_parts g (goal.at.returns-clause-result g c).After-into_thin_bytes) refl did.owner (did.live ∙ ap (λ n. Some n) (sym c.into_parts-part.ensures.ticket.2)) did.result
    did.freed
