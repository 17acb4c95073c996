use Rattle.std.proofs.Common.{◌≡◌, ◌+◌, List, Some, refl, sym, ap, subst, ◌∙◌}
use Rattle.rlsf_base.specs.Ledger.{Entry}
use Rattle.rlsf_base.specs.Space.{Space}
use Rattle.rlsf_base.specs.declared.memory.ledger.Ledger.{Ledger}
use Rattle.rlsf_model.specs.Callers.{align_at}
use Rattle.rlsf_blocks.specs.Laws.{read_from}
use Rattle.rlsf_blocks.proofs.RepresentedStates.Counted.{StandsFor-touched}
use Rattle.rlsf_heap.specs.Heap.{HeapView, Identity, IsHeapOf, PayloadView, heap_view, payload_view}
use Rattle.rlsf_heap.specs.Raw.{bytes_of}
use Rattle.rlsf_heap.proofs.Found.{found}
use Rattle.rlsf_heap.proofs.Tickets as P
use Rattle.rlsf_heap.proofs.heap.Heap.find_part.Goals as goal

pub checked-payload-requires : goal.checked-payload-requires
checked-payload-requires g c =
    (λ none. c.requires.some.1 (sym c.requires.some.0 ∙ none), ap (λ (h : Identity). h.ledger) c.requires.heap ∙ sym (ap (λ (v : HeapView). v.identity.ledger) c.self.view_is))

pub load_usable_bytes-range-requires : goal.load_usable_bytes-range-requires
load_usable_bytes-range-requires g c =
    let (k, known) = c.checked-payload.ensures.issued in
    P.live_in c.self.invariant.stands c.self.invariant.tickets c.args.payload.of c.args.addr k c.requires.some.0 known

pub into_part-part-requires : goal.into_part-part-requires
into_part-part-requires g c =
    let (k, known) = c.checked-payload.ensures.issued in
    P.comes_found c.self.invariant.stands c.self.invariant.tickets c.args.payload.of c.args.addr k c.requires.some.0 known
    c.args.self.now.identity (ap (λ (v : HeapView). v.identity.home) c.self.view_is) c.requires.heap
    c.checked-payload.result.of c.checked-payload.ensures.payload.1 c.into_parts.result.0.piece c.into_parts.ensures.bytes
    c.load_usable_bytes-range.new.memory c.load_usable_bytes-range.ensures.memory c.view-view.result c.view-view.ensures
    c.load_usable_bytes-range.result c.load_usable_bytes-range.ensures.range

pub invariant_of-self : goal.invariant_of-self
invariant_of-self g c =
    let m = c.self.inside.memory in let k = c.self.inside.state.state in let entries = c.self.inside.ledger.entries in
    let old = c.self.invariant in
    let Held : Space → List Entry → Type 0 =
    λ n es. IsHeapOf g.FLBitmap.BitPattern.width g.SLBitmap.BitPattern.width g.row.FLLEN g.row.SLLEN n c.self.inside.table k es c.self.inside.live c.self.inside.lent in
    let counted : Held (record m { touches = m.touches + 3 }) entries = record {
      valid = old.valid;
      stands = StandsFor-touched m (record m { touches = m.touches + 3 }) 3 refl old.stands;
      is_bare = old.is_bare;
      tickets = old.tickets;
      counted = old.counted;
      rest = old.rest;
    } in
    subst (Held c.load_usable_bytes-range.new.memory) (ap (λ (l : Ledger). l.entries) (sym c.checked-payload.ensures.ledger))
    (subst (λ n. Held n entries) (sym c.load_usable_bytes-range.ensures.memory) counted)

pub returns : goal.returns
returns g c =
    let (k, known) = c.checked-payload.ensures.issued in
    let of = c.args.payload.of in
    let same = c.checked-payload.ensures.payload.1 in
    let one = c.into_part-part.ensures ∙ c.into_parts.ensures.bytes.0 ∙ ap bytes_of same in
    let ticket = subst (λ (p : PayloadView). P.IsTicketFor p c.into_parts.result.1) same c.into_parts.ensures.ticket in
    let at = P.shown_live c.self.invariant.stands.well_formed (P.shown of) (c.self.invariant.tickets.issued k (P.shown of) known) in record {
      parts = ap (λ n. payload_view c.into_part-part.result of.align n) ticket.0 ∙ P.payload_of_bytes of c.into_part-part.result one;
      ticket = P.ticket_of_bytes of c.into_part-part.result one c.into_parts.result.1 ticket;
      live = subst (λ (v : HeapView). align_at v.state c.args.addr ≡ Some of.align) c.self.view_is
          (subst (λ a. align_at (read_from c.self.inside.memory c.self.inside.state.state) a ≡ Some of.align) c.requires.some.0 at);
      heap = (λ i. heap_view (c.load_usable_bytes-range.ensures.memory i) c.self.inside.table c.self.inside.state.state (c.checked-payload.ensures.ledger i).name
          c.self.inside.lent)
          ∙ ap found c.self.view_is;
    }
