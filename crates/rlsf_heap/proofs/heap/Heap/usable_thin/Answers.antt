use Rattle.std.proofs.Common.{◌≡◌, Some, length, sym, ap, subst, ◌∙◌}
use Rattle.rlsf_base.specs.declared.memory.range.Range.{Range}
use Rattle.rlsf_model.specs.Callers.{align_at, bytes_at}
use Rattle.rlsf_blocks.specs.Laws.{read_from}
use Rattle.rlsf_heap.specs.Heap.{HeapView, Identity, heap_view}
use Rattle.rlsf_heap.proofs.Tickets as P
use Rattle.rlsf_heap.proofs.heap.Heap.usable_thin.Goals as goal

pub checked-payload-requires : goal.checked-payload-requires
checked-payload-requires g c =
    (λ none. c.requires.some.1 (sym c.requires.some.0 ∙ none), ap (λ (h : Identity). h.ledger) c.requires.heap ∙ sym (ap (λ (v : HeapView). v.identity.ledger) c.self.view_is))

pub usable_bytes-range-requires : goal.usable_bytes-range-requires
usable_bytes-range-requires g c =
    let (k, known) = c.checked-payload.ensures.issued in
    P.live_in c.self.invariant.stands c.self.invariant.tickets c.args.payload.of c.args.addr k c.requires.some.0 known

pub returns : goal.returns
returns g c =
    let (k, known) = c.checked-payload.ensures.issued in
    let of = c.args.payload.of in
    let m = c.self.inside.memory in
    let w = c.self.invariant.stands.well_formed in
    let one = c.self.invariant.tickets.issued k (P.shown of) known in record {
      len = ap (λ (r : Range). r.len) (P.ranged c.self.invariant.stands c.self.invariant.tickets of c.args.addr k c.requires.some.0 known c.usable_bytes-range.result
          c.usable_bytes-range.ensures);
      payload = c.checked-payload.ensures.payload;
      live = subst (λ (v : HeapView). align_at v.state c.args.addr ≡ Some of.align) c.self.view_is
          (subst (λ a. align_at (read_from m c.self.inside.state.state) a ≡ Some of.align) c.requires.some.0 (P.shown_live w (P.shown of) one));
      long = subst (λ (v : HeapView). length of.bytes ≡ length (bytes_at v.state c.args.addr)) c.self.view_is
          (subst (λ a. length of.bytes ≡ length (bytes_at (read_from m c.self.inside.state.state) a)) c.requires.some.0 (P.shown_long w (P.shown of) one));
      same = (λ i. heap_view m c.self.inside.table c.self.inside.state.state (c.checked-payload.ensures.ledger i).name c.self.inside.lent) ∙ c.self.view_is;
    }
