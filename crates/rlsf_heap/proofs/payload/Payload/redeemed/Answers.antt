use Rattle.std.proofs.Common.{◌≡◌, ℕ, length, set, false, sym, ◌∙◌, ap, subst}
use Rattle.rlsf_base.specs.Ledger.{Extent, entry_of, extent, IsIssued}
use Rattle.rlsf_heap.specs.Heap.{PayloadView}
use Rattle.rlsf_heap.specs.Renewed.{IsRedeemed}
use Rattle.rlsf_heap.proofs.payload.Payload.redeemed.Goals as goal

pub returns-clause-entries : goal.returns-clause-entries
unfolding IsRedeemed
returns-clause-entries c =
    let is = c.into_parts-part.ensures.ticket in
    let part = c.into_parts-part.result.0 in
    let ticket = c.into_parts-part.result.1 in
    let es = c.args.ledger.now.entries in
    let shown : extent ticket.addr ticket.len ticket.align ≡ extent part.start (length part.bytes) c.args.self.align = λ i. extent (sym is.0 i) (sym is.1 i) (sym is.2 i) in
    subst (λ (p : PayloadView). (k : ℕ) × IsIssued es k (extent p.start (length p.bytes) p.align)
    × (c.redeem.new.self.entries ≡ set es k (entry_of (extent p.start (length p.bytes) p.align) false))) c.into_parts-part.ensures.parts
    (ticket.key, subst (IsIssued es ticket.key) shown c.redeem.ensures.issued, c.redeem.ensures.entries ∙ ap (λ (v : Extent). set es ticket.key (entry_of v false)) shown)

pub returns-clause-some : goal.returns-clause-some
returns-clause-some c = c.into_parts-part.ensures.some
