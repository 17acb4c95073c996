use Rattle.std.proofs.Common.{◌++◌, ◌∷◌, [], length, true, sym, ap, subst, ◌∙◌}
use Rattle.rlsf_base.specs.Ledger.{entry_of, extent}
use Rattle.rlsf_base.specs.Out.{kept_at}
use Rattle.rlsf_base.specs.Piece.{HasStatesOf}
use Rattle.rlsf_heap.specs.Heap.{IsWritten, PayloadView}
use Rattle.rlsf_heap.proofs.payload.Payload.hand_over.Goals as goal

pub returns-clause-over : goal.returns-clause-over
unfolding HasStatesOf
returns-clause-over c =
    let e = c.take_out-part.ensures in
    let is = c.issued.ensures.payload in
    let ledger = c.args.ledger.now in record {
      identity = ap (λ (p : PayloadView). p.identity) is ∙ (λ i. record { home = e.part.home i; ledger = ledger.name });
      at = ap (λ (p : PayloadView). p.start) is ∙ e.part.start;
      align = ap (λ (p : PayloadView). p.align) is;
      values = ap (λ (p : PayloadView). p.bytes) is ∙ e.part.bytes;
      long = ap (λ (p : PayloadView). length p.bytes) is ∙ e.part.len;
      states = λ k less. ap (λ (p : PayloadView). kept_at p.out k) is ∙ e.part.kept k less;
      full = λ here. subst (λ (p : PayloadView). IsWritten p) (sym is) (e.part.full here);
      memory = e.memory;
      counts = e.counts;
      entries = c.issued.ensures.entries
          ∙ (λ i. ledger.entries ++ entry_of (extent (e.part.start i) (e.part.len i) c.args.align) true ∷ []);
    }
