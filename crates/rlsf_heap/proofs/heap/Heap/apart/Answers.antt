use Rattle.std.proofs.Common.{◌≡◌, ◌≢◌, ℕ, ◌++◌, ◌∷◌, [], List, length, set, true, false, sym, ap, subst, ◌∙◌}
use Rattle.rlsf_base.specs.Ledger.{Entry, Extent, entry_of, extent, IsIssued}
use Rattle.rlsf_model.specs.State.{State}
use Rattle.rlsf_blocks.specs.Laws.{read_from}
use Rattle.rlsf_heap.specs.Heap.{AreIssued, HeapView, Identity, IsPayload, PayloadView, heap_view, payload_view}
use Rattle.rlsf_heap.proofs.Tickets.{redeemed_ticket, shown_aligned, shown_apart, shown_inside, shown_live, shown_long, both_apart, both_issued, issued-again}
use Rattle.rlsf_heap.proofs.heap.Heap.apart.Given as given
use Rattle.rlsf_heap.proofs.heap.Heap.apart.Goals as goal
use Rattle.rlsf_heap.proofs.heap.Heap.apart.Goals.{After-issued-second}
use Rattle.rlsf_heap.specs.Replies.{IsOut}

-- what the tickets of the two payloads show
abbrev shown : PayloadView → Extent
shown p = extent p.start (length p.bytes) p.align

abbrev state : (g : given.Over) → After-issued-second g → State
state g c = read_from c.self.inside.memory c.self.inside.state.state

abbrev entries : (g : given.Over) → After-issued-second g → List Entry
entries g c = c.self.inside.ledger.entries

-- the first ticket's entry
first : (g : given.Over) (c : After-issued-second g)
    → (k : ℕ) × IsIssued (entries g c) k (shown c.args.first) × (c.redeemed-part.new.ledger.entries ≡ set (entries g c) k (entry_of (shown c.args.first) false))
first g c = redeemed_ticket c.args.first (entries g c) c.redeemed-part.new.ledger.entries c.redeemed-part.ensures.entries

-- the second one's, once the first is redeemed
second : (g : given.Over) (c : After-issued-second g)
    → (k : ℕ) × IsIssued (set (entries g c) (first g c).0 (entry_of (shown c.args.first) false)) k (shown c.args.second)
    × (c.redeemed-other.new.ledger.entries ≡ set (set (entries g c) (first g c).0 (entry_of (shown c.args.first) false)) k (entry_of (shown c.args.second) false))
second g c =
    let (k, is, after) = redeemed_ticket c.args.second c.redeemed-part.new.ledger.entries c.redeemed-other.new.ledger.entries c.redeemed-other.ensures.entries in
    let old = (first g c).2 in
    (k, subst (λ (es : List Entry). IsIssued es k (shown c.args.second)) old is, after ∙ ap (λ (es : List Entry). set es k (entry_of (shown c.args.second) false)) old)

one : (g : given.Over) (c : After-issued-second g) → IsPayload (state g c) (shown c.args.first)
one g c = c.self.invariant.tickets.issued (first g c).0 (shown c.args.first) (first g c).1

other : (g : given.Over) (c : After-issued-second g) → IsPayload (state g c) (shown c.args.second)
other g c =
    c.self.invariant.tickets.issued (second g c).0 (shown c.args.second)
    (both_issued (entries g c) (state g c) c.self.invariant.tickets (first g c).0 (second g c).0 (shown c.args.first) (shown c.args.second) (first g c).1 (second g c).1)

differ : (g : given.Over) (c : After-issued-second g) → c.args.first.start ≢ c.args.second.start
differ g c = both_apart (entries g c) (state g c) c.self.invariant.tickets (first g c).0 (second g c).0 (shown c.args.first) (shown c.args.second) (first g c).1 (second g c).1

pub redeemed-part-requires : goal.redeemed-part-requires
redeemed-part-requires g c = ap (λ (o : Identity). o.ledger) c.requires.first ∙ sym (ap (λ (o : HeapView). o.identity.ledger) c.self.view_is)

pub redeemed-other-requires : goal.redeemed-other-requires
redeemed-other-requires g c = ap (λ (o : Identity). o.ledger) c.requires.second ∙ sym (ap (λ (o : HeapView). o.identity.ledger) c.self.view_is)
    ∙ sym c.redeemed-part.ensures.name

pub invariant_of-self : goal.invariant_of-self
invariant_of-self g c =
    let v = ap shown c.redeemed-part.ensures.parts in
    let w = ap shown c.redeemed-other.ensures.parts in
    let all = c.issued-second.ensures.entries
    ∙ (λ i. c.issued-first.ensures.entries i ++ entry_of (w i) true ∷ [])
    ∙ (λ i. ((second g c).2 i ++ entry_of (v i) true ∷ []) ++ entry_of (shown c.args.second) true ∷ []) in
    record {
      valid = c.self.invariant.valid;
      stands = c.self.invariant.stands;
      is_bare = c.self.invariant.is_bare;
      tickets = subst (AreIssued (state g c)) (sym all)
          (issued-again (entries g c) (state g c) c.self.invariant.tickets (first g c).0 (second g c).0 (shown c.args.first) (shown c.args.second) (first g c).1 (second g c).1);
      counted = c.self.invariant.counted;
      rest = c.self.invariant.rest;
    }

pub returns : goal.returns
returns g c =
    let w = c.self.invariant.stands.well_formed in
    let a = c.redeemed-part.ensures in
    let b = c.redeemed-other.ensures in
    let names = b.name ∙ a.name in
    let kept = c.issued-first.ensures.name ∙ names in
    let ledger = sym (ap (λ (o : HeapView). o.identity.ledger) c.self.view_is) in
    record {
      heap = (λ i. heap_view c.self.inside.memory c.self.inside.table c.self.inside.state.state ((c.issued-second.ensures.name ∙ kept) i) c.self.inside.lent) ∙ c.self.view_is;
      payloads = (
        c.issued-first.ensures.payload
            ∙ ap (λ n. payload_view c.redeemed-part.result.0 c.redeemed-part.result.1 n) (names ∙ sym (ap (λ (o : Identity). o.ledger) c.requires.first ∙ ledger)) ∙ a.parts,
        c.issued-second.ensures.payload
            ∙ ap (λ n. payload_view c.redeemed-other.result.0 c.redeemed-other.result.1 n) (kept ∙ sym (ap (λ (o : Identity). o.ledger) c.requires.second ∙ ledger)) ∙ b.parts,
      );
      differ = differ g c;
      apart = shown_apart w (shown c.args.first) (shown c.args.second) (one g c) (other g c) (differ g c);
      first = subst (λ (o : HeapView). IsOut o.state c.args.first) c.self.view_is (record {
        live = shown_live w (shown c.args.first) (one g c);
        long = shown_long w (shown c.args.first) (one g c);
        aligned = shown_aligned w (shown c.args.first) (one g c);
        inside = shown_inside w (shown c.args.first) (one g c);
      });
      second = subst (λ (o : HeapView). IsOut o.state c.args.second) c.self.view_is (record {
        live = shown_live w (shown c.args.second) (other g c);
        long = shown_long w (shown c.args.second) (other g c);
        aligned = shown_aligned w (shown c.args.second) (other g c);
        inside = shown_inside w (shown c.args.second) (other g c);
      });
    }
