use Rattle.std.proofs.Common.{◌≡◌, ◌≢◌, ◌≤◌, ℕ, ◌+◌, ◌-◌, ◌++◌, ◌∷◌, [], true, false, set, length, List, arith, refl, sym, ap, subst, ◌∙◌}
use Rattle.rlsf_base.specs.Ledger.{Entry, Extent, IsIssued, entry_of, extent}
use Rattle.rlsf_base.specs.Piece.{HasStatesOf}
use Rattle.rlsf_base.specs.Range.{range_at}
use Rattle.rlsf_model_sizes.specs.Rounding.{round32}
use Rattle.rlsf_model.specs.Callers.{align_at, bytes_at}
use Rattle.rlsf_model.specs.NoMove.{ReallocatesWithoutMove}
use Rattle.rlsf_model.specs.Sized.{IsSizedFor}
use Rattle.rlsf_model.specs.State.{State}
use Rattle.rlsf_model.proofs.CallerWords.{align_at-live}
use Rattle.rlsf_model.proofs.Coverage.{by_test}
use Rattle.rlsf_blocks.specs.Laws.{read_from}
use Rattle.rlsf_tlsf.specs.CoreResizes.{KeepsBoundsThere, KeepsPayloadsResizing, stayed_if}
use Rattle.rlsf_tlsf.specs.Moving.{span}
use Rattle.rlsf_tlsf.specs.Results.{IsResized}
use Rattle.rlsf_tlsf.proofs.Reached.{read_from-counted}
use Rattle.rlsf_tlsf.proofs.Relocated.{ends_held}
use Rattle.rlsf_heap.specs.Handover.{IsHandedOver}
use Rattle.rlsf_heap.specs.Heap.{AreIssued, HeapView, Identity, IsPayload, PayloadView, payload_view}
use Rattle.rlsf_heap.proofs.Tickets.{issued_renewed}
use Rattle.rlsf_heap.proofs.TakenBack.{IsAt, IsBack, IsHeap-over, back_as, raw_over, settled_last, core_back, found_back, here_there, keeps_over, lies_over, live_back, live_before, no_room, own_over}
use Rattle.rlsf_heap.proofs.TakenBack.{range_back, reads_over, refused_over, resized_over, seen_back, sized_back, sized_over, step_over, there_at, bytes_are, without}
use Rattle.rlsf_heap.proofs.heap.Heap.resize_part.Given as given
use Rattle.rlsf_heap.proofs.heap.Heap.resize_part.Goals as goal
use Rattle.rlsf_heap.proofs.heap.Heap.resize_part.Goals.{After-renewed-ticket-2, After-resize_in-done}

-- ---- the payload is back in the memory

pub resize_in-done-requires : goal.resize_in-done-requires
resize_in-done-requires g c =
    let pay = payload_view c.args.part c.args.ticket.align c.args.ticket.name in
    let e = c.put_back.ensures in
    let issued = c.renewed-ticket.ensures.issued in
    let back = back_as pay c.requires.ticket issued e.memory e.back.len e.counts (without _ _ issued refl) in (
      omega arith,
      (
        core_back c.self.invariant pay back g.FLBitmap.BitPattern.width_limit,
        found_back c.self.invariant pay back c.args.align c.start-addr.ensures c.requires.align,
      ),
    )

-- ---- after the core's call

module _ (g : given.Over) (c : After-resize_in-done g) where
  -- the payload, as its part and its ticket show it
  abbrev pay : PayloadView
  pay = payload_view c.args.part c.args.ticket.align c.args.ticket.name

  abbrev was : Extent
  was = extent c.args.ticket.addr c.args.ticket.len c.args.ticket.align

  back_by : {fs : List Entry} → ((s : State) → AreIssued s c.self.inside.ledger.entries
      → AreIssued s fs × ((i : ℕ) (w : Extent) → IsIssued fs i w → w.addr ≢ c.args.ticket.addr))
      → IsBack c.self.inside.memory c.put_back.new.self c.self.inside.ledger.entries fs pay
  back_by =
      let e = c.put_back.ensures in
      back_as pay c.requires.ticket c.renewed-ticket.ensures.issued e.memory e.back.len e.counts

  back : IsBack c.self.inside.memory c.put_back.new.self c.self.inside.ledger.entries (set c.self.inside.ledger.entries c.args.ticket.key (entry_of was false)) pay
  back = back_by (without c.args.ticket.key was c.renewed-ticket.ensures.issued refl)

  abbrev s : State
  s = read_from c.put_back.new.self c.self.inside.state.state

  abbrev t : State
  t = read_from c.resize_in-done.new.memory c.resize_in-done.new.state.state

  -- what is so of the address as a number is so of the part's
  told : (So : ℕ → Type 0) → So c.start-addr.result → So c.args.part.start
  told So so = subst So c.start-addr.ensures so

  kept : KeepsPayloadsResizing s t c.args.part.start
  kept = told (KeepsPayloadsResizing s t) c.resize_in-done.ensures.kept

  there : IsAt c.resize_in-done.new.memory s t c.args.part.start c.args.ticket.align c.args.part.start
  there = there_at c.self.invariant pay back c.resize_in-done.ensures.left kept

  same : c.resize_in-done.result ≡ false → t ≡ s
  same refused =
      let e = c.resize_in-done.ensures.refused refused in ap (read_from c.resize_in-done.new.memory) e.state ∙ read_from-counted e.counts c.self.inside.state.state

  resized_now : c.resize_in-done.result ≡ true → IsResized s t c.args.part.start c.args.layout.size c.args.part.start
  resized_now did = told (λ a. IsResized s t a c.args.layout.size a) (c.resize_in-done.ensures.result did)

  -- it ends at the first multiple of 32 behind its size
  ends : c.resize_in-done.result ≡ true → round32 (c.args.part.start + c.args.layout.size) ≡ c.args.part.start + length (bytes_at t c.args.part.start)
  ends did =
      let (u, holds, _) = align_at-live t c.args.part.start c.args.ticket.align there.live in
      omega (arith, (resized_now did).sized, (resized_now did).few, ends_held c.resize_in-done.ensures.left.core.stands c.args.part.start u holds)

  lies : (c.resize_in-done.new.memory.start ≤ c.args.part.start)
      × (c.args.part.start + length (bytes_at t c.args.part.start) ≤ c.resize_in-done.new.memory.start + length c.resize_in-done.new.memory.bytes)
  lies = lies_over c.self.invariant pay back c.resize_in-done.ensures.left there refl

  -- and so long is it now
  whole : (len size : ℕ) → size ≡ c.args.layout.size → (c.resize_in-done.result ≡ true → len ≡ round32 (c.start-addr.result + size) - c.start-addr.result)
      → (c.resize_in-done.result ≡ false → len ≡ c.len-was.result)
      → range_at c.start-addr.result len ≡ span t c.args.part.start c.args.part.start
  whole len size sizes now before =
      range_back c.self.invariant pay back c.resize_in-done.ensures.left kept c.start-addr.ensures (by_test c.resize_in-done.result
      (λ did. omega (arith, now did, ends did, c.start-addr.ensures, sizes))
      (λ refused. before refused ∙ c.len-was.ensures ∙ sym (ap length (ap (λ (u : State). bytes_at u c.args.part.start) (same refused) ∙ bytes_are c.self.invariant pay back))))

pub length_now-len-requires : goal.length_now-len-requires
length_now-len-requires g c = λ yes.
    let d = (goal.at.length_now-len-requires g c).After-resize_in-done in
    omega (arith, ends g d yes, c.start-addr.ensures, c.size.ensures, lies g d, c.resize_in-done.ensures.left.core.stands.well_formed.addressable)

pub take_out-part-requires-clause-place : goal.take_out-part-requires-clause-place
take_out-part-requires-clause-place g c =
    let f = (goal.at.take_out-part-requires-clause-place g c).After-resize_in-done in
    lies_over c.self.invariant (pay g f) (back g f) c.resize_in-done.ensures.left (there g f)
    (whole g f c.length_now-len.result c.size.result c.size.ensures.value c.length_now-len.ensures.done c.length_now-len.ensures.kept)

pub take_out-part-requires-clause-own : goal.take_out-part-requires-clause-own
take_out-part-requires-clause-own g c =
    let f = (goal.at.take_out-part-requires-clause-own g c).After-resize_in-done in
    own_over c.self.invariant (pay g f) (back g f) c.resize_in-done.ensures.left (there g f)
    (whole g f c.length_now-len.result c.size.result c.size.ensures.value c.length_now-len.ensures.done c.length_now-len.ensures.kept)

-- ---- its bytes leave, and its ticket is renewed again

module _ (g : given.Over) (c : After-renewed-ticket-2 g) where
  abbrev f : After-resize_in-done g
  f = (goal.at.returns g c).After-resize_in-done

  abbrev new : PayloadView
  new = payload_view c.take_out-part.result c.renewed-ticket-2.result.align c.renewed-ticket-2.result.name

  abbrev again : Extent
  again = extent c.renewed-ticket.result.addr c.renewed-ticket.result.len c.renewed-ticket.result.align

  abbrev rest : List Entry
  rest = set c.renewed-ticket.new.ledger.entries c.renewed-ticket.result.key (entry_of again false)

  at_part : c.renewed-ticket.result.addr ≡ c.args.part.start
  at_part = c.renewed-ticket.ensures.ticket.1 ∙ sym c.requires.ticket.0

  back_last : IsBack c.self.inside.memory c.put_back.new.self c.self.inside.ledger.entries rest (pay g f)
  back_last = back_by g f (λ s tickets.
      let first = was g f in
      let is = c.renewed-ticket.ensures.issued in
      let long = subst (λ n. IsPayload s (extent c.args.ticket.addr n c.args.ticket.align)) (sym (c.len-was.ensures ∙ c.requires.ticket.1))
      (tickets.issued c.args.ticket.key first is) in
      let less = without c.renewed-ticket.result.key again c.renewed-ticket-2.ensures.issued refl s (subst (AreIssued s) (sym c.renewed-ticket.ensures.ledger.1)
      (issued_renewed c.args.ticket.key first c.len-was.result tickets is (λ e there apart. there) long)) in
      (less.0, λ i w issued same. less.1 i w issued (same ∙ sym c.renewed-ticket.ensures.ticket.1)))

  over : IsHandedOver c.resize_in-done.new.memory c.take_out-part.new.self (range_at c.start-addr.result c.length_now-len.result) c.renewed-ticket.result.align
      c.renewed-ticket-2.result.name rest c.renewed-ticket-2.new.ledger.entries new
  unfolding HasStatesOf
  over =
      let e = c.take_out-part.ensures in record {
        identity = λ i. record { home = e.part.home i; ledger = c.renewed-ticket-2.result.name };
        at = e.part.start;
        align = c.renewed-ticket-2.ensures.ticket.3;
        values = e.part.bytes;
        long = e.part.len;
        states = e.part.kept;
        full = e.part.full;
        memory = e.memory;
        counts = e.counts;
        entries = c.renewed-ticket-2.ensures.ledger.1
            ∙ (λ i. rest ++ entry_of (extent ((at_part ∙ sym c.start-addr.ensures) i) c.length_now-len.result c.renewed-ticket.result.align) true ∷ []);
      }

  range : range_at c.start-addr.result c.length_now-len.result ≡ span (t g f) c.args.part.start c.args.part.start
  range = whole g f c.length_now-len.result c.size.result c.size.ensures.value c.length_now-len.ensures.done c.length_now-len.ensures.kept

pub invariant_of-self : goal.invariant_of-self
invariant_of-self g c =
    let e = (goal.at.invariant_of-self g c).After-renewed-ticket-2 in
    IsHeap-over c.self.invariant (pay g (f g e)) (back_last g e) c.resize_in-done.ensures.left (there g (f g e)) (range g e) c.renewed-ticket.ensures.ticket.3 (over g e)
    (kept g (f g e)).chunks

pub returns : goal.returns
returns g c =
    let h = (goal.at.returns g c).After-renewed-ticket-2 in
    let f = f g h in
    let is = c.self.invariant in
    let pay = pay g f in
    let back = back_last g h in
    let e = c.resize_in-done.ensures in
    let put = c.put_back.ensures in
    let take = c.take_out-part.ensures in
    let kept = kept g f in
    let at = there g f in
    let whole = range g h in
    let aligned = c.renewed-ticket.ensures.ticket.3 in
    let over = over g h in
    let size = c.args.layout.size in
    let m = c.self.inside.memory in
    let before = read_from m c.self.inside.state.state in
    let ledger = c.self.inside.ledger.name in
    let label = c.renewed-ticket-2.new.ledger.name in
    let name : c.renewed-ticket-2.result.name ≡ ledger =
    c.renewed-ticket-2.ensures.ticket.0 ∙ c.renewed-ticket.ensures.ticket.0 ∙ ap (λ (i : Identity). i.ledger) c.requires.identity
    ∙ sym (ap (λ (v : HeapView). v.identity.ledger) c.self.view_is) in
    let here = here_there is pay back e.left kept in
    let reads = reads_over is pay back e.left at whole aligned over in
    let aligns = reads (λ (x : State). align_at x ≡ align_at before) (kept.aligns ∙ (λ i a. (seen_back is pay back).aligns a i)) in
    let Moves : ℕ → State → State → Type 0 = λ a x y. ReallocatesWithoutMove x a size (stayed_if c.resize_in-done.result a) y in
    let step = told g f (λ a. Moves a (s g f) (t g f)) e.step in
    rw (← c.self.view_is) (record {
      step = step_over is pay back e.left at whole aligned over label (Moves c.args.part.start) step;
      result = λ yes.
          let now = resized_now g f yes in record {
            resized = resized_over is pay back e.left at whole aligned over ledger label name size now.sized now.few now.kept here;
            start = take.part.start ∙ c.start-addr.ensures;
            live = live_before is pay back;
            aligns = aligns;
          };
      refused = λ no. refused_over is pay back e.left at whole aligned over ledger label name (same g f no) (e.refused no).counts.bytes refl here;
      kept = λ no. (
        λ most longest wide sized. reads (IsSizedFor g.row.SLLEN most longest wide)
            (subst (IsSizedFor g.row.SLLEN most longest wide) (sym (same g f no)) (sized_back is pay back most longest wide sized)),
        omega (arith, (e.refused no).counts.touches, put.counts.0, take.counts.0),
      );
      live = live_before is pay back;
      room = by_test c.resize_in-done.result
          (λ yes. record { enough = λ _. yes; stays = λ _. yes })
          (λ no. no_room is pay back size (c.resize_in-done.result ≡ true)
          (subst (λ b. ReallocatesWithoutMove (s g f) c.args.part.start size (stayed_if b c.args.part.start) (t g f)) no step));
      place = (take.part.start ∙ c.start-addr.ensures, c.renewed-ticket-2.ensures.ticket.3 ∙ aligned);
      ticket = (
        take.part.start ∙ c.start-addr.ensures ∙ sym (at_part g h) ∙ sym c.renewed-ticket-2.ensures.ticket.1,
        take.part.len ∙ sym c.renewed-ticket-2.ensures.ticket.2,
        refl,
      );
      bounds = sized_over is pay back e.left at whole aligned over size (λ most longest wide sized short fits.
          told g f (λ a. KeepsBoundsThere g.row.SLLEN (s g f) (t g f) a size) e.bounds most longest wide c.args.ticket.align sized (live_back is pay back) short fits);
      frame = record {
        heap = keeps_over is pay back e.left at whole aligned over kept.chunks ledger label (c.renewed-ticket-2.ensures.ledger.0 ∙ c.renewed-ticket.ensures.ledger.0);
        raw = raw_over is pay back e.left at whole aligned over ledger label;
        settled = settled_last is pay back e.left at whole aligned over;
        chunks = reads (λ (x : State). x.chunks ≡ before.chunks) kept.chunks;
        copied = take.counts.1 ∙ (let e : c.resize_in-done.new.memory.copied ≡ m.copied = omega (arith, e.left.costs.copied, put.counts.1) in e);
      };
      touches = omega (arith, e.left.costs.touches, put.counts.0, take.counts.0);
    })
