use Rattle.std.proofs.Common.{length, false, set, arith, refl, sym, ap, ◌∙◌}
use Rattle.rlsf_base.specs.Ledger.{Extent, entry_of, extent}
use Rattle.rlsf_heap.specs.Heap.{PayloadView, payload_view}
use Rattle.rlsf_heap.specs.Kept.{NoneBecomesRaw}
use Rattle.rlsf_heap.proofs.Kept.{raw-stays, settled-stays}
use Rattle.rlsf_heap.proofs.OnCores.{stays}
use Rattle.rlsf_heap.proofs.Released.{IsGiven, IsHeap-given, as_part, bounds_given, chunks_given, core_given, found_given, freed_given, gone_given, keeps_given, one_less, step_given}
use Rattle.rlsf_heap.proofs.Tickets.{live}
use Rattle.rlsf_heap.proofs.TakenBack.{IsBack, back_as, given_back, raw_back, settled_before, without}
use Rattle.rlsf_heap.proofs.heap.Heap.put_written.Given as given
use Rattle.rlsf_heap.proofs.heap.Heap.put_written.Goals as goal
use Rattle.rlsf_heap.proofs.heap.Heap.put_written.Goals.{After-put_thin_back}

-- the part's bytes are back
module _ (g : given.Over) (c : After-put_thin_back g) where
  abbrev pay : PayloadView
  pay = payload_view c.args.bytes.piece c.args.ticket.align c.args.ticket.name

  abbrev back : IsBack c.self.inside.memory c.put_thin_back.new.self c.self.inside.ledger.entries
      (set c.self.inside.ledger.entries c.args.ticket.key (entry_of (extent c.args.ticket.addr c.args.ticket.len c.args.ticket.align) false)) pay
  back =
      let e = c.put_thin_back.ensures in
      back_as pay c.requires.ticket c.redeem.ensures.issued e.memory e.back.len e.counts
      (without c.args.ticket.key (extent c.args.ticket.addr c.args.ticket.len c.args.ticket.align) c.redeem.ensures.issued refl)

  all_back : IsGiven g.row.FLLEN g.row.SLLEN c.self.inside.memory c.put_thin_back.new.self c.self.inside.table c.self.inside.state.state c.self.inside.ledger.entries
      c.args.ticket.key (extent c.args.bytes.piece.start (length c.args.bytes.piece.bytes) c.args.ticket.align)
  all_back = given_back c.self.invariant pay back

pub deallocate_in-requires : goal.deallocate_in-requires
deallocate_in-requires g c =
    let b = all_back g (goal.at.deallocate_in-requires g c).After-put_thin_back in
    (omega arith, (core_given c.self.invariant b g.FLBitmap.BitPattern.width_limit, found_given c.self.invariant b c.args.align (sym c.requires.bytes.0) c.requires.align))

pub overflow_sub-self : goal.overflow_sub-self
overflow_sub-self g c =
    let b = all_back g (goal.at.overflow_sub-self g c).After-put_thin_back in
    omega (arith, one_less c.self.invariant b c.deallocate_in.ensures.left (sym c.requires.bytes.0) c.deallocate_in.ensures.step)

pub invariant_of-self : goal.invariant_of-self
invariant_of-self g c =
    IsHeap-given c.self.invariant (all_back g (goal.at.invariant_of-self g c).After-put_thin_back) c.deallocate_in.ensures.left (sym c.requires.bytes.0)
    c.deallocate_in.ensures.step c.redeem.new.self.entries
    (c.redeem.ensures.entries ∙ ap (λ (v : Extent). set c.self.inside.ledger.entries c.args.ticket.key (entry_of v false)) (as_part c.args.bytes.piece c.requires.ticket))

pub returns : goal.returns
unfolding NoneBecomesRaw
returns g c =
    let is = c.self.invariant in
    let d = (goal.at.returns g c).After-put_thin_back in
    let b = all_back g d in
    let e = c.put_thin_back.ensures in
    let f = c.deallocate_in.ensures in
    let at = sym c.requires.bytes.0 in
    rw (← c.self.view_is) (record {
      step = step_given is b f.left at f.step c.redeem.new.self.name;
      owner = e.away;
      live = live b.shown;
      result = gone_given is b f.left at f.step;
      freed = freed_given is b f.left at f.step;
      bounds = bounds_given is b f.left at f.step;
      frame = record {
        heap = keeps_given is b f.left at f.step c.self.inside.ledger.name c.redeem.new.self.name c.redeem.ensures.name;
        raw = λ a from here. raw_back is (pay g d) (back g d) a from (raw-stays (stays f.left) a (omega (arith, from, e.memory.start)) here);
        settled = λ settled. settled-stays (stays f.left) (settled_before is (pay g d) (back g d) settled);
        chunks = chunks_given is b f.left at f.step;
        copied = omega (arith, e.counts.1, f.left.costs.copied);
      };
      touches = omega (arith, e.counts.0, f.left.costs.touches);
    })
