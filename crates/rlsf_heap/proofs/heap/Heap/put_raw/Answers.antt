use Rattle.std.proofs.Common.{length, false, set, arith, sym, ap, subst, ◌∙◌}
use Rattle.rlsf_base.specs.Ledger.{Extent, IsIssued, entry_of, extent}
use Rattle.rlsf_base.specs.Piece.{piece_range}
use Rattle.rlsf_heap.specs.Kept.{NoneBecomesRawBeside}
use Rattle.rlsf_heap.proofs.Kept.{raw-back}
use Rattle.rlsf_heap.proofs.OnCores.{stays}
use Rattle.rlsf_heap.proofs.Released.{IsGiven, IsHeap-given, as_part, bounds_given, chunks_given, core_given, found_given, freed_given, gone_given, keeps_given, one_less, raw_given, step_given}
use Rattle.rlsf_heap.proofs.Tickets.{lies, live}
use Rattle.rlsf_heap.proofs.heap.Heap.put_raw.Given as given
use Rattle.rlsf_heap.proofs.heap.Heap.put_raw.Goals as goal
use Rattle.rlsf_heap.proofs.heap.Heap.put_raw.Goals.{After-put_thin_room}

-- the part's bytes are back
back : (g : given.Over) (c : After-put_thin_room g) → IsGiven g.row.FLLEN g.row.SLLEN c.self.inside.memory c.put_thin_room.new.self c.self.inside.table c.self.inside.state.state
    c.self.inside.ledger.entries c.args.ticket.key (extent c.args.bytes.piece.start (length c.args.bytes.piece.bytes) c.args.ticket.align)
back g c =
    let e = c.put_thin_room.ensures in
    raw_given (record {
      stands = c.self.invariant.stands;
      tickets = c.self.invariant.tickets;
      issued = subst (IsIssued c.self.inside.ledger.entries c.args.ticket.key) (as_part c.args.bytes.piece c.requires.ticket) c.redeem.ensures.issued;
    }) e.memory (omega (arith, e.counts.0))

pub deallocate_in-requires : goal.deallocate_in-requires
deallocate_in-requires g c =
    let b = back g (goal.at.deallocate_in-requires g c).After-put_thin_room in
    (omega arith, (core_given c.self.invariant b g.FLBitmap.BitPattern.width_limit, found_given c.self.invariant b c.args.align (sym c.requires.bytes.0) c.requires.align))

pub overflow_sub-self : goal.overflow_sub-self
overflow_sub-self g c =
    let b = back g (goal.at.overflow_sub-self g c).After-put_thin_room in
    omega (arith, one_less c.self.invariant b c.deallocate_in.ensures.left (sym c.requires.bytes.0) c.deallocate_in.ensures.step)

pub invariant_of-self : goal.invariant_of-self
invariant_of-self g c =
    IsHeap-given c.self.invariant (back g (goal.at.invariant_of-self g c).After-put_thin_room) c.deallocate_in.ensures.left (sym c.requires.bytes.0) c.deallocate_in.ensures.step
    c.redeem.new.self.entries
    (c.redeem.ensures.entries ∙ ap (λ (v : Extent). set c.self.inside.ledger.entries c.args.ticket.key (entry_of v false)) (as_part c.args.bytes.piece c.requires.ticket))

pub returns : goal.returns
unfolding NoneBecomesRawBeside
returns g c =
    let is = c.self.invariant in
    let b = back g (goal.at.returns g c).After-put_thin_room in
    let q = c.put_thin_room.new.self in
    let e = c.put_thin_room.ensures in
    let f = c.deallocate_in.ensures in
    let at = sym c.requires.bytes.0 in
    rw (← c.self.view_is) (record {
      step = step_given is b f.left at f.step c.redeem.new.self.name;
      owner = e.away;
      live = live b.shown;
      result = gone_given is b f.left at f.step;
      freed = freed_given is b f.left at f.step;
      bounds = bounds_given is b f.left at f.step;
      frame = record {
        heap = keeps_given is b f.left at f.step c.self.inside.ledger.name c.redeem.new.self.name c.redeem.ensures.name;
        raw = raw-back c.self.inside.memory q c.deallocate_in.new.memory (piece_range c.args.bytes.piece) e.memory.start (lies b.shown).0 e.memory.out (stays f.left);
        chunks = chunks_given is b f.left at f.step;
        copied = omega (arith, e.counts.1, f.left.costs.copied);
      };
      touches = omega (arith, e.counts.0, f.left.costs.touches);
    })
