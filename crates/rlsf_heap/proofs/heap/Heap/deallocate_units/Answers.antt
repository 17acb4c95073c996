use Rattle.std.proofs.Common.{arith, sym, subst, ◌∙◌}
use Rattle.rlsf_base.specs.Ledger.{extent}
use Rattle.rlsf_base.specs.MemoryCalls.{IsSpaceWith}
use Rattle.rlsf_base.specs.OpenSpace.{out_raw}
use Rattle.rlsf_base.specs.Range.{range_at}
use Rattle.rlsf_heap.specs.Kept.{NoneBecomesRawBeside}
use Rattle.rlsf_heap.proofs.Kept.{raw-back}
use Rattle.rlsf_heap.proofs.OnCores.{stays}
use Rattle.rlsf_heap.proofs.Released.{IsGiven, IsHeap-given, bounds_given, chunks_given, core_given, gone_given, keeps_given, one_less, raw_given, step_given, begins_at, readable}
use Rattle.rlsf_heap.proofs.Released.{start-fits}
use Rattle.rlsf_heap.proofs.Tickets.{all_behind, lies}
use Rattle.rlsf_heap.proofs.heap.Heap.deallocate_units.Given as given
use Rattle.rlsf_heap.proofs.heap.Heap.deallocate_units.Goals as goal
use Rattle.rlsf_heap.proofs.heap.Heap.deallocate_units.Goals.{After-put_unit_payload-block}

pub put_unit_payload-block-requires-clause-readable : goal.put_unit_payload-block-requires-clause-readable
put_unit_payload-block-requires-clause-readable g c = λ is. readable (record { stands = c.self.invariant.stands; tickets = c.self.invariant.tickets; issued = is })

-- none of its bytes stay with their owner
memory : (g : given.Over) (c : After-put_unit_payload-block g) → IsSpaceWith c.self.inside.memory c.put_unit_payload-block.new.self c.self.inside.memory.bytes
    (out_raw c.self.inside.memory (range_at c.args.payload.start c.args.payload.len))
memory g c =
    subst (λ r. IsSpaceWith c.self.inside.memory c.put_unit_payload-block.new.self c.self.inside.memory.bytes (out_raw c.self.inside.memory r))
    (all_behind c.args.payload.start c.args.payload.len c.args.payload.kept c.requires.1) c.put_unit_payload-block.ensures.memory

-- the payload's units are back
back : (g : given.Over) (c : After-put_unit_payload-block g) → IsGiven g.row.FLLEN g.row.SLLEN c.self.inside.memory c.put_unit_payload-block.new.self c.self.inside.table
    c.self.inside.state.state c.self.inside.ledger.entries c.args.payload.key (extent c.args.payload.start c.args.payload.len 16)
back g c =
    let e = c.put_unit_payload-block.ensures in
    raw_given (record { stands = c.self.invariant.stands; tickets = c.self.invariant.tickets; issued = e.issued }) (memory g c) (omega (arith, e.counts.0))

pub overflow_add-block : goal.overflow_add-block
overflow_add-block g c =
    let b = back g (goal.at.overflow_add-block g c).After-put_unit_payload-block in
    record { fits = omega (arith, (begins_at b.shown c.put_unit_payload-block.result c.put_unit_payload-block.ensures.word).1, start-fits b.shown) }

pub deallocate_block_in-requires : goal.deallocate_block_in-requires
deallocate_block_in-requires g c =
    let b = back g (goal.at.deallocate_block_in-requires g c).After-put_unit_payload-block in
    let (starts, at) = begins_at b.shown c.put_unit_payload-block.result c.put_unit_payload-block.ensures.word in
    (omega arith, (core_given c.self.invariant b g.FLBitmap.BitPattern.width_limit, (b.used, (b.holds.0, b.holds.1 ∙ sym at), b.begins ∙ starts, b.own)))

pub overflow_sub-self : goal.overflow_sub-self
overflow_sub-self g c =
    let b = back g (goal.at.overflow_sub-self g c).After-put_unit_payload-block in
    let at = (begins_at b.shown c.put_unit_payload-block.result c.put_unit_payload-block.ensures.word).1 in
    omega (arith, one_less c.self.invariant b c.deallocate_block_in.ensures.left at c.deallocate_block_in.ensures.step)

pub invariant_of-self : goal.invariant_of-self
invariant_of-self g c =
    let b = back g (goal.at.invariant_of-self g c).After-put_unit_payload-block in
    let at = (begins_at b.shown c.put_unit_payload-block.result c.put_unit_payload-block.ensures.word).1 in
    IsHeap-given c.self.invariant b c.deallocate_block_in.ensures.left at c.deallocate_block_in.ensures.step c.put_unit_payload-block.new.ledger.entries
    c.put_unit_payload-block.ensures.ledger.1

pub returns : goal.returns
unfolding NoneBecomesRawBeside
returns g c =
    let is = c.self.invariant in
    let b = back g (goal.at.returns g c).After-put_unit_payload-block in
    let e = c.put_unit_payload-block.ensures in
    let f = c.deallocate_block_in.ensures in
    let name = c.put_unit_payload-block.new.ledger.name in
    let at = (begins_at b.shown c.put_unit_payload-block.result e.word).1 in
    rw (← c.self.view_is) (record {
      step = step_given is b f.left at f.step name;
      result = gone_given is b f.left at f.step;
      bounds = bounds_given is b f.left at f.step;
      frame = record {
        heap = keeps_given is b f.left at f.step c.self.inside.ledger.name name e.ledger.0;
        raw = raw-back c.self.inside.memory c.put_unit_payload-block.new.self c.deallocate_block_in.new.memory (range_at c.args.payload.start c.args.payload.len) e.memory.start
            (lies b.shown).0 (memory g (goal.at.returns g c).After-put_unit_payload-block).out (stays f.left);
        chunks = chunks_given is b f.left at f.step;
        copied = omega (arith, e.counts.1, f.left.costs.copied);
      };
      touches = omega (arith, e.counts.0, f.left.costs.touches);
    })
