use Rattle.std.proofs.Common.{◌-◌, Some, None, arith, sym, ◌∙◌, subst}
use Rattle.rlsf_base.specs.Addr.{at}
use Rattle.rlsf_blocks.proofs.Words.NonZeroNumbers.{number, on_none, on_some}
use Rattle.rlsf_tlsf.specs.Allocator.{Steps, allocator}
use Rattle.rlsf_tlsf.specs.Results.{IsReallocatedAnyAlign}
use Rattle.rlsf_tlsf.specs.UnknownAlign.{ReallocatesAnyAlign}
use Rattle.rlsf_tlsf.proofs.Arrivals.{some_inside}
use Rattle.rlsf_tlsf.proofs.LiveBytes.{budget_allows_any}
use Rattle.rlsf_tlsf.proofs.Opened.{IsAllocator-opened, view-opened}
use Rattle.rlsf_tlsf.proofs.Replied.{some_answer}
use Rattle.rlsf_tlsf.proofs.Whole.{core_again, Steps-left}
use Rattle.rlsf_tlsf.proofs.tlsf.Tlsf.reallocate_unknown_align.Goals as goal

pub reallocate_unknown_align_in-requires : goal.reallocate_unknown_align_in-requires
reallocate_unknown_align_in-requires g c =
    let is = IsAllocator-opened c.self-inside.view_is c.self.invariant in
    let (u, holds) = some_inside is c.args.self.now (view-opened c.self-inside.view_is c.self.view_is) (at c.args.addr) c.requires in (
      omega arith,
      (core_again c.self-inside.view_is c.self.invariant g.FLBitmap.BitPattern.width_limit, ((u, (holds.0, holds.1 ∙ sym c.get.ensures.value)), is.whole)),
    )

pub returns-in-Some : goal.returns-in-Some
returns-in-Some g c =
    let is = IsAllocator-opened c.self-inside.view_is c.self.invariant in
    let before = allocator c.self-inside.inside.0.0.inner c.self-inside.inside.0.1.0 c.self-inside.inside.0.1.1.0.state in
    let after = allocator c.reallocate_unknown_align_in.new.memory c.reallocate_unknown_align_in.new.table c.reallocate_unknown_align_in.new.state.state in
    let e = c.in-Some.ensures in
    let to = c.in-Some.to in
    let answer = (number c.new.result to c.new.ensures).1 e.result.0 in
    let size = c.args.layout.size in
    let align = c.args.layout.align in
    rw (← view-opened c.self-inside.view_is c.self.view_is) (rw (← c.get.ensures.value) (record {
      step = subst (λ o. Steps g.row.FLLEN g.row.SLLEN before after (ReallocatesAnyAlign g.row.SLLEN before.state c.get.result size align o)) (sym answer)
          (Steps-left is {copies = after.memory.copied - before.memory.copied} e.left (ReallocatesAnyAlign g.row.SLLEN before.state c.get.result size align (Some to)) e.step);
      result = on_some (IsReallocatedAnyAlign before.state after.state c.get.result size align) c.new.result to c.new.ensures e.result.1;
      room = record {
        bounds = λ count most widest sized few short fits. some_answer c.new.result to answer;
        budget = λ count bytes most widest sized few little short fits. some_answer c.new.result to answer;
      };
      bounds = e.bounds;
      refused = on_none c.new.result to c.new.ensures (λ zero. absurd (omega (arith, e.result.0, zero)));
      frame = e.frame;
      touches = e.left.costs.touches;
    }))

pub returns-in-None : goal.returns-in-None
returns-in-None g c =
    let is = IsAllocator-opened c.self-inside.view_is c.self.invariant in
    let before = allocator c.self-inside.inside.0.0.inner c.self-inside.inside.0.1.0 c.self-inside.inside.0.1.1.0.state in
    let after = allocator c.reallocate_unknown_align_in.new.memory c.reallocate_unknown_align_in.new.table c.reallocate_unknown_align_in.new.state.state in
    let e = c.in-None.ensures in
    rw (← view-opened c.self-inside.view_is c.self.view_is) (rw (← c.get.ensures.value) (record {
      step = Steps-left is {copies = after.memory.copied - before.memory.copied} e.left
          (ReallocatesAnyAlign g.row.SLLEN before.state c.get.result c.args.layout.size c.args.layout.align None) e.step;
      result = tt;
      room = record { bounds = e.room; budget = budget_allows_any is.stands.well_formed after.state c.get.result c.args.layout.size c.args.layout.align _ e.step };
      bounds = e.bounds;
      refused = e.refused;
      frame = e.frame;
      touches = e.left.costs.touches;
    }))
