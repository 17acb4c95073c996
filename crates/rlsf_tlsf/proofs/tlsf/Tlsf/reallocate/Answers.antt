use Rattle.std.proofs.Common.{◌≡◌, ◌-◌, Some, None, arith, sym, ◌∙◌, subst}
use Rattle.std.proofs.lemmas.Bool.{false≢true}
use Rattle.rlsf_base.specs.Addr.{at}
use Rattle.rlsf_base.proofs.Lending.Present.{here-none}
use Rattle.rlsf_model.specs.Callers.{align_at}
use Rattle.rlsf_model.specs.Reallocate.{Reallocates}
use Rattle.rlsf_model.specs.State.{usable}
use Rattle.rlsf_blocks.proofs.Words.NonZeroNumbers.{number, on_none, on_some}
use Rattle.rlsf_tlsf.specs.Allocator.{Allocator, Steps, allocator}
use Rattle.rlsf_tlsf.specs.Results.{IsReallocated}
use Rattle.rlsf_tlsf.proofs.Arrivals.{live_inside}
use Rattle.rlsf_tlsf.proofs.LiveBytes.{budget_allows_again, bytes_resized}
use Rattle.rlsf_tlsf.proofs.Opened.{IsAllocator-opened, view-opened}
use Rattle.rlsf_tlsf.proofs.Replied.{some_answer}
use Rattle.rlsf_tlsf.proofs.Whole.{core_again, Steps-left}
use Rattle.rlsf_tlsf.proofs.tlsf.Tlsf.reallocate.Goals as goal

pub reallocate_in-requires : goal.reallocate_in-requires
reallocate_in-requires g c =
    let is = IsAllocator-opened c.self-inside.view_is c.self.invariant in
    let (u, holds, wide) = live_inside is c.args.self.now (view-opened c.self-inside.view_is c.self.view_is) (at c.args.addr) c.args.layout.align c.requires in
    let here = here-none c.self-inside.inside.0.0.inner (usable u) is.whole in
    let at = holds.1 ∙ sym c.get.ensures.value in
    (omega arith, (core_again c.self-inside.view_is c.self.invariant g.FLBitmap.BitPattern.width_limit, ((u, (holds.0, at), wide, here), λ one. is.whole)))

pub returns-in-Some : goal.returns-in-Some
returns-in-Some g c =
    let is = IsAllocator-opened c.self-inside.view_is c.self.invariant in
    let before = allocator c.self-inside.inside.0.0.inner c.self-inside.inside.0.1.0 c.self-inside.inside.0.1.1.0.state in
    let after = allocator c.reallocate_in.new.memory c.reallocate_in.new.table c.reallocate_in.new.state.state in
    let e = c.in-Some.ensures in
    let to = c.in-Some.to in
    let answer = (number c.new.result to c.new.ensures).1 e.result.some in
    let addr = at c.args.addr in
    let size = c.args.layout.size in
    let live = subst (λ a. align_at before.state a ≡ Some c.args.layout.align) (sym c.get.ensures.value)
    (subst (λ (o : Allocator). align_at o.state addr ≡ Some c.args.layout.align) (sym (view-opened c.self-inside.view_is c.self.view_is)) c.requires) in
    rw (← view-opened c.self-inside.view_is c.self.view_is) (rw (← c.get.ensures.value) (record {
      step = subst (λ o. Steps g.row.FLLEN g.row.SLLEN before after (Reallocates g.row.SLLEN before.state c.get.result size o)) (sym answer)
          (Steps-left is {copies = after.memory.copied - before.memory.copied} e.left (Reallocates g.row.SLLEN before.state c.get.result size (Some to)) e.step);
      result = on_some (IsReallocated before.state after.state c.get.result size c.args.layout.align) c.new.result to c.new.ensures e.result.made;
      room = record {
        bounds = λ count most widest sized few short fits. some_answer c.new.result to answer;
        budget = λ count bytes most widest sized few little short fits. some_answer c.new.result to answer;
        bytes = λ some. bytes_resized is.stands.well_formed after.state c.get.result size c.args.layout.align to live e.step;
      };
      bounds = e.bounds;
      refused = on_none c.new.result to c.new.ensures (λ zero. absurd (omega (arith, e.result.some, zero)));
      frame = e.frame;
      touches = e.left.costs.touches;
    }))

pub returns-in-None : goal.returns-in-None
returns-in-None g c =
    let is = IsAllocator-opened c.self-inside.view_is c.self.invariant in
    let before = allocator c.self-inside.inside.0.0.inner c.self-inside.inside.0.1.0 c.self-inside.inside.0.1.1.0.state in
    let after = allocator c.reallocate_in.new.memory c.reallocate_in.new.table c.reallocate_in.new.state.state in
    let e = c.in-None.ensures in
    let live = subst (λ a. align_at before.state a ≡ Some c.args.layout.align) (sym c.get.ensures.value)
    (subst (λ (o : Allocator). align_at o.state (at c.args.addr) ≡ Some c.args.layout.align) (sym (view-opened c.self-inside.view_is c.self.view_is)) c.requires) in
    rw (← view-opened c.self-inside.view_is c.self.view_is) (rw (← c.get.ensures.value) (record {
      step = Steps-left is {copies = after.memory.copied - before.memory.copied} e.left (Reallocates g.row.SLLEN before.state c.get.result c.args.layout.size None) e.step;
      result = tt;
      room = record {
        bounds = e.room;
        budget = budget_allows_again is.stands.well_formed after.state c.get.result c.args.layout.size c.args.layout.align _ live e.step;
        bytes = λ some. absurd (false≢true some);
      };
      bounds = e.bounds;
      refused = e.refused;
      frame = e.frame;
      touches = e.left.costs.touches;
    }))
