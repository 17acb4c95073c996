use Rattle.std.proofs.Common.{◌≡◌, ℕ, Bool, true, false, Option, Some, sym, ◌∙◌, ap, subst, arith}
use Rattle.rlsf_base.specs.Addr.{at}
use Rattle.rlsf_base.proofs.Lending.Present.{own-none}
use Rattle.rlsf_model.specs.Callers.{align_at}
use Rattle.rlsf_model.specs.NoMove.{ReallocatesWithoutMove}
use Rattle.rlsf_model.specs.State.{usable}
use Rattle.rlsf_table.proofs.Costs.{SamePlace-costs, copied_none}
use Rattle.rlsf_blocks.specs.Laws.{read_from}
use Rattle.rlsf_tlsf.specs.Allocator.{Allocator, Steps, allocator}
use Rattle.rlsf_tlsf.specs.CoreResizes.{KeepsBoundsThere, KeepsPayloadsResizing, stayed_if}
use Rattle.rlsf_tlsf.specs.Results.{IsResized, KeepsFrameInPlace}
use Rattle.rlsf_tlsf.proofs.Arrivals.{live_inside}
use Rattle.rlsf_tlsf.proofs.Opened.{IsAllocator-opened, view-opened}
use Rattle.rlsf_tlsf.proofs.Reached.{read_from-counted}
use Rattle.rlsf_tlsf.proofs.Whole.{core_again, Steps-left}
use Rattle.rlsf_tlsf.proofs.tlsf.Tlsf.reallocate_no_move.Given as given
use Rattle.rlsf_tlsf.proofs.tlsf.Tlsf.reallocate_no_move.Goals as goal
use Rattle.rlsf_tlsf.proofs.tlsf.Tlsf.reallocate_no_move.Goals.{After-resize_in}

pub resize_in-requires : goal.resize_in-requires
resize_in-requires g c =
    let is = IsAllocator-opened c.self-inside.view_is c.self.invariant in
    let (u, holds, aligned) =
    live_inside is c.args.self.now (view-opened c.self-inside.view_is c.self.view_is) (at c.args.addr) c.args.layout.align c.requires in
    let own = own-none c.self-inside.inside.0.0.inner (usable u) is.whole in
    let at = holds.1 ∙ sym c.get.ensures.value in
    (omega arith, (core_again c.self-inside.view_is c.self.invariant g.FLBitmap.BitPattern.width_limit, (u, ((holds.0, at), aligned ∙ sym c.align.ensures.value), own)))

-- ---- after the core's call

module _ (g : given.Over) (c : After-resize_in g) where
  abbrev before : Allocator
  before = allocator c.self-inside.inside.0.0.inner c.self-inside.inside.0.1.0 c.self-inside.inside.0.1.1.0.state

  abbrev after : Allocator
  after = allocator c.resize_in.new.memory c.resize_in.new.table c.resize_in.new.state.state

  -- what is so of the payload's address as a number is so of the one that the caller has
  told : (So : ℕ → Type 0) → So c.get.result → So (at c.args.addr)
  told So so = subst So c.get.ensures.value so

  step : (done : Bool) → c.resize_in.result ≡ done
      → Steps g.row.FLLEN g.row.SLLEN before after (ReallocatesWithoutMove before.state (at c.args.addr) c.args.layout.size (stayed_if done (at c.args.addr)))
  step done is =
      Steps-left (IsAllocator-opened c.self-inside.view_is c.self.invariant) c.resize_in.ensures.left
      (ReallocatesWithoutMove before.state (at c.args.addr) c.args.layout.size (stayed_if done (at c.args.addr)))
      (subst (λ b. ReallocatesWithoutMove before.state (at c.args.addr) c.args.layout.size (stayed_if b (at c.args.addr)) after.state) is
      (told (λ a. ReallocatesWithoutMove before.state a c.args.layout.size (stayed_if c.resize_in.result a) after.state) c.resize_in.ensures.step))

  live : align_at before.state (at c.args.addr) ≡ Some c.args.layout.align
  live = ap (λ (o : Allocator). align_at o.state (at c.args.addr)) (view-opened c.self-inside.view_is c.self.view_is) ∙ c.requires

  bounds : KeepsBoundsThere g.row.SLLEN before.state after.state (at c.args.addr) c.args.layout.size
  bounds = told (λ a. KeepsBoundsThere g.row.SLLEN before.state after.state a c.args.layout.size) c.resize_in.ensures.bounds

  frame : KeepsFrameInPlace (at c.args.addr) c.args.layout.align before after
  frame =
      let kept = told (KeepsPayloadsResizing before.state after.state) c.resize_in.ensures.kept in
      let costs = c.resize_in.ensures.left.costs in
      assumption (ap (λ (f : ℕ → Option ℕ). f (at c.args.addr)) kept.aligns ∙ live, kept, SamePlace-costs costs, copied_none costs, costs)

pub returns-then-not-resize_in : goal.returns-then-not-resize_in
returns-then-not-resize_in g c =
    let d = (goal.at.returns-then-not-resize_in g c).After-resize_in in
    let no = c.resize_in.ensures.refused c.if-not-resize_in.true in
    rw (← view-opened c.self-inside.view_is c.self.view_is) (record {
      step = step g d false c.if-not-resize_in.true;
      result = tt;
      bounds = λ count most widest sized short fits. bounds g d count most widest c.args.layout.align sized (live g d) short fits;
      refused = record {
        same = ap (read_from c.resize_in.new.memory) no.state ∙ read_from-counted no.counts c.self-inside.inside.0.1.1.0.state;
        bytes = no.counts.bytes;
      };
      frame = frame g d;
      touches = c.resize_in.ensures.left.costs.touches;
    })

pub returns : goal.returns
returns g c =
    let d = (goal.at.returns g c).After-resize_in in
    rw (← view-opened c.self-inside.view_is c.self.view_is) (record {
      step = step g d true c.if-not-resize_in.false;
      result = told g d (λ a. IsResized (before g d).state (after g d).state a c.args.layout.size a) (c.resize_in.ensures.result c.if-not-resize_in.false);
      bounds = λ count most widest sized short fits. bounds g d count most widest c.args.layout.align sized (live g d) short fits;
      refused = tt;
      frame = frame g d;
      touches = c.resize_in.ensures.left.costs.touches;
    })
