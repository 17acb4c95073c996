use Rattle.std.proofs.Common.{◌≡◌, ℕ, Bool, true, false, Some, None, Option, arith, refl, sym, ap, subst, ◌∙◌}
use Rattle.std.proofs.lemmas.Bool.{false≢true}
use Rattle.rlsf_base.specs.Layout.{IsLayout}
use Rattle.rlsf_model.specs.NoMove.{ReallocatesWithoutMove}
use Rattle.rlsf_model.specs.State.{filled}
use Rattle.rlsf_tlsf.specs.CoreResizes.{stayed_if}
use Rattle.rlsf_heap.specs.Heap.{PayloadView, Stands, Steps, payload_view}
use Rattle.rlsf_heap.proofs.Kept.{frame_same, refused_same}
use Rattle.rlsf_heap.proofs.heap.Heap.reallocate_no_move.Given as given
use Rattle.rlsf_heap.proofs.heap.Heap.reallocate_no_move.Goals as goal
use Rattle.rlsf_heap.proofs.heap.Heap.reallocate_no_move.Goals.{After-resize_part-done}

-- the step by part and ticket is one of the payload
step : (g : given.Over) (c : After-resize_part-done g) (done : Bool) (to : Option ℕ) → c.resize_part-done.result.0 ≡ done → stayed_if done c.args.payload.start ≡ to
    → Steps g.row.FLLEN g.row.SLLEN c.resize_part-done.new.self (λ t. IsLayout c.args.size c.args.payload.align
    → ReallocatesWithoutMove (filled c.args.self.now.state c.args.payload.start c.args.payload.bytes) c.args.payload.start c.args.size to t)
unfolding Steps
step g c done to is at =
    let t = c.into_parts-part.ensures.ticket in
    let p = c.into_parts-part.result in
    let same : payload_view p.0 p.1.align p.1.name ≡ c.args.payload = (λ i. payload_view p.0 (sym t.2 i) p.1.name) ∙ c.into_parts-part.ensures.parts in
    let did =
    subst (λ (x : PayloadView × ℕ × Bool).
    ReallocatesWithoutMove (filled c.args.self.now.state x.0.start x.0.bytes) x.0.start x.1 (stayed_if x.2 x.0.start) c.resize_part-done.new.self.state)
    (λ i. (same i, c.in-Ok.ensures.layout.0 i, is i)) c.resize_part-done.ensures.step.0 in (
      λ fits. subst (λ o. ReallocatesWithoutMove (filled c.args.self.now.state c.args.payload.start c.args.payload.bytes) c.args.payload.start c.args.size o
          c.resize_part-done.new.self.state) at did,
      c.resize_part-done.ensures.step.1,
    )

pub returns-then-not-done-clause-step : goal.returns-then-not-done-clause-step
returns-then-not-done-clause-step g c =
    step g (goal.at.returns-then-not-done-clause-step g c).After-resize_part-done false None c.if-not-done.true refl

pub returns-clause-step : goal.returns-clause-step
returns-clause-step g c =
    let start = c.resize_part-done.ensures.place.0 ∙ ap (λ (o : PayloadView). o.start) c.into_parts-part.ensures.parts in
    step g (goal.at.returns-clause-step g c).After-resize_part-done true (Some c.resize_part-done.result.1.start) c.if-not-done.false (ap Some (sym start))

-- ---- no layout has the size

pub returns-in_default : goal.returns-in_default
unfolding Steps Stands
returns-in_default g c =
    let none : IsLayout c.args.size c.args.payload.align → ⊥ =
    λ fits. false≢true (c.in_default.ensures.succeeds.1 (subst (IsLayout c.args.size) (sym c.align-align.ensures) fits)) in record {
      step = rw (← c.self.view_is) (λ fits. absurd (none fits), c.self.invariant.stands.well_formed);
      result = tt;
      bounds = record { sized = λ count most wide sized short fits. sized; count = refl };
      refused = refused_same c.args.self.now c.args.payload c.requires.identity c.requires.written;
      frame = frame_same c.args.self.now;
      touches = omega arith;
    }
