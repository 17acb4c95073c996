use Rattle.std.proofs.Common.{arith, Some, None, Ok, Err, subst, refl}
use Rattle.std.specs.declared.num.NonZeroUsize.{NonZeroUsize}
use Rattle.rlsf_base.specs.Addr.{at}
use Rattle.rlsf_model.specs.NoMove.{ReallocatesWithoutMove}
use Rattle.rlsf_tlsf.specs.Allocator.{Steps}
use Rattle.rlsf_tlsf.specs.Results.{IsResized}
use Rattle.rlsf_checked.specs.Checked.{checked}
use Rattle.rlsf_checked.specs.declared.error.CheckedError.TheVariants.{NoRoom}
use Rattle.rlsf_checked.specs.Results.{KeepsCheckedFrameInPlace}
use Rattle.rlsf_checked.specs.Steps.Lists.{listed}
use Rattle.rlsf_checked.proofs.SizeRefusals.{bounds_kept, never, not_refused, past_is_refused, refuses, unknown_is_refused}
use Rattle.rlsf_checked.proofs.FieldsOverSteps.{stands_after, unchanged}
use Rattle.rlsf_checked.proofs.Unchanged.{frame_unchanged}
use Rattle.rlsf_checked.proofs.checked.CheckedTlsf.reallocate_no_move.Given as given
use Rattle.rlsf_checked.proofs.checked.CheckedTlsf.reallocate_no_move.Goals as goal
use Rattle.rlsf_checked.proofs.checked.CheckedTlsf.reallocate_no_move.Goals.{After-reallocate_no_move}

-- what every call keeps is kept
frame_in_place : (g : given.Over) (c : After-reallocate_no_move g)
    → KeepsCheckedFrameInPlace (at c.args.addr) (checked c.self.inside.heap (listed c.self.inside.pools)) (checked c.reallocate_no_move.new.self (listed c.self.inside.pools))
frame_in_place g c = assumption c.reallocate_no_move.ensures.frame

pub invariant_of-self : goal.invariant_of-self
invariant_of-self g c =
    let did = c.in_default-reallocate_no_move.ensures in
    unchanged c.self.invariant c.reallocate_no_move.new.self (stands_after _ _ _ _ _ did.step) did.frame.place did.frame.chunks did.frame.aligns

pub invariant_of-self-2 : goal.invariant_of-self-2
invariant_of-self-2 g c =
    let did = c.in-Some-reallocate_no_move.ensures in
    unchanged c.self.invariant c.reallocate_no_move.new.self (stands_after _ _ _ _ _ did.step) did.frame.place did.frame.chunks did.frame.aligns

pub returns-in_default : goal.returns-in_default
returns-in_default g c =
    let refused = unknown_is_refused c.args.size _ (rw (← c.self.view_is) at c.in_default.ensures.value) in
    rw (← c.self.view_is) (record {
      step = never refused;
      result = tt;
      bounds = assumption;
      refused = refuses refused;
      frame = assumption (frame_unchanged c.self.inside.heap);
      touches = omega arith;
    })

pub returns-in_default-from_size_align : goal.returns-in_default-from_size_align
returns-in_default-from_size_align g c =
    let live = rw (← c.self.view_is) at c.in-Some.ensures.value in
    let refused = past_is_refused c.args.size c.in-Some.align _ live c.in-Some.ensures.power c.in_default-from_size_align.ensures.succeeds.1 in
    rw (← c.self.view_is) (record {
      step = never refused;
      result = tt;
      bounds = assumption;
      refused = refuses refused;
      frame = assumption (frame_unchanged c.self.inside.heap);
      touches = omega arith;
    })

pub returns-in_default-reallocate_no_move : goal.returns-in_default-reallocate_no_move
returns-in_default-reallocate_no_move g c =
    let (size, align) = c.in-Ok.ensures.layout in
    let live = rw (← c.self.view_is) at c.in-Some.ensures.value in
    let heap = c.self.inside.heap in
    let did = c.in_default-reallocate_no_move.ensures in
    rw (← c.self.view_is) (record {
      step = λ fits. subst (λ n. Steps g.row.FLLEN g.row.SLLEN heap c.reallocate_no_move.new.self (ReallocatesWithoutMove heap.state (at c.args.addr) n None)) size did.step;
      result = tt;
      bounds = bounds_kept c.self.inside.heap.state (at c.args.addr) c.in-Ok.layout size align live g.row.SLLEN c.reallocate_no_move.new.self.state did.bounds;
      refused = assumption (not_refused c.self.inside.heap.state (at c.args.addr) c.in-Ok.layout size align live {A = NonZeroUsize} (Err NoRoom) refl, did.refused);
      frame = frame_in_place g (goal.at.returns-in_default-reallocate_no_move g c).After-reallocate_no_move;
      touches = did.touches;
    })

pub returns : goal.returns
returns g c =
    let (size, align) = c.in-Ok.ensures.layout in
    let live = rw (← c.self.view_is) at c.in-Some.ensures.value in
    let heap = c.self.inside.heap in
    let addr = at c.args.addr in
    let did = c.in-Some-reallocate_no_move.ensures in
    let to = c.in-Some-reallocate_no_move.to in
    rw (← c.self.view_is) (record {
      step = λ fits. subst (λ n. Steps g.row.FLLEN g.row.SLLEN heap c.reallocate_no_move.new.self (ReallocatesWithoutMove heap.state addr n (Some (at to)))) size did.step;
      result = subst (λ n. IsResized heap.state c.reallocate_no_move.new.self.state addr n (at to)) size did.result;
      bounds = bounds_kept c.self.inside.heap.state (at c.args.addr) c.in-Ok.layout size align live g.row.SLLEN c.reallocate_no_move.new.self.state did.bounds;
      refused = record { answer = not_refused c.self.inside.heap.state (at c.args.addr) c.in-Ok.layout size align live (Ok to) tt; same = tt; pools = tt; bytes = tt };
      frame = frame_in_place g (goal.at.returns g c).After-reallocate_no_move;
      touches = did.touches;
    })
