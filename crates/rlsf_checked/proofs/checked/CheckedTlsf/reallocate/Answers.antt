use Rattle.std.proofs.Common.{arith, ◌≡◌, ℕ, ◌≤◌, ◌<◌, ◌+◌, length, suc, Some, None, Ok, Err, refl, sym, ◌∙◌, ap, subst}
use Rattle.std.specs.declared.num.NonZeroUsize.{NonZeroUsize}
use Rattle.rlsf_base.specs.Addr.{at}
use Rattle.rlsf_model_sizes.specs.PowerOfTwo.{floor_log2}
use Rattle.rlsf_model_sizes.specs.Sizes.{request_size}
use Rattle.rlsf_model.specs.Callers.{align_at, bytes_at}
use Rattle.rlsf_model.specs.Reallocate.{Reallocates}
use Rattle.rlsf_model.specs.Sized.{live_bytes}
use Rattle.rlsf_tlsf.specs.Allocator.{Steps}
use Rattle.rlsf_checked.specs.declared.error.CheckedError.TheVariants.{NoRoom}
use Rattle.rlsf_checked.specs.Checked.{checked}
use Rattle.rlsf_checked.specs.Results.{KeepsCheckedFrameMoving}
use Rattle.rlsf_checked.specs.Steps.Lists.{listed}
use Rattle.rlsf_checked.proofs.SizeRefusals.{below, bounds_kept, never, no_room_again, not_refused, past_is_refused, refuses, unknown_is_refused}
use Rattle.rlsf_checked.proofs.FieldsOverSteps.{has_mark, left_behind, marked_moved, stands_after, step_of, unchanged}
use Rattle.rlsf_checked.proofs.Unchanged.{frame_moving_unchanged}
use Rattle.rlsf_checked.proofs.checked.CheckedTlsf.reallocate.Given as given
use Rattle.rlsf_checked.proofs.checked.CheckedTlsf.reallocate.Goals as goal
use Rattle.rlsf_checked.proofs.checked.CheckedTlsf.reallocate.Goals.{After-reallocate}

same_align : {m n : ℕ} → Some m ≡ Some n → m ≡ n
same_align e = cc

-- what every call keeps is kept
frame_moving : (g : given.Over) (c : After-reallocate g)
    → KeepsCheckedFrameMoving (at c.args.addr) (checked c.self.inside.heap (listed c.self.inside.pools)) (checked c.reallocate.new.self (listed c.self.inside.pools))
frame_moving g c = assumption c.reallocate.ensures.frame

pub invariant_of-self : goal.invariant_of-self
invariant_of-self g c =
    let did = c.in_default-reallocate.ensures in
    unchanged c.self.invariant c.reallocate.new.self (stands_after _ _ _ _ _ did.step) did.frame.place did.frame.chunks (ap align_at did.refused.same)

pub set-requires : goal.set-requires
set-requires g c =
    let live : align_at c.self.inside.heap.state (at c.args.addr) ≡ Some c.in-Some.align = sym (rw (← c.self.view_is) at c.in-Some.ensures.value) in
    has_mark c.self.invariant c.self.inside.heap c.self.invariant.stands (refl, refl, refl, λ none. none) c.get-left.result _ c.in-Some.align c.get-left.ensures.value live

pub set-requires-2 : goal.set-requires-2
set-requires-2 g c =
    let did = c.in-Some-reallocate.ensures in
    c.set.ensures.places c.get.result
    (has_mark c.self.invariant c.reallocate.new.self (stands_after _ _ _ _ _ did.step) did.frame.place c.get.result _ c.in-Ok.layout.align c.get.ensures.value did.result.live)

pub invariant_of-self-2 : goal.invariant_of-self-2
invariant_of-self-2 g c =
    let did = c.in-Some-reallocate.ensures in
    let heap = c.reallocate.new.self in
    let addr = at c.args.addr in
    let to = at c.in-Some-reallocate.moved in
    let live : align_at c.self.inside.heap.state addr ≡ Some c.in-Some.align = sym (rw (← c.self.view_is) at c.in-Some.ensures.value) in
    marked_moved c.self.invariant heap c.set.new.self c.set-2.new.self c.get-left.result addr c.get.result to c.in-Ok.layout.align c.get-left.ensures.value c.get.ensures.value
    (stands_after _ _ _ _ _ did.step) did.frame.place did.frame.chunks
    (λ a has. c.set-2.ensures.places a (c.set.ensures.places a has)) c.set.ensures.others c.set.ensures.here c.set-2.ensures.others
    (c.set-2.ensures.here ∙ c.mark_of-mark.ensures ∙ ap (λ n. suc (floor_log2 n)) (sym c.in-Ok.ensures.layout.1)) did.result.live
    (left_behind g.row.FLLEN g.row.SLLEN c.self.inside.heap c.self.invariant.stands heap.state addr c.in-Some.align c.in-Ok.layout.size to live (step_of _ _ _ _ _ did.step))
    did.result.aligns

pub returns-in_default : goal.returns-in_default
returns-in_default g c =
    let refused = unknown_is_refused c.args.size _ (rw (← c.self.view_is) at c.in_default.ensures.value) in
    rw (← c.self.view_is) (record {
      step = never refused;
      result = tt;
      room = no_room_again refused;
      bounds = assumption;
      refused = refuses refused;
      frame = frame_moving_unchanged _ _;
      touches = omega arith;
    })

pub returns-in_default-from_size_align : goal.returns-in_default-from_size_align
returns-in_default-from_size_align g c =
    let live = rw (← c.self.view_is) at c.in-Some.ensures.value in
    let refused = past_is_refused c.args.size c.in-Some.align _ live c.in-Some.ensures.power c.in_default-from_size_align.ensures.succeeds.1 in
    rw (← c.self.view_is) (record {
      step = never refused;
      result = tt;
      room = no_room_again refused;
      bounds = assumption;
      refused = refuses refused;
      frame = frame_moving_unchanged _ _;
      touches = omega arith;
    })

pub returns-in_default-reallocate : goal.returns-in_default-reallocate
returns-in_default-reallocate g c =
    let (size, align) = c.in-Ok.ensures.layout in
    let live = rw (← c.self.view_is) at c.in-Some.ensures.value in
    let did = c.in_default-reallocate.ensures in
    let low = below c.self.inside.heap.state (at c.args.addr) c.in-Ok.layout size align live in
    rw (← c.self.view_is) (record {
      step =
          λ fits. subst (λ n. Steps g.row.FLLEN g.row.SLLEN c.self.inside.heap c.reallocate.new.self (Reallocates g.row.SLLEN c.self.inside.heap.state (at c.args.addr) n None))
          size did.step;
      result = tt;
      room = record {
        bounds = λ count n most sized few short fits fine. did.room.bounds count n most sized few (omega (arith, short, size)) (low most fits);
        budget = λ count bytes n most sized few little short fits fine. did.room.budget count bytes n most sized few little (omega (arith, short, size)) (low most fits);
        bytes = λ align live. tt;
      };
      bounds = bounds_kept c.self.inside.heap.state (at c.args.addr) c.in-Ok.layout size align live g.row.SLLEN c.reallocate.new.self.state did.bounds;
      refused = assumption (not_refused c.self.inside.heap.state (at c.args.addr) c.in-Ok.layout size align live {A = NonZeroUsize} (Err NoRoom) refl, did.refused);
      frame = frame_moving g (goal.at.returns-in_default-reallocate g c).After-reallocate;
      touches = did.touches;
    })

pub returns : goal.returns
returns g c =
    let (size, align) = c.in-Ok.ensures.layout in
    let live = rw (← c.self.view_is) at c.in-Some.ensures.value in
    let did = c.in-Some-reallocate.ensures in
    let addr = at c.args.addr in
    let to = at c.in-Some-reallocate.moved in
    let heap = c.self.inside.heap in
    let new = c.reallocate.new.self in
    rw (← c.self.view_is) (record {
      step = λ fits. subst (λ n. Steps g.row.FLLEN g.row.SLLEN heap new (Reallocates g.row.SLLEN heap.state addr n (Some to))) size did.step;
      result = record {
        live = did.result.live ∙ ap Some align ∙ live;
        sized = subst (λ n. n ≤ length (bytes_at new.state to)) size did.result.sized;
        few = subst (λ n. length (bytes_at new.state to) < n + 32) size did.result.few;
        kept = did.result.kept;
        new = did.result.new;
        left =
            left_behind g.row.FLLEN g.row.SLLEN heap c.self.invariant.stands new.state addr c.in-Some.align c.in-Ok.layout.size to (sym live)
            (step_of _ _ _ _ _ did.step);
        aligns = did.result.aligns;
        bytes = did.result.bytes;
      };
      room = record {
        bounds = λ count most_size most sized few short fits fine. refl;
        budget = λ count bytes most_size most sized few little short fits fine. refl;
        bytes = λ wide is.
            let same : wide ≡ c.in-Ok.layout.align = sym (same_align (live ∙ is)) ∙ sym align in
            subst (λ (n : ℕ × ℕ). live_bytes new.state + request_size (length (bytes_at heap.state addr)) 16 ≤ live_bytes heap.state + request_size n.0 n.1)
            (λ i. (size i, sym same i)) (did.room.bytes refl);
      };
      bounds = bounds_kept c.self.inside.heap.state (at c.args.addr) c.in-Ok.layout size align live g.row.SLLEN c.reallocate.new.self.state did.bounds;
      refused = assumption (not_refused c.self.inside.heap.state (at c.args.addr) c.in-Ok.layout size align live (Ok c.in-Some-reallocate.moved) (tt {0}));
      frame = frame_moving g (goal.at.returns g c).After-reallocate;
      touches = did.touches;
    })
