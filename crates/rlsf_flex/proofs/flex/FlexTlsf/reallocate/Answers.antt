use Rattle.std.proofs.Common.{◌≡◌, Some, length, arith, refl, sym, ◌∙◌, ap}
use Rattle.rlsf_base.specs.Addr.{at}
use Rattle.rlsf_flex.specs.StandsFor.{flex_contents}
use Rattle.rlsf_flex.specs.Steps.Parts.{flex_over}
use Rattle.rlsf_model.specs.Callers.{align_at, bytes_at}
use Rattle.rlsf_model.specs.FlexState.{FlexState}
use Rattle.rlsf_model.specs.Reallocate.{HasRoomToResize, HasRoomToStay}
use Rattle.rlsf_model.specs.State.{Used, usable}
use Rattle.rlsf_model.proofs.CallerWords.{align_at-live, bytes_at-held}
use Rattle.rlsf_table.proofs.Parameters.{IsValid-widest}
use Rattle.rlsf_tlsf.specs.Allocator.{Allocator}
use Rattle.rlsf_flex.proofs.Allocations.{Tried, extended_none, more_is_found, never_within, none_of, not_none, nothing_asked, nothing_more}
use Rattle.rlsf_flex.proofs.Reallocations.{IsStuck, IsReallocated-before, no_room_to_move, reallocated_in_room, reallocated_stands, reallocation_in_more}
use Rattle.rlsf_flex.proofs.Reallocations.{refused_move_alone, refused_too, stuck_moves, stuck_short}
use Rattle.rlsf_flex.proofs.Places.{SamePlace-then}
use Rattle.rlsf_flex.proofs.InnerAllocator.{flex_opened, inner_stands, stood_at}
use Rattle.rlsf_tlsf.proofs.Replied.{some_more}
use Rattle.rlsf_flex.proofs.flex.FlexTlsf.reallocate.Given as given
use Rattle.rlsf_flex.proofs.flex.FlexTlsf.reallocate.Goals as goal
use Rattle.rlsf_flex.proofs.flex.FlexTlsf.reallocate.Goals.{In_default}

pub invariant_of-self : goal.invariant_of-self
invariant_of-self g c = record {
  valid = c.self.invariant.valid;
  stands =
      reallocated_stands (at c.args.addr) c.args.layout.size c.args.layout.align c.reallocate.new.self c.in-Some.ensures.frame.place c.self.invariant.stands c.self.invariant.whole
      (Some (at c.in-Some.moved)) c.in-Some.ensures.step;
  whole = c.in-Some.ensures.frame.place.3 c.self.invariant.whole;
}

pub returns-in-Some : goal.returns-in-Some
returns-in-Some g c =
    let is = c.in-Some.ensures in
    rw (← c.self.view_is) (record {
      step =
          reallocated_in_room (at c.args.addr) c.args.layout.size c.args.layout.align c.reallocate.new.self is.frame.place c.self.invariant.stands c.self.invariant.whole
          g.S.FlexSource.leads (at c.in-Some.moved) is.step;
      result = is.result;
      room = record { room = is.room.bounds; unasked = λ count size align sized few short fits. refl };
      bounds = is.bounds;
      refused = tt;
      frame = assumption is.frame;
      touches = λ room. is.touches;
    })

-- the first try found no room
tried : (g : given.Over) (c : In_default g) → (u : Used)
    × IsStuck c.self.inside.parts.tlsf.state (at c.args.addr) c.args.layout.size u × (u.align ≡ c.args.layout.align)
    × Tried g.row.FLLEN g.row.SLLEN g.S.FlexSource.terms g.S.FlexSource.owes c.args.layout.size c.args.layout.align
    (flex_over c.self.inside.parts) (flex_contents c.reallocate.new.self c.self.inside.parts.kept c.self.inside.parts.source c.self.inside.parts.owed.ranges)
tried g c =
    let addr = at c.args.addr in
    no_room_to_move addr c.args.layout.size c.args.layout.align c.reallocate.new.self c.reallocate.ensures.frame.place c.self.invariant.stands c.self.invariant.whole
    (align_at-live c.self.inside.parts.tlsf.state addr c.args.layout.align (rw (← c.self.view_is) at c.requires)) (rw c.in_default.is at c.reallocate.ensures.step)

-- so the reference model's reallocation is refused in the room that there was
refused_in : (g : given.Over) (c : In_default g) → HasRoomToResize g.row.SLLEN c.self.inside.parts.tlsf.state (at c.args.addr) c.args.layout.size → ⊥
refused_in g c (to, m, some) =
    let (u, stuck, is, first) = tried g c in
    refused_move_alone c.self.invariant.stands.well_formed.machine (at c.args.addr) c.args.layout.size c.args.layout.align to u m stuck is first.full some

-- nor would it stay, or take from the block behind
moves_in : (g : given.Over) (c : In_default g) → HasRoomToStay c.self.inside.parts.tlsf.state (at c.args.addr) c.args.layout.size → ⊥
moves_in g c (u, p, holds, some) =
    let (v, stuck, is, first) = tried g c in
    stuck_moves c.self.invariant.stands.well_formed.machine (at c.args.addr) c.args.layout.size u v p stuck holds some

pub invariant_of-self-in_err-wanted : goal.invariant_of-self-in_err-wanted
invariant_of-self-in_err-wanted g c =
    let (u, stuck, is, first) = tried g (goal.at.invariant_of-self-in_err-wanted g c).In_default in
    record { valid = c.self.invariant.valid; stands = first.stands; whole = c.reallocate.ensures.frame.place.3 c.self.invariant.whole }

pub returns-in_err-wanted : goal.returns-in_err-wanted
returns-in_err-wanted g c =
    let now = flex_over c.self.inside.parts in
    let new = flex_contents c.reallocate.new.self c.self.inside.parts.kept c.self.inside.parts.source c.self.inside.parts.owed.ranges in
    let here = (goal.at.returns-in_err-wanted g c).In_default in
    let (u, stuck, is, first) = tried g here in
    let did = c.reallocate.ensures in
    rw (← c.self.view_is) (rw c.from_residual.ensures (record {
      step =
          refused_too g.row.FLLEN g.row.SLLEN g.S.FlexSource.terms g.S.FlexSource.owes g.S.FlexSource.leads now new (at c.args.addr) c.args.layout.size c.args.layout.align stuck is
          (nothing_asked c.args.layout.size c.args.layout.align first g.S.FlexSource.leads (sym c.in_err-wanted.ensures));
      result = tt;
      room = never_within c.reallocate.result c.in_default.is did.room.bounds;
      bounds = did.bounds;
      refused = record { same = first.same; bytes = (none_of c.reallocate.result c.in_default.is did.refused).bytes };
      frame = assumption did.frame;
      touches = λ room. did.touches;
    }))

pub extend-requires : goal.extend-requires
extend-requires g c =
    let (u, stuck, is, first) = tried g (goal.at.extend-requires g c).In_default in (
      omega arith,
      (
        (IsValid-widest g.FLBitmap.BitPattern.width_limit c.self.invariant.valid),
        (
          record { size = c.args.layout.size; align = c.args.layout.align; is = sym c.in_ok-wanted.ensures },
          (first.stands, c.reallocate.ensures.frame.place.3 c.self.invariant.whole),
        ),
      ),
    )

pub move_payload-requires : goal.move_payload-requires
move_payload-requires g c =
    let addr = at c.args.addr in
    let (u, stuck, is, first) = tried g (goal.at.move_payload-requires g c).In_default in
    let came = c.extend.ensures.payloads in
    let aligns = came.aligns ∙ ap (λ (s : FlexState). align_at s.machine) first.same in
    let bytes = came.bytes ∙ ap (λ (s : FlexState). bytes_at s.machine) first.same in
    let well_formed = c.self.invariant.stands.well_formed.machine in
    let live = rw (← c.self.view_is) at c.requires in
    let len : length (bytes_at c.extend.new.self.tlsf.state addr) ≡ (usable u).len =
    (λ i. length (bytes i addr)) ∙ ap length (bytes_at-held well_formed addr u stuck.holds) ∙ (well_formed.used u stuck.holds.0).bytes in (
      omega arith,
      (
        stood_at _ (inner_stands c.if-extend.ensures.step.stands (came.place.3 (c.reallocate.ensures.frame.place.3 c.self.invariant.whole))),
        ((λ i. aligns i addr) ∙ live, omega (arith, len, stuck_short well_formed addr c.args.layout.size u stuck)),
      ),
    )

pub invariant_of-self-then-extend : goal.invariant_of-self-then-extend
invariant_of-self-then-extend g c =
    let (u, stuck, is_align, first) = tried g (goal.at.invariant_of-self-then-extend g c).In_default in
    let is = c.move_payload.ensures in
    let (notes, step, leads_by, outside, stands) =
    flex_opened _ _ _ (reallocation_in_more (at c.args.addr) c.args.layout.size c.args.layout.align g.S.FlexSource.leads (flex_over c.self.inside.parts) stuck is_align first
    (sym c.in_ok-wanted.ensures) c.if-extend.ensures.step c.self.invariant.valid c.move_payload.new.tlsf refl is.place c.self.invariant.whole c.move_payload.result
    is.refused is.step) in
    record {
      valid = c.self.invariant.valid;
      stands = stands;
      whole = is.place.3 (c.extend.ensures.payloads.place.3 (c.reallocate.ensures.frame.place.3 c.self.invariant.whole));
    }

pub returns-then-extend : goal.returns-then-extend
returns-then-extend g c =
    let here = (goal.at.returns-then-extend g c).In_default in
    let (u, stuck, is_align, first) = tried g here in
    let did = c.reallocate.ensures in
    let came = c.extend.ensures.payloads in
    let is = c.move_payload.ensures in
    let m = c.self.inside.parts.tlsf.memory in
    let l = c.reallocate.new.self.memory in
    let k = c.extend.new.self.tlsf.memory in
    let n = c.move_payload.new.tlsf.memory in
    let aligns = came.aligns ∙ ap (λ (s : FlexState). align_at s.machine) first.same in
    let bytes = came.bytes ∙ ap (λ (s : FlexState). bytes_at s.machine) first.same in
    rw (← c.self.view_is) (record {
      step = reallocation_in_more (at c.args.addr) c.args.layout.size c.args.layout.align g.S.FlexSource.leads (flex_over c.self.inside.parts) stuck is_align first
          (sym c.in_ok-wanted.ensures) c.if-extend.ensures.step c.self.invariant.valid c.move_payload.new.tlsf refl is.place c.self.invariant.whole c.move_payload.result is.refused
          is.step;
      result =
          some_more c.move_payload.result (λ to. IsReallocated-before c.extend.new.self.tlsf.state c.self.inside.parts.tlsf.state c.move_payload.new.tlsf.state
          (at c.args.addr) c.args.layout.size c.args.layout.align (at to) aligns bytes)
          is.result;
      room = never_within c.reallocate.result c.in_default.is did.room.bounds;
      bounds = λ count size align sized short fits. is.bounds count size align (came.bounds count size align (did.bounds count size align sized short fits)) short fits;
      refused = not_none _ c.move_payload.result (λ none.
          more_is_found c.args.layout.size c.args.layout.align first (sym c.in_ok-wanted.ensures) c.if-extend.ensures.step c.self.invariant.valid refl
          (none_of c.move_payload.result none is.refused));
      frame = record {
        count = is.count ∙ came.count ∙ did.frame.count;
        place = SamePlace-then m k n (SamePlace-then m l k did.frame.place came.place) is.place;
        grow = omega (arith, did.frame.grow, came.grow, is.grow);
        copied = λ room. absurd (refused_in g here room);
        grow_copied = omega (arith, did.frame.grow_copied, came.copied, is.grow_copied);
        stays = λ room. absurd (moves_in g here room);
      };
      touches = λ room. absurd (refused_in g here room);
    })

pub invariant_of-self-else-extend : goal.invariant_of-self-else-extend
invariant_of-self-else-extend g c =
    record {
      valid = c.self.invariant.valid;
      stands = c.if-extend.ensures.step.stands;
      whole = c.extend.ensures.payloads.place.3 (c.reallocate.ensures.frame.place.3 c.self.invariant.whole);
    }

pub returns-else-extend : goal.returns-else-extend
returns-else-extend g c =
    let now = flex_over c.self.inside.parts in
    let new = flex_over c.extend.new.self in
    let here = (goal.at.returns-else-extend g c).In_default in
    let (u, stuck, is, first) = tried g here in
    let did = c.reallocate.ensures in
    let came = c.extend.ensures.payloads in
    let h = c.if-extend.ensures.step in
    rw (← c.self.view_is) (record {
      step =
          refused_too g.row.FLLEN g.row.SLLEN g.S.FlexSource.terms g.S.FlexSource.owes g.S.FlexSource.leads now new (at c.args.addr) c.args.layout.size c.args.layout.align stuck is
          (nothing_more c.args.layout.size c.args.layout.align first (sym c.in_ok-wanted.ensures) h refl);
      result = tt;
      room = never_within c.reallocate.result c.in_default.is did.room.bounds;
      bounds = λ count size align sized short fits. came.bounds count size align (did.bounds count size align sized short fits);
      refused = record {
        same = extended_none h refl ∙ first.same;
        bytes = ap (λ (a : Allocator). a.memory.bytes) (c.if-extend.ensures.refused refl).same ∙ (none_of c.reallocate.result c.in_default.is did.refused).bytes;
      };
      frame = record {
        count = came.count ∙ did.frame.count;
        place = SamePlace-then c.self.inside.parts.tlsf.memory c.reallocate.new.self.memory c.extend.new.self.tlsf.memory did.frame.place came.place;
        grow = omega (arith, did.frame.grow, came.grow);
        copied = λ room. absurd (refused_in g here room);
        grow_copied = omega (arith, did.frame.grow_copied, came.copied);
        stays = λ room. absurd (moves_in g here room);
      };
      touches = λ room. absurd (refused_in g here room);
    })
