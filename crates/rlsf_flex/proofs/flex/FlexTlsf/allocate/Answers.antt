use Rattle.std.proofs.Common.{true≢false, Some, IsSome, arith, refl, sym, ◌∙◌, ap, subst}
use Rattle.rlsf_base.specs.Addr.{at, reply}
use Rattle.rlsf_flex.specs.StandsFor.{flex_contents}
use Rattle.rlsf_flex.specs.Steps.Parts.{flex_over}
use Rattle.rlsf_model.specs.Callers.{align_at, bytes_at}
use Rattle.rlsf_model.specs.FlexState.{FlexState}
use Rattle.rlsf_model.specs.Sized.{live_count}
use Rattle.rlsf_table.proofs.Parameters.{IsValid-widest}
use Rattle.rlsf_tlsf.specs.Allocator.{Allocator}
use Rattle.rlsf_tlsf.proofs.Replied.{IsAllocated-before, some_more}
use Rattle.rlsf_flex.proofs.Allocations.{Tried, allocated_in_more, allocated_in_room, allocated_stands, extended_none, more_is_found, never_within, no_room, none_of}
use Rattle.rlsf_flex.proofs.Allocations.{not_none, nothing_asked, nothing_more}
use Rattle.rlsf_flex.proofs.Places.{SamePlace-then}
use Rattle.rlsf_flex.proofs.InnerAllocator.{flex_opened, opened}
use Rattle.rlsf_flex.proofs.flex.FlexTlsf.allocate.Given as given
use Rattle.rlsf_flex.proofs.flex.FlexTlsf.allocate.Goals as goal
use Rattle.rlsf_flex.proofs.flex.FlexTlsf.allocate.Goals.{In_default}

pub invariant_of-self : goal.invariant_of-self
invariant_of-self g c = record {
  valid = c.self.invariant.valid;
  stands =
      allocated_stands c.args.layout.size c.args.layout.align c.allocate.new.self c.in-Some.ensures.frame.place c.self.invariant.stands c.self.invariant.whole
      (Some (at c.in-Some.addr))
      c.in-Some.ensures.step;
  whole = c.in-Some.ensures.frame.place.3 c.self.invariant.whole;
}

pub returns-in-Some : goal.returns-in-Some
returns-in-Some g c =
    let is = c.in-Some.ensures in
    rw (← c.self.view_is) (record {
      step =
          allocated_in_room c.args.layout.size c.args.layout.align c.allocate.new.self is.frame.place c.self.invariant.stands c.self.invariant.whole g.S.FlexSource.leads
          (at c.in-Some.addr) is.step;
      result = is.result;
      room = record { room = is.room.bounds; unasked = λ count size align sized few short fits. refl };
      bounds = is.bounds;
      refused = tt;
      frame = record { place = is.frame.place; grow = is.frame.grow; copied = is.frame.copied };
      touches = λ room. is.touches;
    })

-- the first try found no room
tried : (g : given.Over) (c : In_default g) → Tried g.row.FLLEN g.row.SLLEN g.S.FlexSource.terms g.S.FlexSource.owes c.args.layout.size c.args.layout.align
    (flex_over c.self.inside.parts) (flex_contents c.allocate.new.self c.self.inside.parts.kept c.self.inside.parts.source c.self.inside.parts.owed.ranges)
tried g c =
    no_room c.args.layout.size c.args.layout.align c.allocate.new.self c.allocate.ensures.frame.place c.self.invariant.stands c.self.invariant.whole
    (rw c.in_default.is at c.allocate.ensures.step)

pub invariant_of-self-in_err-wanted : goal.invariant_of-self-in_err-wanted
invariant_of-self-in_err-wanted g c =
    record {
      valid = c.self.invariant.valid;
      stands = (tried g (goal.at.invariant_of-self-in_err-wanted g c).In_default).stands;
      whole = c.allocate.ensures.frame.place.3 c.self.invariant.whole;
    }

pub returns-in_err-wanted : goal.returns-in_err-wanted
returns-in_err-wanted g c =
    let first = tried g (goal.at.returns-in_err-wanted g c).In_default in
    let did = c.allocate.ensures in
    rw (← c.self.view_is) (rw c.from_residual.ensures (record {
      step = nothing_asked c.args.layout.size c.args.layout.align first g.S.FlexSource.leads (sym c.in_err-wanted.ensures);
      result = tt;
      room = never_within c.allocate.result c.in_default.is did.room.bounds;
      bounds = did.bounds;
      refused = record { same = first.same; bytes = (none_of c.allocate.result c.in_default.is did.refused).bytes };
      frame = record { place = did.frame.place; grow = did.frame.grow; copied = did.frame.copied };
      touches = λ room. did.touches;
    }))

pub extend-requires : goal.extend-requires
extend-requires g c =
    let stands = (tried g (goal.at.extend-requires g c).In_default).stands in (
      omega arith,
      (
        (IsValid-widest g.FLBitmap.BitPattern.width_limit c.self.invariant.valid),
        (record { size = c.args.layout.size; align = c.args.layout.align; is = sym c.in_ok-wanted.ensures }, (stands, c.allocate.ensures.frame.place.3 c.self.invariant.whole)),
      ),
    )

pub invariant_of-self-then-extend : goal.invariant_of-self-then-extend
invariant_of-self-then-extend g c =
    let first = tried g (goal.at.invariant_of-self-then-extend g c).In_default in
    let is = c.allocate-then-extend.ensures in
    let (notes, step, leads_by, outside, stands) =
    flex_opened _ _ _ (allocated_in_more c.args.layout.size c.args.layout.align first (sym c.in_ok-wanted.ensures) c.if-extend.ensures.step c.self.invariant.valid refl
    c.allocate-then-extend.new.self is.frame.place c.self.invariant.whole (reply c.allocate-then-extend.result) is.step) in
    record {
      valid = c.self.invariant.valid;
      stands = stands;
      whole = is.frame.place.3 (c.extend.ensures.payloads.place.3 (c.allocate.ensures.frame.place.3 c.self.invariant.whole));
    }

pub returns-then-extend : goal.returns-then-extend
returns-then-extend g c =
    let first = tried g (goal.at.returns-then-extend g c).In_default in
    let did = c.allocate.ensures in
    let came = c.extend.ensures.payloads in
    let is = c.allocate-then-extend.ensures in
    let m = c.self.inside.parts.tlsf.memory in
    let l = c.allocate.new.self.memory in
    let k = c.extend.new.self.tlsf.memory in
    let n = c.allocate-then-extend.new.self.memory in
    let aligns = came.aligns ∙ ap (λ (s : FlexState). align_at s.machine) first.same in
    let bytes = came.bytes ∙ ap (λ (s : FlexState). bytes_at s.machine) first.same in
    let count = came.count ∙ ap (λ (s : FlexState). live_count s.machine) first.same in
    rw (← c.self.view_is) (record {
      step = allocated_in_more c.args.layout.size c.args.layout.align first (sym c.in_ok-wanted.ensures) c.if-extend.ensures.step c.self.invariant.valid refl
          c.allocate-then-extend.new.self is.frame.place c.self.invariant.whole (reply c.allocate-then-extend.result) is.step;
      result =
          some_more c.allocate-then-extend.result (λ addr. IsAllocated-before c.extend.new.self.tlsf.state c.self.inside.parts.tlsf.state c.allocate-then-extend.new.self.state
          c.args.layout.size c.args.layout.align (at addr) aligns bytes count)
          is.result;
      room = never_within c.allocate.result c.in_default.is did.room.bounds;
      bounds = λ count size align sized short fits. is.bounds count size align (came.bounds count size align (did.bounds count size align sized short fits)) short fits;
      refused = not_none _ c.allocate-then-extend.result (λ none.
          more_is_found c.args.layout.size c.args.layout.align first (sym c.in_ok-wanted.ensures) c.if-extend.ensures.step c.self.invariant.valid refl
          (rw none at (opened _ _ _ is.step).0));
      frame = record {
        place = SamePlace-then m k n (SamePlace-then m l k did.frame.place came.place) is.frame.place;
        grow = omega (arith, did.frame.grow, came.grow, is.frame.grow);
        copied = is.frame.copied ∙ came.copied ∙ did.frame.copied;
      };
      touches = λ room. absurd (true≢false (sym (subst IsSome first.full.0 room)));
    })

pub invariant_of-self-else-extend : goal.invariant_of-self-else-extend
invariant_of-self-else-extend g c =
    record {
      valid = c.self.invariant.valid;
      stands = c.if-extend.ensures.step.stands;
      whole = c.extend.ensures.payloads.place.3 (c.allocate.ensures.frame.place.3 c.self.invariant.whole);
    }

pub returns-else-extend : goal.returns-else-extend
returns-else-extend g c =
    let first = tried g (goal.at.returns-else-extend g c).In_default in
    let did = c.allocate.ensures in
    let came = c.extend.ensures.payloads in
    let h = c.if-extend.ensures.step in
    rw (← c.self.view_is) (record {
      step = nothing_more c.args.layout.size c.args.layout.align first (sym c.in_ok-wanted.ensures) h refl;
      result = tt;
      room = never_within c.allocate.result c.in_default.is did.room.bounds;
      bounds = λ count size align sized short fits. came.bounds count size align (did.bounds count size align sized short fits);
      refused = record {
        same = extended_none h refl ∙ first.same;
        bytes = ap (λ (a : Allocator). a.memory.bytes) (c.if-extend.ensures.refused refl).same ∙ (none_of c.allocate.result c.in_default.is did.refused).bytes;
      };
      frame = record {
        place = SamePlace-then c.self.inside.parts.tlsf.memory c.allocate.new.self.memory c.extend.new.self.tlsf.memory did.frame.place came.place;
        grow = omega (arith, did.frame.grow, came.grow);
        copied = came.copied ∙ did.frame.copied;
      };
      touches = λ room. absurd (true≢false (sym (subst IsSome first.full.0 room)));
    })
