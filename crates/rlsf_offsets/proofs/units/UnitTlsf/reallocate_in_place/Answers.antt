use Rattle.std.proofs.Common.{◌∙◌, ◌-◌, ◌/◌, ℕ, true≢false, ap, subst, sym, refl, arith}
use Rattle.std.specs.Prelude.{IsSome}
use Rattle.rlsf_blocks.specs.Laws.{read_from}
use Rattle.rlsf_tlsf.specs.Allocator.{allocator}
use Rattle.rlsf_tlsf.proofs.Reached.{read_from-counted}
use Rattle.rlsf_offsets.specs.Units.{IsUnitAllocator, Offsets, offsets, units_at}
use Rattle.rlsf_offsets.proofs.Kept.{IsCore-kept, IsUnitAllocator-left, own_found}
use Rattle.rlsf_offsets.proofs.Ranges.{live_place}
use Rattle.rlsf_offsets.proofs.Resizes.{AreWhole-kept, IsResized-units, no_room_longer, room_of, sized-there, sized-there-same}
use Rattle.rlsf_offsets.proofs.units.UnitTlsf.reallocate_in_place.Goals as goal
use Rattle.rlsf_offsets.proofs.units.UnitTlsf.reallocate_in_place.Goals.{After-resize_in}

-- ---- more units than the space has

pub returns-then-units-self : goal.returns-then-units-self
returns-then-units-self c =
    let v = offsets c.self.inside.units (allocator c.self.inside.memory c.self.inside.table c.self.inside.state.state) in
    let none = no_room_longer c.self.invariant.shadow c.args.first c.args.units (omega (arith, c.if-units-self.true)) in
    rw (← c.self.view_is) (record {
      resized = λ done. absurd (true≢false (sym done));
      room = (λ done. absurd (true≢false (sym done)), λ room. absurd (none room));
      sized = sized-there-same v v c.args.first c.args.units refl;
      same = λ none. record { space = refl; limit = refl; same = refl };
      touches = omega arith;
    })

-- ---- others

pub place_of-addr-requires : goal.place_of-addr-requires
place_of-addr-requires c =
    let is = live_place c.self.invariant.shadow c.args.first (subst (λ (v : Offsets). IsSome (units_at v c.args.first)) (sym c.self.view_is) c.requires.live) in
    (is.0, c.self.invariant.shadow.few)

pub resize_in-requires : goal.resize_in-requires
resize_in-requires c =
    let is = live_place c.self.invariant.shadow c.args.first (subst (λ (v : Offsets). IsSome (units_at v c.args.first)) (sym c.self.view_is) c.requires.live) in
    (omega arith, (IsCore-kept c.self.invariant, own_found c.self.invariant c.args.first c.place_of-addr.result c.place_of-addr.ensures is.1))

kept : (c : After-resize_in) → IsUnitAllocator c.self.inside.units c.resize_in.new.memory c.resize_in.new.table c.resize_in.new.state.state
kept c =
    let e = c.resize_in.ensures in
    let s = read_from c.self.inside.memory c.self.inside.state.state in
    let t = read_from c.resize_in.new.memory c.resize_in.new.state.state in
    IsUnitAllocator-left c.self.invariant e.left e.kept.chunks (AreWhole-kept s t e.left.core.stands.well_formed e.kept.aligns c.self.invariant.shadow.whole)

pub invariant_of-self : goal.invariant_of-self
invariant_of-self c = kept (goal.at.invariant_of-self c).After-resize_in

pub returns : goal.returns
returns c =
    let d = (goal.at.returns c).After-resize_in in
    let e = c.resize_in.ensures in
    let shadow = c.self.invariant.shadow in
    let first = c.args.first in
    let units = c.args.units in
    let addr = c.place_of-addr.result in
    let at = c.place_of-addr.ensures in
    let is = live_place shadow first (subst (λ (v : Offsets). IsSome (units_at v first)) (sym c.self.view_is) c.requires.live) in
    let (es, ea) = c.from_size_align_unchecked-layout.ensures in
    let size = c.from_size_align_unchecked-layout.result.size in
    let t = read_from c.resize_in.new.memory c.resize_in.new.state.state in
    let x = offsets c.self.inside.units (allocator c.resize_in.new.memory c.resize_in.new.table c.resize_in.new.state.state) in
    rw (← c.self.view_is) (record {
      resized = λ done. IsResized-units shadow first units size addr at es c.requires.some is.1 e.kept (kept d).shadow e.left.costs.length (e.result done);
      room = room_of shadow first units size es c.requires.some e.step.block (e.step.holds.0, e.step.holds.1 ∙ at) addr c.resize_in.result t e.step.step;
      sized = sized-there shadow first units size addr at es is.1 x e.bounds;
      same = λ none. record {
        space = refl;
        limit = ap (λ (k : ℕ). k / 32 - 1) e.left.costs.length;
        same = ap (read_from c.resize_in.new.memory) (e.refused none).state ∙ read_from-counted (e.refused none).counts c.self.inside.state.state;
      };
      touches = e.left.costs.touches;
    })
