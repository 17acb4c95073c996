use Rattle.std.proofs.Common.{arith, inl, inr, refl, subst, sym, true≢false}
use Rattle.std.specs.Prelude.{IsSome}
use Rattle.rlsf_base.proofs.Numbers.PowersOfTwo.{IsPowerOfTwo-positive}
use Rattle.rlsf_offsets.specs.Offsets.{len_at}
use Rattle.rlsf_offsets.specs.Units.{Offsets}
use Rattle.rlsf_offsets.proofs.Bytes.{KeepsRanges-same}
use Rattle.rlsf_offsets.proofs.Live.{IsChecked-reallocated, IsChecked-refused, none_at}
use Rattle.rlsf_offsets.proofs.Resizes.{sized-there-same}
use Rattle.rlsf_offsets.proofs.checked.CheckedOffsets.reallocate_in_place.Goals as goal

pub returns-then-not-is_live : goal.returns-then-not-is_live
returns-then-not-is_live g c =
    let v = c.args.self.now in record {
      reallocated = tt;
      which = inl (refl, none_at _ c.if-not-is_live.ensures);
      sized = sized-there-same v v _ _ refl;
      same = KeepsRanges-same g.row.UNIT v;
      touches = omega arith;
    }

pub invariant_of-self : goal.invariant_of-self
invariant_of-self g c = IsChecked-refused c.self.invariant c.reallocate_in_place.new.self (c.if-not-reallocate_in_place.ensures.same refl)

pub invariant_of-self-2 : goal.invariant_of-self-2
invariant_of-self-2 g c =
    let live = subst (λ (v : Offsets). IsSome (len_at g.row.UNIT v c.args.offset)) (sym c.self.view_is) (sym c.if-not-is_live.ensures) in
    IsChecked-reallocated c.self.invariant c.reallocate_in_place.new.self c.args.len c.args.offset (IsPowerOfTwo-positive g.row.UNIT c.self.invariant.power) live
    (c.if-not-reallocate_in_place.ensures.reallocated refl)

pub returns-then-not-reallocate_in_place : goal.returns-then-not-reallocate_in_place
returns-then-not-reallocate_in_place g c =
    let e = c.if-not-reallocate_in_place.ensures in
    let live = subst (λ (v : Offsets). IsSome (len_at g.row.UNIT v c.args.offset)) (sym c.self.view_is) (sym c.if-not-is_live.ensures) in
    rw (← c.self.view_is) (record {
      reallocated = tt;
      which = inr (refl, live, λ room. true≢false (sym (e.room.1 room)));
      sized = e.sized;
      same = e.same refl;
      touches = e.touches;
    })

pub returns : goal.returns
returns g c =
    let e = c.if-not-reallocate_in_place.ensures in
    let live = subst (λ (v : Offsets). IsSome (len_at g.row.UNIT v c.args.offset)) (sym c.self.view_is) (sym c.if-not-is_live.ensures) in
    rw (← c.self.view_is) (record { reallocated = e.reallocated refl; which = (live, e.room.0 refl); sized = e.sized; same = tt; touches = e.touches })
