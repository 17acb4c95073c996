use Rattle.std.proofs.Common.{◌≡◌, ◌/◌, ℕ, IsSome, subst, sym, true}
use Rattle.rlsf_base.proofs.Numbers.PowersOfTwo.{IsPowerOfTwo-positive}
use Rattle.rlsf_offsets.specs.Offsets.{IsRangeReallocated, len_at}
use Rattle.rlsf_offsets.specs.Units.{IsRangeResized, Offsets}
use Rattle.rlsf_offsets.proofs.Bytes.{IsReallocated-units, KeepsRanges-unchanged, some_units, still_live}
use Rattle.rlsf_offsets.proofs.offsets.OffsetTlsf.reallocate_in_place.Goals as goal

pub units_for-units-requires : goal.units_for-units-requires
units_for-units-requires g c = IsPowerOfTwo-positive g.row.UNIT c.self.invariant.0

pub reallocate_in_place-requires-clause-live : goal.reallocate_in_place-requires-clause-live
reallocate_in_place-requires-clause-live g c =
    let unit = g.row.UNIT in
    let live = subst (λ (v : Offsets). IsSome (len_at unit v c.args.offset)) (sym c.self.view_is) c.requires in
    some_units unit (IsPowerOfTwo-positive unit c.self.invariant.0) c.self.inside.inner c.args.offset live

pub returns : goal.returns
returns g c =
    let unit = g.row.UNIT in
    let v = c.self.inside.inner in
    let x = c.reallocate_in_place.new.self in
    let len = c.args.len in
    let offset = c.args.offset in
    let done = c.reallocate_in_place.result in
    let e = c.reallocate_in_place.ensures in
    let some = IsPowerOfTwo-positive unit c.self.invariant.0 in
    let live = subst (λ (v : Offsets). IsSome (len_at unit v offset)) (sym c.self.view_is) c.requires in
    let made : done ≡ true → IsRangeReallocated unit v x len offset = λ is.
    IsReallocated-units unit some v x len offset live (subst (λ (k : ℕ). IsRangeResized v x k (offset / unit)) c.units_for-units.ensures.value (e.resized is)) in
    rw (← c.self.view_is, ← c.units_for-units.ensures.value) (record {
      reallocated = made;
      room = e.room;
      stay = still_live unit v x len offset done made e.same;
      sized = e.sized;
      same = λ none. KeepsRanges-unchanged unit v x (e.same none);
      touches = e.touches;
    })
