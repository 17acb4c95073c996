use Rattle.std.proofs.Common.{◌≡◌, ◌<◌, ◌≤◌, Some, ◌/◌, ◌+◌, subst, sym}
use Rattle.std.specs.Prelude.{IsSome}
use Rattle.rlsf_offsets.specs.Units.{Offsets, units_at}
use Rattle.rlsf_offsets.proofs.Kept.{found_len, live_found}
use Rattle.rlsf_offsets.proofs.Ranges.{IsSpace-shadow, live_place, live_units}
use Rattle.rlsf_offsets.proofs.units.UnitTlsf.len.Goals as goal

pub place_of-requires : goal.place_of-requires
place_of-requires c =
    let is = live_place c.self.invariant.shadow c.args.first (subst (λ (v : Offsets). IsSome (units_at v c.args.first)) (sym c.self.view_is) c.requires) in
    (is.0, c.self.invariant.shadow.few)

pub usable_bytes-requires : goal.usable_bytes-requires
usable_bytes-requires c =
    let is = live_place c.self.invariant.shadow c.args.first (subst (λ (v : Offsets). IsSome (units_at v c.args.first)) (sym c.self.view_is) c.requires) in
    live_found c.self.invariant c.args.first c.place_of.result c.place_of.ensures is.1

pub returns : goal.returns
returns c =
    let is = live_place c.self.invariant.shadow c.args.first (subst (λ (v : Offsets). IsSome (units_at v c.args.first)) (sym c.self.view_is) c.requires) in
    let len = c.usable_bytes.result.len in
    let count = found_len c.self.invariant c.args.first c.place_of.result c.place_of.ensures is.1 c.usable_bytes.result c.usable_bytes.ensures in
    let units = live_units c.self.inside.units _ c.args.first len is.1 count in
    record {
      units = subst (λ (v : Offsets). units_at v c.args.first ≡ Some (len / 32 + 1)) c.self.view_is units;
      inside = subst (λ (v : Offsets). (0 < len / 32 + 1) × (c.args.first + (len / 32 + 1) ≤ v.units)) c.self.view_is
          ((IsSpace-shadow c.self.invariant.shadow).inside c.args.first (len / 32 + 1) units);
    }
