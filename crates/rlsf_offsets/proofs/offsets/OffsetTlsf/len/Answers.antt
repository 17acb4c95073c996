use Rattle.std.proofs.Common.{◌≡◌, ◌+◌, ◌*◌, ◌<◌, ◌≤◌, Some, IsSome, subst, sym}
use Rattle.rlsf_base.proofs.Numbers.PowersOfTwo.{IsPowerOfTwo-positive}
use Rattle.rlsf_offsets.specs.Offsets.{len_at}
use Rattle.rlsf_offsets.specs.Units.{Offsets}
use Rattle.rlsf_offsets.proofs.Bytes.{inside-units, len-units, some_units}
use Rattle.rlsf_offsets.proofs.offsets.OffsetTlsf.len.Goals as goal

pub len-requires : goal.len-requires
len-requires g c =
    let unit = g.row.UNIT in
    let live = subst (λ (v : Offsets). IsSome (len_at unit v c.args.offset)) (sym c.self.view_is) c.requires in
    some_units unit (IsPowerOfTwo-positive unit c.self.invariant.0) c.self.inside.inner c.args.offset live

pub returns : goal.returns
returns g c =
    let unit = g.row.UNIT in
    let some = IsPowerOfTwo-positive unit c.self.invariant.0 in
    let live = subst (λ (v : Offsets). IsSome (len_at unit v c.args.offset)) (sym c.self.view_is) c.requires in
    let n = c.len.result in
    let v = c.self.inside.inner in
    record {
      value = subst (λ (v : Offsets). len_at unit v c.args.offset ≡ Some (n * unit)) c.self.view_is (len-units unit some v c.args.offset n live c.len.ensures.units);
      inside = subst (λ (v : Offsets). (0 < n * unit) × (c.args.offset + n * unit ≤ v.units * unit)) c.self.view_is
          (inside-units unit some v c.args.offset n live c.len.ensures.inside);
    }
