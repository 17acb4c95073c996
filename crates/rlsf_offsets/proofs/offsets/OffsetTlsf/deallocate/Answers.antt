use Rattle.std.proofs.Common.{IsSome, subst, sym}
use Rattle.rlsf_base.proofs.Numbers.PowersOfTwo.{IsPowerOfTwo-positive}
use Rattle.rlsf_offsets.specs.Offsets.{len_at}
use Rattle.rlsf_offsets.specs.Units.{Offsets}
use Rattle.rlsf_offsets.proofs.Bytes.{IsDeallocated-units, some_units}
use Rattle.rlsf_offsets.proofs.offsets.OffsetTlsf.deallocate.Goals as goal

pub deallocate-requires : goal.deallocate-requires
deallocate-requires g c =
    let unit = g.row.UNIT in
    let live = subst (λ (v : Offsets). IsSome (len_at unit v c.args.offset)) (sym c.self.view_is) c.requires in
    some_units unit (IsPowerOfTwo-positive unit c.self.invariant.0) c.self.inside.inner c.args.offset live

pub returns : goal.returns
returns g c =
    let unit = g.row.UNIT in
    let some = IsPowerOfTwo-positive unit c.self.invariant.0 in
    let live = subst (λ (v : Offsets). IsSome (len_at unit v c.args.offset)) (sym c.self.view_is) c.requires in
    let e = c.deallocate.ensures in
    rw (← c.self.view_is) (assumption (IsDeallocated-units unit some c.self.inside.inner c.deallocate.new.self c.args.offset live e.released, e))
