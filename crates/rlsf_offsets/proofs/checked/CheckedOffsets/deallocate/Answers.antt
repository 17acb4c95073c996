use Rattle.std.proofs.Common.{◌≡◌, ap, arith, false, subst, sym}
use Rattle.std.specs.Prelude.{IsSome, Ok, is_some}
use Rattle.rlsf_base.proofs.Numbers.PowersOfTwo.{IsPowerOfTwo-positive}
use Rattle.rlsf_offsets.specs.Checked.{if_range_live}
use Rattle.rlsf_offsets.specs.Offsets.{len_at}
use Rattle.rlsf_offsets.specs.Units.{Offsets}
use Rattle.rlsf_offsets.proofs.Bytes.{KeepsRanges-same}
use Rattle.rlsf_offsets.proofs.Growths.{sized-again}
use Rattle.rlsf_offsets.proofs.Live.{IsChecked-set, known, live_inside, unknown}
use Rattle.rlsf_offsets.proofs.checked.CheckedOffsets.deallocate.Goals as goal

pub returns-then-not-is_live : goal.returns-then-not-is_live
returns-then-not-is_live g c =
    let v = c.args.self.now in record {
      deallocated = tt;
      which = unknown _ tt c.if-not-is_live.ensures;
      sized = sized-again v;
      same = KeepsRanges-same g.row.UNIT v;
      touches = omega arith;
    }

pub set-requires : goal.set-requires
set-requires g c =
    let live = subst (λ (v : Offsets). IsSome (len_at g.row.UNIT v c.args.offset)) (sym c.self.view_is) (sym c.if-not-is_live.ensures) in
    live_inside c.self.invariant c.args.offset (IsPowerOfTwo-positive g.row.UNIT c.self.invariant.power) live

pub invariant_of-self : goal.invariant_of-self
invariant_of-self g c =
    let gone = c.deallocate.ensures.deallocated.units in
    let marks = c.set.ensures in
    IsChecked-set c.self.invariant c.deallocate.new.self c.set.new.self _ false marks.here marks.others marks.len (ap is_some gone.gone.0)
    (λ o other. (gone.others o other).0) gone.space gone.limit

pub returns : goal.returns
returns g c =
    let e = c.deallocate.ensures in
    let live = known _ tt c.if-not-is_live.ensures in
    let which = subst (λ (v : Offsets). Ok tt ≡ if_range_live (len_at g.row.UNIT v c.args.offset) tt) (sym c.self.view_is) live in
    rw (← c.self.view_is) (record { deallocated = e.deallocated; which = which; sized = e.sized; same = tt; touches = e.touches })
