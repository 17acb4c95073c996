use Rattle.std.proofs.Common.{refl}
use Rattle.rlsf_base.specs.Addr.{at}
use Rattle.rlsf_base.specs.Space.{range_of}
use Rattle.rlsf_flex.proofs.Calls.{IsFlexTlsf-alone, steps_alone}
use Rattle.rlsf_flex.proofs.Reserves.{sized_behind}
use Rattle.rlsf_flex.proofs.InnerAllocator.{opened}
use Rattle.rlsf_flex.proofs.flex.FlexTlsf.deallocate_unknown_align.Goals as goal

pub invariant_of-self : goal.invariant_of-self
invariant_of-self g c =
    let is = c.deallocate_unknown_align.ensures in
    IsFlexTlsf-alone c.self.invariant c.deallocate_unknown_align.new.self _ is.frame.place is.frame.chunks is.step

pub returns : goal.returns
returns g c =
    let is = c.deallocate_unknown_align.ensures in
    rw (← c.self.view_is) (record {
      step = steps_alone c.self.invariant.stands c.deallocate_unknown_align.new.self _ is.frame.place c.self.invariant.whole is.frame.chunks is.step;
      result = is.result;
      room =
          let (step, stands, spare) = opened _ _ _ is.step in
          sized_behind g.FLBitmap.BitPattern.width g.SLBitmap.BitPattern.width g.row.FLLEN g.row.SLLEN (range_of c.self.inside.parts.tlsf.memory)
          c.self.inside.parts.tlsf.state c.deallocate_unknown_align.new.self.state c.self.invariant.valid c.self.invariant.stands.well_formed.machine (at c.args.addr) step;
      bounds = is.bounds;
      frame = record { source = refl; chunks = is.frame.chunks; place = is.frame.place; grow = is.frame.grow; copied = is.frame.copied };
      touches = is.touches;
    })
