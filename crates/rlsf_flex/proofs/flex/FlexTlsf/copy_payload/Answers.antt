use Rattle.std.proofs.Common.{refl}
use Rattle.rlsf_flex.proofs.Calls.{IsFlexTlsf-alone, steps_alone}
use Rattle.rlsf_flex.proofs.flex.FlexTlsf.copy_payload.Goals as goal

pub invariant_of-self : goal.invariant_of-self
invariant_of-self g c =
    let is = c.copy_payload.ensures in
    IsFlexTlsf-alone c.self.invariant c.copy_payload.new.self _ is.frame.place is.frame.chunks is.step

pub returns : goal.returns
returns g c =
    let is = c.copy_payload.ensures in
    rw (← c.self.view_is) (record {
      step = steps_alone c.self.invariant.stands c.copy_payload.new.self _ is.frame.place c.self.invariant.whole is.frame.chunks is.step;
      result = is.result;
      bounds = is.bounds;
      frame = record { source = refl; chunks = is.frame.chunks; place = is.frame.place; copied = is.frame.copied };
      touches = is.touches;
    })
