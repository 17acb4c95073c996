use Rattle.std.proofs.Common.{ap}
use Rattle.rlsf_blocks.proofs.Refused.{none_more}
use Rattle.rlsf_model.specs.State.{State}
use Rattle.rlsf_tlsf.specs.Results.{IsUnchanged}
use Rattle.rlsf_flex.specs.StandsFor.{kept_of}
use Rattle.rlsf_flex.proofs.Calls.{IsFlexTlsf-alone, steps_alone}
use Rattle.rlsf_flex.proofs.flex.FlexTlsf.reallocate_no_move.Goals as goal

pub invariant_of-self : goal.invariant_of-self
invariant_of-self g c =
    let is = c.reallocate_no_move.ensures in
    IsFlexTlsf-alone c.self.invariant c.reallocate_no_move.new.self _ is.frame.place is.frame.chunks is.step

pub returns : goal.returns
returns g c =
    let is = c.reallocate_no_move.ensures in
    rw (← c.self.view_is) (record {
      step = steps_alone c.self.invariant.stands c.reallocate_no_move.new.self _ is.frame.place c.self.invariant.whole is.frame.chunks is.step;
      result = is.result;
      bounds = is.bounds;
      refused =
          none_more c.reallocate_no_move.result
          (λ (no : IsUnchanged c.self.inside.parts.tlsf c.reallocate_no_move.new.self). record {
            same = ap (λ (s : State). record { machine = s; pools = c.self.inside.parts.owed.ranges; kept = kept_of c.self.inside.parts.kept }) no.same;
            bytes = no.bytes;
          })
          is.refused;
      frame = assumption is.frame;
      touches = is.touches;
    })
