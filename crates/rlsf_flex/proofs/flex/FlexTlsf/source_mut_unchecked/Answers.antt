use Rattle.std.proofs.Common.{refl}
use Rattle.rlsf_flex.specs.Steps.Parts.{flex_over}
use Rattle.rlsf_flex.proofs.Outcomes.{FlexStandsFor-refused}
use Rattle.rlsf_flex.proofs.InnerAllocator.{flex_stood_at}
use Rattle.rlsf_flex.proofs.flex.FlexTlsf.source_mut_unchecked.Goals as goal

pub invariant_of-self : goal.invariant_of-self
invariant_of-self g c =
    let v = flex_over c.self.inside.parts in
    let is = c.self.invariant.stands in
    record {
      valid = c.self.invariant.valid;
      stands = FlexStandsFor-refused v c.change.new.source is c.change.ensures.terms (c.change.ensures.owes v.state.pools is.owed);
      whole = c.self.invariant.whole;
    }

pub returns : goal.returns
returns g c =
    let v = flex_over c.self.inside.parts in
    let stands = c.self.invariant.stands in
    let is = c.change.ensures in
    rw (← c.self.view_is) (record {
      changes = is.changes;
      terms = is.terms;
      state = refl;
      memory = refl;
      table = refl;
      stands = flex_stood_at (FlexStandsFor-refused v c.change.new.source stands is.terms (is.owes v.state.pools stands.owed));
    })
