-- The states are well-formed, and the words read no payload.
use Rattle.rlsf_flex.proofs.Unlent.{flex_states_are_well_formed, flex_words_read_no_payload}
use Rattle.rlsf_flex.proofs.laws.Goals as goal

pub returns : goal.returns
returns g c = record {
  well_formed = flex_states_are_well_formed g.S.FlexSource.terms g.S.FlexSource.owes;
  words = flex_words_read_no_payload g.S.FlexSource.terms g.S.FlexSource.owes;
}
