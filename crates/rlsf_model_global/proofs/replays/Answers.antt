use Rattle.rlsf_model_global.proofs.Journals.{journal_determines, others_keep_placement, replay_begins, replay_determines, replay_goes_on}
use Rattle.rlsf_model_global.proofs.Replayed.{placement_determines}
use Rattle.rlsf_model_global.proofs.replays.Goals as goal

pub returns : goal.returns
returns c = record {
  determined = placement_determines;
  kept = others_keep_placement;
  journal = journal_determines;
  begins = replay_begins;
  goes_on = replay_goes_on;
  one_placement = replay_determines;
}
