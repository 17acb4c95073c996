use Rattle.rlsf_global.proofs.Journal.Determined.{calls_determine_replies, replay_determines, runs_determine_replies}
use Rattle.rlsf_global.proofs.Journal.ReceiptsOf.{receipts_are_entries}
use Rattle.rlsf_global.proofs.laws.Goals as goal

pub returns : goal.returns
returns c = record { receipts = receipts_are_entries; replies = calls_determine_replies; one_placement = replay_determines; runs = runs_determine_replies }
