use Rattle.rlsf_blocks.proofs.Consistency.Represented.{represented_are_consistent, represented_is_consistent}
use Rattle.rlsf_blocks.proofs.consistency_check.check.laws.Goals as goal

pub returns : goal.returns
returns c = record { range = represented_is_consistent; pools = represented_are_consistent }
