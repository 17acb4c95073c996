use Rattle.std.proofs.Common.{rules}
use Rattle.rlsf_blocks.proofs.totals.counted.Goals as goal

pub returns-else-is_occupied-clause-value : goal.returns-else-is_occupied-clause-value
returns-else-is_occupied-clause-value c = search rules
