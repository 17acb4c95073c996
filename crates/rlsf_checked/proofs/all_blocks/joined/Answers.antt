use Rattle.std.proofs.Common.{refl}
use Rattle.rlsf_checked.proofs.Joined.{joined_totals}
use Rattle.rlsf_checked.proofs.all_blocks.joined.Goals as goal

pub returns-clause-totals : goal.returns-clause-totals
returns-clause-totals c = λ bs cs first second. joined_totals bs cs c.args.first c.args.second _ first second refl refl refl c.max.ensures
