use Rattle.std.proofs.Common.{rules}
use Rattle.rlsf_base.proofs.classes.within_rows.Goals as goal

pub returns-then-class : goal.returns-then-class
returns-then-class g c = search rules
