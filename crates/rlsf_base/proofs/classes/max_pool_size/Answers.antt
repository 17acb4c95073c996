use Rattle.std.proofs.Common.{rules}
use Rattle.rlsf_base.proofs.classes.max_pool_size.Goals as goal

pub returns-then-this-lt59 : goal.returns-then-this-lt59
returns-then-this-lt59 g c = search rules
