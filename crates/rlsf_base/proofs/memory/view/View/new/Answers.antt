use Rattle.std.proofs.Common.{refl}
use Rattle.rlsf_base.proofs.memory.view.View.new.Goals as goal

pub returns : goal.returns
returns c = refl
