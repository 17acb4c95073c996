use Rattle.std.proofs.Common.{refl}
use Rattle.rlsf_shared_heap.proofs.shared.returns.Returns.new.Goals as goal

pub returns-clause-room : goal.returns-clause-room
returns-clause-room g c = refl
