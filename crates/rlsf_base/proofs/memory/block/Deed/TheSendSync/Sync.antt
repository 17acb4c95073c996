-- A `&` to the right to deallocate a block may go to another thread.
use denote.RattleType.{RattleType}
use denote.Param.Send.{IsSync}
use Rattle.core.specs.declared.alloc.Allocator.{Ghosts}
use Rattle.rlsf_base.proofs.RawBlock.Crosses.{Deed-sync}
use Rattle.rlsf_base.specs.contracts.memory.block.Deed.{the_row}

pub sync : (A : RattleType) (g : Ghosts A.Denot) → IsSync (the_row A g)
sync = Deed-sync
