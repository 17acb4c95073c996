-- The right to deallocate a block may move to another thread, as its allocator may.
use denote.RattleType.{RattleType}
use denote.Param.Send.{IsSend, Frees}
use Rattle.core.specs.declared.alloc.Allocator.{Ghosts}
use Rattle.rlsf_base.proofs.RawBlock.Crosses.{Deed-send}
use Rattle.rlsf_base.specs.contracts.memory.block.Deed.{the_row}

pub send : (A : RattleType) (g : Ghosts A.Denot) → IsSend A → Frees g g.dealloc_token → IsSend (the_row A g)
send A g s = Deed-send A g
