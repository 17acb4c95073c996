-- A lock may move to another thread where its value may.
use denote.RattleType.{RattleType}
use denote.Param.Send.{IsSend}
use Rattle.rlsf_shared_heap.proofs.LockRows.{lock_send}
use Rattle.rlsf_shared_heap.specs.declared.shared.held.Identified as identified
use Rattle.rlsf_shared_heap.specs.contracts.shared.lock.Lock.{the_row}

pub send : (T : RattleType) (g : identified.Ghosts T.Denot) → IsSend T → IsSend (the_row T g)
send = lock_send
