-- A lock may be used in several threads where its value may move to another.
use denote.RattleType.{RattleType}
use denote.Param.Send.{IsSend, IsSync}
use Rattle.rlsf_shared_heap.proofs.LockRows.{lock_sync}
use Rattle.rlsf_shared_heap.specs.declared.shared.held.Identified as identified
use Rattle.rlsf_shared_heap.specs.contracts.shared.lock.Lock.{the_row}

pub sync : (T : RattleType) (g : identified.Ghosts T.Denot) → IsSend T → IsSync (the_row T g)
sync = lock_sync
