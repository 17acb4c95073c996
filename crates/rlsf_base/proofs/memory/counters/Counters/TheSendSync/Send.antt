-- The counts may move to another thread.
use denote.Param.Send.{IsSend}
use Rattle.rlsf_base.proofs.RawBlock.Crosses.{Counters-send}
use Rattle.rlsf_base.specs.contracts.memory.counters.Counters.{the_row}

pub send : IsSend the_row
send = Counters-send
