-- The owner of a block's bytes may move to another thread.
use denote.Param.Send.{IsSend}
use Rattle.rlsf_base.proofs.RawBlock.Crosses.{Bytes-send}
use Rattle.rlsf_base.specs.contracts.memory.block.Bytes.{the_row}

pub send : IsSend the_row
send = Bytes-send
