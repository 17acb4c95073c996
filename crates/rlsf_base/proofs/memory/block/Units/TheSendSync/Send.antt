-- Room for units of a block may move to another thread.
use denote.Param.Send.{IsSend}
use Rattle.rlsf_base.proofs.RawBlock.Crosses.{Units-send}
use Rattle.rlsf_base.specs.contracts.memory.block.Units.{the_row}

pub send : IsSend the_row
send = Units-send
