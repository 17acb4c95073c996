-- It may move to another thread.
use denote.Param.Send.{IsSend}
use Rattle.rlsf_base.proofs.RawBlock.Crosses.{Ledger-send}
use Rattle.rlsf_base.specs.contracts.memory.ledger.Ledger.{the_row}

pub send : IsSend the_row
send = Ledger-send
