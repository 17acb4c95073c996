-- A `&` to the owner of a block's bytes may go to another thread.
use denote.Param.Send.{IsSync}
use Rattle.rlsf_base.proofs.RawBlock.Crosses.{Bytes-sync}
use Rattle.rlsf_base.specs.contracts.memory.block.Bytes.{the_row}

pub sync : IsSync the_row
sync = Bytes-sync
