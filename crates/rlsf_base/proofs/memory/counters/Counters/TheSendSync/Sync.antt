-- A `&` to the counts may go to another thread.
use denote.Param.Send.{IsSync}
use Rattle.rlsf_base.proofs.RawBlock.Crosses.{Counters-sync}
use Rattle.rlsf_base.specs.contracts.memory.counters.Counters.{the_row}

pub sync : IsSync the_row
sync = Counters-sync
