-- A `&` to a ticket may go to another thread.
use denote.Param.Send.{IsSync}
use Rattle.rlsf_base.proofs.RawBlock.Crosses.{Ticket-sync}
use Rattle.rlsf_base.specs.contracts.memory.ledger.Ticket.{the_row}

pub sync : IsSync the_row
sync = Ticket-sync
