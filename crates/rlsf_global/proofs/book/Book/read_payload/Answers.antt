use Rattle.rlsf_global.proofs.Journal.Replays.{run_stands}
use Rattle.rlsf_global.proofs.book.Book.read_payload.Goals as goal

pub returns-clause-stands : goal.returns-clause-stands
returns-clause-stands c = rw (← c.self.view_is) (run_stands _ c.self.invariant.run)
