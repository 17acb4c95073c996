use Rattle.rlsf_base.specs.Addr.{at}
use Rattle.rlsf_global.proofs.Journal.Replays.{book_written, run_stands}
use Rattle.rlsf_global.proofs.book.Book.write_payload.Goals as goal

pub invariant_of-self : goal.invariant_of-self
invariant_of-self c =
    book_written c.self.inside.journal.items c.self.inside.locked.heap c.write_payload.new.self.heap (at c.args.addr) c.args.offset c.args.bytes.now c.write_payload.result
    c.self.inside.rows.items _ c.self.invariant c.write_payload.ensures.step

pub returns-clause-stood : goal.returns-clause-stood
returns-clause-stood c = rw (← c.self.view_is) (run_stands _ c.self.invariant.run)

pub returns-clause-stands : goal.returns-clause-stands
returns-clause-stands c = run_stands _ (invariant_of-self c).run
