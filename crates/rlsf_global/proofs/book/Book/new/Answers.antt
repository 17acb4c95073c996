use Rattle.rlsf_base.specs.Space.{range_of}
use Rattle.rlsf_global.proofs.Heaps.{locked_heap}
use Rattle.rlsf_global.proofs.Journal.Replays.{book_begins, run_stands}
use Rattle.rlsf_global.proofs.book.Book.new.Goals as goal

pub invariant_of-result : goal.invariant_of-result
invariant_of-result c =
    book_begins c.new.result.heap (range_of c.args.memory) c.new.ensures.heap (locked_heap c.new.result c.new.ensures.stands).owed.cursor.addressable
    c.new-2.result.items c.new-2.ensures.items c.new-3.result.items _ c.new-3.ensures.items

pub returns-clause-stands : goal.returns-clause-stands
returns-clause-stands c = run_stands _ (invariant_of-result c).run
