use Rattle.std.proofs.Common.{rules, ◌≡◌, ◌≢◌, [], ◌∷◌, ◌++◌, ◌∙◌, ap, sym}
use Rattle.std.proofs.lemmas.Bool.{false≢true}
use Rattle.rlsf_global.specs.declared.entry.Reply.TheVariants.{TableMemory}
use Rattle.rlsf_global.specs.Journal.Entries.{entries_of}
use Rattle.rlsf_global.proofs.Journal.Replays.{book_goes_on, one_entry}
use Rattle.rlsf_global.proofs.book.Book.step.Goals as goal
use Rattle.rlsf_global.proofs.book.Book.step.Goals.{in-TableMemory, in_default}

-- an entry is pushed only where the table had room
has_table : (c : goal.After-push_reserved) → c.answer-reply.result ≢ TableMemory
has_table c =
    elim c.match-matches.branch [ in-TableMemory w ↦ absurd (false≢true (sym c.if-not-matches.true ∙ w.matches-is)) | in_default w ↦ w.in_default.not-TableMemory ]

-- and it is the call's
pushed : (c : goal.After-push_reserved) → c.push_reserved.new.self.items ≡ c.self.inside.journal.items ++ entries_of c.args.caller c.args.call c.answer-reply.result
pushed c = c.push_reserved.ensures.items ∙ ap (λ l. l ++ record { caller = c.args.caller; call = c.args.call; reply = c.answer-reply.result } ∷ []) c.try_reserve.ensures.items
    ∙ ap (λ l. c.self.inside.journal.items ++ l) (sym (one_entry c.args.caller c.args.call c.answer-reply.result (has_table c) c.answer-reply.ensures.not_journal))

pub invariant_of-self-then-not-matches : goal.invariant_of-self-then-not-matches
invariant_of-self-then-not-matches c =
    book_goes_on c.self.inside.journal.items _ c.args.caller c.args.call c.answer-reply.result c.self.inside.locked.heap c.answer-reply.new.locked.heap c.self.invariant.run
    c.answer-reply.ensures.step (pushed c) c.reserve_row.new.rows.items _ c.reserve_row.ensures.none (search rules)

pub returns-then-not-matches : goal.returns-then-not-matches
returns-then-not-matches c = record {
  step = rw (← c.self.view_is) c.answer-reply.ensures.step;
  entry = rw (← c.self.view_is) (pushed c);
  fits = c.answer-reply.ensures.fits;
  refused = rw (← c.self.view_is) c.answer-reply.ensures.refused;
  memory = rw (← c.self.view_is) c.answer-reply.ensures.memory;
}
