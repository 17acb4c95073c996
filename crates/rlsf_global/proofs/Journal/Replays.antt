-- A journal with one more entry, and a placement that is written to.
use Rattle.std.proofs.Common.{◌≡◌, ◌≢◌, ◌<◌, ◌≤◌, ◌^◌, ℕ, Bool, true, List, [], ◌∷◌, ◌++◌, map, length, Option, Some, None, IsSome, Ok, Err}
use Rattle.std.proofs.Common.{refl, ◌∙◌, ap, sym, subst, arith, append-nil}
use Rattle.std.proofs.lemmas.List.{map_push}
use Rattle.std.proofs.lemmas.List.Elements.{All-push}
use Rattle.rlsf_base.specs.Addr.{at}
use Rattle.rlsf_base.specs.Range.{end_of}
use Rattle.rlsf_base.specs.declared.memory.layout.Layout.{Layout}
use Rattle.rlsf_base.specs.declared.memory.range.Range.{Range}
use Rattle.rlsf_global.specs.declared.entry.Call.{Call}
use Rattle.rlsf_global.specs.declared.entry.Call.TheVariants.{Allocate, Deallocate, Reallocate}
use Rattle.rlsf_global.specs.declared.entry.Entry.{Entry}
use Rattle.rlsf_global.specs.declared.entry.Reply.{Reply}
use Rattle.rlsf_global.specs.declared.entry.Reply.TheVariants.{Placed, Freed, NoRoom, UnknownAddress, TableMemory, JournalMemory}
use Rattle.rlsf_global.specs.Journal.Entries.{IsReplyTo, entries_of, most_live}
use Rattle.rlsf_global.specs.Journal.Replay.{BookContents, BookStands, LeadsOrRefused, IsBook, IsReplay, IsRun, CallLeads, beginning_of, step_by, step_of}
use Rattle.rlsf_global.proofs.CodedRows.{length-put_most, length-without_less}
use Rattle.rlsf_model.specs.FlexState.{FlexState}
use Rattle.rlsf_model.specs.Note.{LeadsBy, Note}
use Rattle.rlsf_model_global.proofs.Journals.{replay_begins, replay_goes_on}
use Rattle.rlsf_model_global.specs.declared.error.GlobalError.TheVariants as error
use Rattle.rlsf_model_global.specs.Cursor.{PageCursor, PageLeads}
use Rattle.rlsf_model_global.specs.Heap.{Heap, beginning}
use Rattle.rlsf_model_global.specs.History.{IsHistory, LeadsTo, Step, write}
use Rattle.rlsf_model_global.specs.Moves.{HeapMovesAway, ReallocatesAt}
use Rattle.rlsf_model_global.specs.Replays as placement
use Rattle.rlsf_model_global.specs.Replays.{journal_of}
use Rattle.rlsf_model_global.specs.Rows.{Row, row_at}
use Rattle.rlsf_model_global.specs.Steps.{DeallocatesAt, Done, HeapWrites, Placed as Answer, Takes, WritesAt}

-- ---- a step leaves the space

-- nothing was placed in the cursor's space
abbrev start : PageCursor → Heap
start c = beginning c.space c.grows

lead-start : (x y : PageCursor) (n : Note) → PageLeads x n y → start y ≡ start x
lead-start x y n led = grind arith

leads-start : (ns : List Note) (x y : PageCursor) → LeadsBy PageLeads x ns y → start y ≡ start x
leads-start [] x y led = ap start led
leads-start (n ∷ ns) x y (z, one, rest) = leads-start ns z y rest ∙ lead-start x z n one

takes-start : (h : Heap) (size align : ℕ) (reply : Option ℕ) (flex : FlexState) (source : PageCursor) → Takes h size align reply flex source
    → start source ≡ start h.source
takes-start h size align reply flex source (notes, step, led) = leads-start notes h.source source led

deallocates-start : (h g : Heap) (addr : ℕ) (o : Option Row) (result : Done) → DeallocatesAt h addr o result g → beginning_of g ≡ beginning_of h
deallocates-start h g addr None result (refused, same) = ap beginning_of same
deallocates-start h g addr (Some row) result (done, (m, frees, after)) = ap beginning_of after

moves-start : (h g : Heap) (addr keep : ℕ) (wanted : Layout) (result : Answer) → HeapMovesAway h addr keep wanted result g → beginning_of g ≡ beginning_of h
moves-start h g addr keep wanted (Ok to) (moved, rows) = takes-start h wanted.size wanted.align (Some (at to)) moved.meanwhile g.source moved.takes
moves-start h g addr keep wanted (Err error.NoRoom) (takes, same) = ap beginning_of same
moves-start h g addr keep wanted (Err error.UnknownAddress) moved = absurd moved
moves-start h g addr keep wanted (Err error.WrongLayout) moved = absurd moved
moves-start h g addr keep wanted (Err error.TableMemory) moved = absurd moved
moves-start h g addr keep wanted (Err error.OutOfRange) moved = absurd moved
moves-start h g addr keep wanted (Err error.JournalMemory) moved = absurd moved

reallocates-start : (h g : Heap) (addr : ℕ) (wanted : Layout) (o : Option Row) (result : Answer) → ReallocatesAt h addr wanted o result g → beginning_of g ≡ beginning_of h
reallocates-start h g addr wanted None result (refused, same) = ap beginning_of same
reallocates-start h g addr wanted (Some row) result moved = moves-start h g addr _ wanted result moved

writes-start : (h g : Heap) (addr offset : ℕ) (bytes : List ℕ) (o : Option Row) (result : Done) → WritesAt h addr offset bytes o result g
    → beginning_of g ≡ beginning_of h
writes-start h g addr offset bytes o result step = grind arith

-- ---- a step makes at most one payload more live, and that alone in an allocation

deallocates-few : (h g : Heap) (addr : ℕ) (o : Option Row) (result : Done) → o ≡ row_at addr h.asked → DeallocatesAt h addr o result g → length g.asked ≤ length h.asked
deallocates-few h g addr o result is step = grind (arith, length-without_less)

moves-few : (h g : Heap) (addr keep : ℕ) (wanted : Layout) (result : Answer) → IsSome (row_at addr h.asked) → HeapMovesAway h addr keep wanted result g
    → length g.asked ≤ length h.asked
moves-few h g addr keep wanted result some moved = grind (arith, length-without_less, length-put_most)

reallocates-few : (h g : Heap) (addr : ℕ) (wanted : Layout) (o : Option Row) (result : Answer) → o ≡ row_at addr h.asked → ReallocatesAt h addr wanted o result g
    → length g.asked ≤ length h.asked
reallocates-few h g addr wanted None result is (refused, same) = let e = ap (λ (x : Heap). length x.asked) same in omega (arith, e)
reallocates-few h g addr wanted (Some row) result is moved = moves-few h g addr _ wanted result (subst IsSome is refl) moved

writes-asked : (h g : Heap) (addr offset : ℕ) (bytes : List ℕ) (o : Option Row) (result : Done) → WritesAt h addr offset bytes o result g → g.asked ≡ h.asked
writes-asked h g addr offset bytes o result step = grind arith

stays-few : (h g : Heap) (call : Call) → g ≡ h → length g.asked ≤ most_live call (length h.asked)
stays-few h g call same = grind arith

-- an entry's step: the reply is one of the call's, a journal has it, it leaves the space, and few payloads are live
record IsEntered (h : Heap) (call : Call) (reply : Reply) (g : Heap) : Type 0 where
  fits : IsReplyTo call reply
  leads : LeadsTo h (step_by call reply) g
  kept : journal_of (step_by call reply ∷ []) ≡ step_by call reply ∷ []
  start : beginning_of g ≡ beginning_of h
  few : length g.asked ≤ most_live call (length h.asked)

enters : (h g : Heap) (call : Call) (reply : Reply) → CallLeads h call reply g → IsEntered h call reply g
enters h g (Allocate layout) (Placed addr) step =
    record {
      fits = tt;
      leads = step;
      kept = refl;
      start = takes-start h layout.size layout.align (Some (at addr)) g.flex g.source step.0;
      few = let e = ap length step.1 in let most = length-put_most (addr, layout) h.asked in omega (arith, e, most);
    }
enters h g (Allocate layout) NoRoom step = record { fits = tt; leads = step; kept = refl; start = ap beginning_of step.1; few = stays-few h g (Allocate layout) step.1 }
enters h g (Allocate layout) Freed step = absurd step
enters h g (Allocate layout) UnknownAddress step = absurd step
enters h g (Allocate layout) TableMemory step = absurd step
enters h g (Allocate layout) JournalMemory step = absurd step
enters h g (Deallocate addr) Freed step = record {
  fits = tt;
  leads = step;
  kept = refl;
  start = deallocates-start h g (at addr) (row_at (at addr) h.asked) _ step;
  few = deallocates-few h g (at addr) (row_at (at addr) h.asked) _ refl step;
}
enters h g (Deallocate addr) UnknownAddress step = record {
  fits = tt;
  leads = step;
  kept = refl;
  start = deallocates-start h g (at addr) (row_at (at addr) h.asked) _ step;
  few = deallocates-few h g (at addr) (row_at (at addr) h.asked) _ refl step;
}
enters h g (Deallocate addr) (Placed to) step = absurd step
enters h g (Deallocate addr) NoRoom step = absurd step
enters h g (Deallocate addr) TableMemory step = absurd step
enters h g (Deallocate addr) JournalMemory step = absurd step
enters h g (Reallocate addr layout) (Placed to) step =
    record {
      fits = tt;
      leads = step;
      kept = refl;
      start = reallocates-start h g (at addr) layout (row_at (at addr) h.asked) _ step;
      few = reallocates-few h g (at addr) layout (row_at (at addr) h.asked) _ refl step;
    }
enters h g (Reallocate addr layout) NoRoom step = record {
  fits = tt;
  leads = step;
  kept = refl;
  start = reallocates-start h g (at addr) layout (row_at (at addr) h.asked) _ step;
  few = reallocates-few h g (at addr) layout (row_at (at addr) h.asked) _ refl step;
}
enters h g (Reallocate addr layout) UnknownAddress step =
    record {
      fits = tt;
      leads = step;
      kept = refl;
      start = reallocates-start h g (at addr) layout (row_at (at addr) h.asked) _ step;
      few = reallocates-few h g (at addr) layout (row_at (at addr) h.asked) _ refl step;
    }
enters h g (Reallocate addr layout) Freed step = absurd step
enters h g (Reallocate addr layout) TableMemory step = absurd step
enters h g (Reallocate addr layout) JournalMemory step = absurd step

-- ---- what a journal replays to

-- nothing
pub begun : (space : Range) (grows : Bool) → IsReplay [] (beginning space grows)
begun space grows = record { fits = λ k d short. absurd (omega (arith, short)); replayed = replay_begins space grows }

-- what steps lead to, with one step more
goes_on : (h g : Heap) (journal : List Step) (s : Step) → beginning_of g ≡ beginning_of h → placement.ReplaysTo h.source.space h.source.grows journal h → LeadsTo h s g
    → placement.ReplaysTo g.source.space g.source.grows (journal ++ journal_of (s ∷ [])) g
goes_on h g journal s same run step =
    subst (λ (b : Heap). (steps : List Step) × IsHistory b steps g × (journal_of steps ≡ journal ++ journal_of (s ∷ []))) (sym same)
    (replay_goes_on h.source.space h.source.grows journal h g s run step)

-- with an entry of a step
entered : (es : List Entry) (e : Entry) (h g : Heap) → IsReplay es h → CallLeads h e.call e.reply g → IsReplay (es ++ e ∷ []) g
entered es e h g run step =
    let is = enters h g e.call e.reply step in
    record {
      fits = All-push (λ (e : Entry). IsReplyTo e.call e.reply) es e run.fits is.fits;
      replayed =
          subst (λ l. placement.ReplaysTo g.source.space g.source.grows l g) (ap (λ l. map step_of es ++ l) is.kept ∙ sym (map_push step_of es e))
          (goes_on h g (map step_of es) (step_of e) is.start run.replayed is.leads);
    }

-- without one
unentered : (es : List Entry) (h g : Heap) → IsReplay es h → g ≡ h → IsReplay (es ++ []) g
unentered es h g run same = subst (λ l. IsReplay l g) (sym (append-nil es)) (subst (IsReplay es) (sym same) run)

-- a call that isn't out of memory has one entry
pub one_entry : (caller : ℕ) (call : Call) (reply : Reply) → reply ≢ TableMemory → reply ≢ JournalMemory
    → entries_of caller call reply ≡ record { caller = caller; call = call; reply = reply } ∷ []
one_entry caller call reply not_table not_journal = grind arith

-- whatever a call returns, the journal with its entries replays to the heap after it
pub recorded : (es : List Entry) (caller : ℕ) (call : Call) (reply : Reply) (h g : Heap) → IsReplay es h → LeadsOrRefused h call reply g
    → IsReplay (es ++ entries_of caller call reply) g
recorded es caller call (Placed to) h g run step = entered es (record { caller = caller; call = call; reply = Placed to }) h g run step
recorded es caller call Freed h g run step = entered es (record { caller = caller; call = call; reply = Freed }) h g run step
recorded es caller call NoRoom h g run step = entered es (record { caller = caller; call = call; reply = NoRoom }) h g run step
recorded es caller call UnknownAddress h g run step = entered es (record { caller = caller; call = call; reply = UnknownAddress }) h g run step
recorded es caller call TableMemory h g run step = unentered es h g run step
recorded es caller call JournalMemory h g run step = unentered es h g run step

-- a write has no entry
pub written : (es : List Entry) (h g : Heap) (addr offset : ℕ) (bytes : List ℕ) (result : Done) → IsReplay es h → HeapWrites h addr offset bytes result g → IsReplay es g
written es h g addr offset bytes result run step = record {
  fits = run.fits;
  replayed = subst (λ l. placement.ReplaysTo g.source.space g.source.grows l g) (append-nil (map step_of es))
      (goes_on h g (map step_of es) (write addr offset bytes result) (writes-start h g addr offset bytes (row_at addr h.asked) result step) run.replayed step);
}

-- ---- runs

-- the journal of a book is a run
pub run_stands : (b : BookContents) → IsRun b.journal b.locked.heap → BookStands b
unfolding BookStands
run_stands b run = run

-- nothing placed is one
run_begins : (h : Heap) (space : Range) → h ≡ beginning space true → end_of h.source.space < 2 ^ 64 → IsRun [] h
run_begins h space new small = record {
  replay = subst (IsReplay []) (sym new) (begun space true);
  grows = ap (λ (x : Heap). x.source.grows) new;
  addressable = small;
}

-- over one space and one kind of source
stays_run : (es fs : List Entry) (h g : Heap) → IsRun es h → beginning_of g ≡ beginning_of h → IsReplay fs g → IsRun fs g
stays_run es fs h g run same replay = record {
  replay = replay;
  grows = ap (λ (x : Heap). x.source.grows) same ∙ run.grows;
  addressable = subst (λ (x : Heap). end_of x.source.space < 2 ^ 64) (sym same) run.addressable;
}

answered-start : (h g : Heap) (call : Call) (reply : Reply) → LeadsOrRefused h call reply g → beginning_of g ≡ beginning_of h
answered-start h g call (Placed to) step = (enters h g call (Placed to) step).start
answered-start h g call Freed step = (enters h g call Freed step).start
answered-start h g call NoRoom step = (enters h g call NoRoom step).start
answered-start h g call UnknownAddress step = (enters h g call UnknownAddress step).start
answered-start h g call TableMemory step = ap beginning_of step
answered-start h g call JournalMemory step = ap beginning_of step

answered-few : (h g : Heap) (call : Call) (reply : Reply) → LeadsOrRefused h call reply g → length g.asked ≤ most_live call (length h.asked)
answered-few h g call (Placed to) step = (enters h g call (Placed to) step).few
answered-few h g call Freed step = (enters h g call Freed step).few
answered-few h g call NoRoom step = (enters h g call NoRoom step).few
answered-few h g call UnknownAddress step = (enters h g call UnknownAddress step).few
answered-few h g call TableMemory step = stays-few h g call step
answered-few h g call JournalMemory step = stays-few h g call step

-- a call goes on with a run
pub run_goes_on : (es : List Entry) (caller : ℕ) (call : Call) (reply : Reply) (h g : Heap) → IsRun es h → LeadsOrRefused h call reply g
    → IsRun (es ++ entries_of caller call reply) g
run_goes_on es caller call reply h g run step =
    stays_run es (es ++ entries_of caller call reply) h g run (answered-start h g call reply step) (recorded es caller call reply h g run.replay step)

-- a write stays in it
pub run_written : (es : List Entry) (h g : Heap) (addr offset : ℕ) (bytes : List ℕ) (result : Done) → IsRun es h → HeapWrites h addr offset bytes result g → IsRun es g
run_written es h g addr offset bytes result run step =
    stays_run es es h g run (writes-start h g addr offset bytes (row_at addr h.asked) result step) (written es h g addr offset bytes result run.replay step)

-- ---- books

-- nothing is live in a new one
pub book_begins : (h : Heap) (space : Range) → h ≡ beginning space true → end_of h.source.space < 2 ^ 64 → (es : List Entry) → es ≡ [] → (listed : List Row) (cap : ℕ)
    → listed ≡ [] → IsBook es h listed cap
book_begins h space new small es is listed cap none = record {
  run = subst (λ l. IsRun l h) (sym is) (run_begins h space new small);
  none = none;
  room = let e = ap (λ (x : Heap). length x.asked) new in omega (arith, e);
}

-- after a call there is room for the live addresses where there was room for one more
pub book_goes_on : (es after : List Entry) (caller : ℕ) (call : Call) (reply : Reply) (h g : Heap) → IsRun es h → LeadsOrRefused h call reply g
    → after ≡ es ++ entries_of caller call reply → (listed : List Row) (cap : ℕ) → listed ≡ [] → most_live call (length h.asked) ≤ cap → IsBook after g listed cap
book_goes_on es after caller call reply h g run step is listed cap none room = record {
  run = subst (λ l. IsRun l g) (sym is) (run_goes_on es caller call reply h g run step);
  none = none;
  room = let few = answered-few h g call reply step in omega (arith, few, room);
}

-- a write leaves them
pub book_written : (es : List Entry) (h g : Heap) (addr offset : ℕ) (bytes : List ℕ) (result : Done) (listed : List Row) (cap : ℕ) → IsBook es h listed cap
    → HeapWrites h addr offset bytes result g → IsBook es g listed cap
book_written es h g addr offset bytes result listed cap book step = record {
  run = run_written es h g addr offset bytes result book.run step;
  none = book.none;
  room = let e = ap length (writes-asked h g addr offset bytes (row_at addr h.asked) result step) in let room = book.room in omega (arith, e, room);
}
