-- The calls of a journal determine its replies.
use Rattle.std.proofs.Common.{◌≡◌, List, [], ◌∷◌, map, length, get_or, drop, Ok, Err, All, refl, ◌∙◌, ap, sym, subst, arith}
use Rattle.std.proofs.lemmas.List.Elements.{All-head, All-tail}
use Rattle.std.specs.declared.num.NonZeroUsize.{NonZeroUsize}
use Rattle.rlsf_base.specs.declared.memory.layout.Layout.{Layout}
use Rattle.rlsf_global.specs.declared.entry.Call.{Call}
use Rattle.rlsf_global.specs.declared.entry.Call.TheVariants.{Allocate, Deallocate, Reallocate}
use Rattle.rlsf_global.specs.declared.entry.Entry.{Entry}
use Rattle.rlsf_global.specs.declared.entry.Reply.{Reply}
use Rattle.rlsf_global.specs.declared.entry.Reply.TheVariants.{Placed, Freed, NoRoom, UnknownAddress, TableMemory, JournalMemory}
use Rattle.rlsf_global.specs.Journal.Entries.{IsReplyTo}
use Rattle.rlsf_global.specs.Journal.Laws.{CallsDetermineReplies, ReplayDetermines, RunsDetermineReplies, calls_of, replies_of}
use Rattle.rlsf_global.specs.Journal.Passes.{done_by, placed_by}
use Rattle.rlsf_global.specs.Journal.Replay.{beginning_of, step_by, step_of}
use Rattle.rlsf_model_global.proofs.LastStepsDecide.{beginning_is_heap}
use Rattle.rlsf_model_global.proofs.Journals.{journal_determines}
use Rattle.rlsf_model_global.proofs.Similars.{same_placement-refl}
use Rattle.rlsf_model_global.specs.declared.error.GlobalError.TheVariants as error
use Rattle.rlsf_model_global.specs.Heap.{Heap, beginning}
use Rattle.rlsf_model_global.specs.History.{IsHistory}
use Rattle.rlsf_model_global.specs.Replays.{AreSameAnswers, HaveSameCalls, IsSameAnswer, HasSameCall, journal_of}
use Rattle.rlsf_model_global.specs.Steps.{Done, Placed as Answer}

-- ---- one entry

same_call : (c d : Call) (r q : Reply) → c ≡ d → HasSameCall (step_by c r) (step_by d q)
same_call c d r q same = grind arith

-- the reply of a call that returns an address
abbrev placed_reply : Answer → Reply
placed_reply (Ok addr) = Placed addr
placed_reply (Err error.NoRoom) = NoRoom
placed_reply (Err error.TableMemory) = TableMemory
placed_reply (Err error.JournalMemory) = JournalMemory
placed_reply (Err e) = UnknownAddress

-- and a deallocation
abbrev done_reply : Done → Reply
done_reply (Ok x) = Freed
done_reply (Err error.JournalMemory) = JournalMemory
done_reply (Err e) = UnknownAddress

allocated_reply : (layout : Layout) (r : Reply) → IsReplyTo (Allocate layout) r → placed_reply (placed_by r) ≡ r
allocated_reply layout r is = grind arith

reallocated_reply : (addr : NonZeroUsize) (layout : Layout) (r : Reply) → IsReplyTo (Reallocate addr layout) r → placed_reply (placed_by r) ≡ r
reallocated_reply addr layout r is = grind arith

deallocated_reply : (addr : NonZeroUsize) (r : Reply) → IsReplyTo (Deallocate addr) r → done_reply (done_by r) ≡ r
deallocated_reply addr r is = grind arith

same_reply : (c d : Call) (r q : Reply) → c ≡ d → IsReplyTo c r → IsReplyTo d q → IsSameAnswer (step_by c r) (step_by d q) → r ≡ q
same_reply c d r q same fits fits' = subst (λ (x : Call). IsReplyTo x q → IsSameAnswer (step_by c r) (step_by x q) → r ≡ q) same (by c fits) fits'
  where
    by : (x : Call) → IsReplyTo x r → IsReplyTo x q → IsSameAnswer (step_by x r) (step_by x q) → r ≡ q
    by (Allocate layout) f g answer = sym (allocated_reply layout r f) ∙ ap placed_reply answer ∙ allocated_reply layout q g
    by (Deallocate addr) f g answer = sym (deallocated_reply addr r f) ∙ ap done_reply answer ∙ deallocated_reply addr q g
    by (Reallocate addr layout) f g answer = sym (reallocated_reply addr layout r f) ∙ ap placed_reply answer ∙ reallocated_reply addr layout q g

-- ---- all entries

same_calls : (es fs : List Entry) → calls_of es ≡ calls_of fs → HaveSameCalls (map step_of es) (map step_of fs)
same_calls [] [] same = tt
same_calls [] (f ∷ fs) same = absurd (omega (arith, ap length same))
same_calls (e ∷ es) [] same = absurd (omega (arith, ap length same))
same_calls (e ∷ es) (f ∷ fs) same = (same_call e.call f.call e.reply f.reply (ap (λ l. get_or l 0 e.call) same), same_calls es fs (ap (drop 1) same))

same_replies : (es fs : List Entry) → calls_of es ≡ calls_of fs → All (λ e. IsReplyTo e.call e.reply) es → All (λ e. IsReplyTo e.call e.reply) fs
    → AreSameAnswers (map step_of es) (map step_of fs)
    → replies_of es ≡ replies_of fs
same_replies [] [] same fits fits' answers = refl
same_replies [] (f ∷ fs) same fits fits' answers = absurd answers
same_replies (e ∷ es) [] same fits fits' answers = absurd answers
same_replies (e ∷ es) (f ∷ fs) same fits fits' answers =
    let P = λ (x : Entry). IsReplyTo x.call x.reply in
    let first = same_reply e.call f.call e.reply f.reply (ap (λ l. get_or l 0 e.call) same) (All-head P e es fits) (All-head P f fs fits') answers.0 in
    let rest = same_replies es fs (ap (drop 1) same) (All-tail P e es fits) (All-tail P f fs fits') answers.1 in
    ap (λ r. r ∷ replies_of es) first ∙ ap (λ l. f.reply ∷ l) rest

-- ---- the laws

pub calls_determine_replies : CallsDetermineReplies
calls_determine_replies es fs h g small same run run' calls =
    let (steps, history, journal) = run.replayed in
    let (steps', history', journal') = run'.replayed in
    let start = beginning_of h in
    let w = beginning_is_heap h.source.space h.source.grows small in
    let there = subst (λ (b : Heap). IsHistory b steps' g) (sym same) history' in
    let asked = subst (λ l. HaveSameCalls l (journal_of steps')) (sym journal) (subst (HaveSameCalls (map step_of es)) (sym journal') (same_calls es fs calls)) in
    let (answers, placement) = journal_determines h.source.space start start h g steps steps' w w (same_placement-refl start start refl) history there asked in
    (same_replies es fs calls run.fits run'.fits (subst (AreSameAnswers (map step_of es)) journal' (subst (λ l. AreSameAnswers l (journal_of steps')) journal answers)), placement)

pub replay_determines : ReplayDetermines
replay_determines journal h g small same run run' = (calls_determine_replies journal journal h g small same run run' refl).1

pub runs_determine_replies : RunsDetermineReplies
runs_determine_replies journal other h g here run run' calls =
    let start = ap (λ s. beginning s h.source.grows) here ∙ ap (beginning g.source.space) (run.grows ∙ sym run'.grows) in
    calls_determine_replies journal other h g run.addressable start run.replay run'.replay calls
