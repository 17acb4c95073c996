-- The journal of some steps determines its answers and the placement.
use Rattle.std.proofs.Common.{◌≡◌, Bool, true, false, if◌then◌else◌, true≢false, length, ℕ, List, [], ◌∷◌, ◌++◌, Option, Some, None, Err, refl, sym}
use Rattle.std.proofs.Common.{◌∙◌, ap, subst}
use Rattle.rlsf_base.specs.declared.memory.range.Range.{Range}
use Rattle.rlsf_model.proofs.Similar.{fill_is_similar}
use Rattle.rlsf_model_global.specs.declared.error.GlobalError.TheVariants.{TableMemory}
use Rattle.rlsf_model_global.specs.Heap.{HaveSamePlacement, Heap, beginning}
use Rattle.rlsf_model_global.specs.History.{IsHistory, LeadsTo, Step, allocate, read, usable, write}
use Rattle.rlsf_model_global.specs.Replays.{AreSameAnswers, HaveSameCalls, HasSameCall, JournalDetermines, LacksMemory, OthersKeepPlacement, ReplayBegins, ReplaysDetermine}
use Rattle.rlsf_model_global.specs.Replays.{ReplayGoesOn, is_entry, journal_of}
use Rattle.rlsf_model_global.specs.Rows.{Row, row_at}
use Rattle.rlsf_model_global.specs.Standing.{IsHeap}
use Rattle.rlsf_model_global.specs.Steps.{Done, WritesAt, WritesIn, are_usable}
use Rattle.rlsf_model_global.proofs.Histories.{either, steps_keep_heap}
use Rattle.rlsf_model_global.proofs.LastStepsDecide.{beginning_is_heap}
use Rattle.rlsf_model_global.proofs.Replayed.{placement_determines}
use Rattle.rlsf_model_global.proofs.Similars.{same_placement-at, same_placement-refl, same_placement-sym, same_placement-trans}

-- ---- steps that a journal doesn't have

wrote : (h g : Heap) (addr offset : ℕ) (bytes : List ℕ) → WritesIn h addr offset bytes g → HaveSamePlacement h g
wrote h g addr offset bytes (m, step, after) =
    same_placement-at h g refl after (record { machine = fill_is_similar h.flex.machine m addr _ step; pools = refl; kept = refl; source = refl; asked = refl })

writes : (h g : Heap) (addr offset : ℕ) (bytes : List ℕ) (o : Option Row) (result : Done) → WritesAt h addr offset bytes o result g → HaveSamePlacement h g
writes h g addr offset bytes None result step = same_placement-refl h g step.1
writes h g addr offset bytes (Some row) result step =
    either (are_usable h addr offset (length bytes)) step (λ e did. wrote h g addr offset bytes did.1) (λ e did. same_placement-refl h g did.1)

pub others_keep_placement : OthersKeepPlacement
others_keep_placement h g (allocate layout (Err TableMemory)) step other = same_placement-refl h g step
others_keep_placement h g (read addr offset lent result left) step other = same_placement-refl h g step.1
others_keep_placement h g (write addr offset bytes result) step other = writes h g addr offset bytes (row_at addr h.asked) result step
others_keep_placement h g (usable addr result) step other = same_placement-refl h g step.1
others_keep_placement h g s step other = absurd (true≢false other)

-- the system didn't refuse an entry
entry_had_memory : (s : Step) → is_entry s ≡ true → LacksMemory s → ⊥
entry_had_memory (allocate layout (Err TableMemory)) entry lacks = true≢false (sym entry)
entry_had_memory s entry lacks = lacks

-- ---- the journal alone

-- the entries lead from a heap with the placement to one with the other, whatever bytes change between them
abbrev LeadsOn : Range → Heap → List Step → Heap → Type 0
LeadsOn memory h [] g = HaveSamePlacement h g
LeadsOn memory h (s ∷ steps) g = (m : Heap) × (n : Heap) × HaveSamePlacement h m × IsHeap memory m × LeadsTo m s n × (is_entry s ≡ true) × LeadsOn memory n steps g

replay_from : (memory : Range) (h m g : Heap) (steps : List Step) → HaveSamePlacement h m → LeadsOn memory m steps g → LeadsOn memory h steps g
replay_from memory h m g [] near run = same_placement-trans near run
replay_from memory h m g (s ∷ steps) near (from, to, same, w, step, entry, rest) = (from, to, same_placement-trans near same, w, step, entry, rest)

-- each history is a replay of its journal
replayed : (memory : Range) (h g : Heap) (steps : List Step) → IsHeap memory h → IsHistory h steps g → LeadsOn memory h (journal_of steps) g
replayed memory h g [] w run = same_placement-refl h g run
replayed memory h g (s ∷ steps) w (m, step, rest) = by (is_entry s) refl (replayed memory m g steps (steps_keep_heap memory h m s w step) rest)
  where
    by : (b : Bool) → is_entry s ≡ b → LeadsOn memory m (journal_of steps) g → LeadsOn memory h (if b then s ∷ journal_of steps else journal_of steps) g
    by true entry next = (h, m, same_placement-refl h h refl, w, step, entry, next)
    by false other next = replay_from memory h m g (journal_of steps) (others_keep_placement h m s step other) next

-- replays of the same calls agree
replays_agree : (memory : Range) (h h' g g' : Heap) (steps steps' : List Step) → HaveSamePlacement h h' → LeadsOn memory h steps g → LeadsOn memory h' steps' g'
    → HaveSameCalls steps steps'
    → AreSameAnswers steps steps' × HaveSamePlacement g g'
replays_agree memory h h' g g' [] [] near run run' same = (tt, same_placement-trans (same_placement-sym run) (same_placement-trans near run'))
replays_agree memory h h' g g' [] (s' ∷ steps') near run run' same = absurd same
replays_agree memory h h' g g' (s ∷ steps) [] near run run' same = absurd same
replays_agree memory h h' g g' (s ∷ steps) (s' ∷ steps') near (m, n, to_m, w, step, entry, rest) (m', n', to_m', w', step', entry', rest') (first, others) =
    let before = same_placement-trans (same_placement-sym to_m) (same_placement-trans near to_m') in
    let (answer, after) = placement_determines memory m m' n n' s s' w w' before step step' first (entry_had_memory s entry) (entry_had_memory s' entry') in
    let (answers, end) = replays_agree memory n n' g g' steps steps' after rest rest' others in
    ((answer, answers), end)

-- ---- the laws

pub journal_determines : JournalDetermines
journal_determines memory h h' g g' steps steps' w w' near run run' same =
    replays_agree memory h h' g g' (journal_of steps) (journal_of steps') near (replayed memory h g steps w run) (replayed memory h' g' steps' w' run') same

-- a call is the same as itself
HasSameCall-refl : (s : Step) → HasSameCall s s
HasSameCall-refl (allocate layout m) = refl
HasSameCall-refl s = search

HaveSameCalls-refl : (steps : List Step) → HaveSameCalls steps steps
HaveSameCalls-refl [] = tt
HaveSameCalls-refl (s ∷ steps) = (HasSameCall-refl s, HaveSameCalls-refl steps)

-- ---- replays from the beginning

IsHistory-append : (h m g : Heap) (steps : List Step) (s : Step) → IsHistory h steps m → LeadsTo m s g → IsHistory h (steps ++ s ∷ []) g
IsHistory-append h m g [] s run step = (g, subst (λ x. LeadsTo x s g) run step, refl)
IsHistory-append h m g (first ∷ steps) s (k, begins, rest) step = (k, begins, IsHistory-append k m g steps s rest step)

journal_of-append : (steps more : List Step) → journal_of (steps ++ more) ≡ journal_of steps ++ journal_of more
journal_of-append [] more = refl
journal_of-append (s ∷ steps) more = by (is_entry s) (journal_of-append steps more)
  where
    by : (b : Bool) → journal_of (steps ++ more) ≡ journal_of steps ++ journal_of more
        → (if b then s ∷ journal_of (steps ++ more) else journal_of (steps ++ more)) ≡ (if b then s ∷ journal_of steps else journal_of steps) ++ journal_of more
    by true rest = ap (λ l. s ∷ l) rest
    by false rest = rest

pub replay_begins : ReplayBegins
replay_begins space grows = ([], refl, refl)

pub replay_goes_on : ReplayGoesOn
replay_goes_on space grows journal h g s (steps, run, same) step =
    (steps ++ s ∷ [], IsHistory-append (beginning space grows) h g steps s run step, journal_of-append steps (s ∷ []) ∙ ap (λ l. l ++ journal_of (s ∷ [])) same)

pub replay_determines : ReplaysDetermine
replay_determines space grows journal h g addressable (steps, run, same) (steps', run', same') =
    let start = beginning space grows in
    let w = beginning_is_heap space grows addressable in
    (journal_determines space start start h g steps steps' w w (same_placement-refl start start refl) run run'
    (subst (HaveSameCalls (journal_of steps)) (same ∙ sym same') (HaveSameCalls-refl (journal_of steps)))).1
