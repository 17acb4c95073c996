-- Steps are determined by the placement: a journal of them can be replayed.
use Rattle.std.specs.Prelude.{◌≡◌, ◌^◌, ◌<◌, Bool, true, false, List, [], ◌∷◌, ◌++◌, length, Err, if◌then◌else◌}
use Rattle.rlsf_base.specs.declared.memory.range.Range.{Range}
use Rattle.rlsf_base.specs.Range.{end_of}
use Rattle.rlsf_model_global.specs.declared.error.GlobalError.TheVariants.{TableMemory}
use Rattle.rlsf_model_global.specs.Heap.{HaveSamePlacement, Heap, beginning}
use Rattle.rlsf_model_global.specs.History.{IsHistory, LeadsTo, Step, allocate, deallocate, deallocate_as, reallocate, reallocate_as, reallocate_there, read, usable, write}
use Rattle.rlsf_model_global.specs.Standing.{IsHeap}

-- two calls are the same, whatever they answer, and whatever bytes are written or lent
abbrev pub HasSameCall : Step → Step → Type 0
HasSameCall (allocate layout m) (allocate layout' n) = layout ≡ layout'
HasSameCall (deallocate addr m) (deallocate addr' n) = addr ≡ addr'
HasSameCall (deallocate_as addr layout m) (deallocate_as addr' layout' n) = (addr ≡ addr') × (layout ≡ layout')
HasSameCall (reallocate_as enabled addr layout size m) (reallocate_as enabled' addr' layout' size' n) =
    (enabled ≡ enabled') × (addr ≡ addr') × (layout ≡ layout') × (size ≡ size')
HasSameCall (reallocate addr wanted m) (reallocate addr' wanted' n) = (addr ≡ addr') × (wanted ≡ wanted')
HasSameCall (reallocate_there addr layout size m) (reallocate_there addr' layout' size' n) = (addr ≡ addr') × (layout ≡ layout') × (size ≡ size')
HasSameCall (read addr offset lent m left) (read addr' offset' lent' n left') = (addr ≡ addr') × (offset ≡ offset') × (length lent ≡ length lent')
HasSameCall (write addr offset bytes m) (write addr' offset' bytes' n) = (addr ≡ addr') × (offset ≡ offset') × (length bytes ≡ length bytes')
HasSameCall (usable addr m) (usable addr' n) = addr ≡ addr'
HasSameCall s s' = ⊥

-- two steps answer the same, whatever bytes are read
abbrev pub IsSameAnswer : Step → Step → Type 0
IsSameAnswer (allocate layout m) (allocate layout' n) = m ≡ n
IsSameAnswer (deallocate addr m) (deallocate addr' n) = m ≡ n
IsSameAnswer (deallocate_as addr layout m) (deallocate_as addr' layout' n) = m ≡ n
IsSameAnswer (reallocate_as enabled addr layout size m) (reallocate_as enabled' addr' layout' size' n) = m ≡ n
IsSameAnswer (reallocate addr wanted m) (reallocate addr' wanted' n) = m ≡ n
IsSameAnswer (reallocate_there addr layout size m) (reallocate_there addr' layout' size' n) = m ≡ n
IsSameAnswer (read addr offset lent m left) (read addr' offset' lent' n left') = m ≡ n
IsSameAnswer (write addr offset bytes m) (write addr' offset' bytes' n) = m ≡ n
IsSameAnswer (usable addr m) (usable addr' n) = m ≡ n
IsSameAnswer s s' = ⊥

-- the system was out of memory for a table entry, which is no matter of the placement
abbrev pub LacksMemory : Step → Type 0
LacksMemory (allocate layout (Err TableMemory)) = Unit {0}
LacksMemory s = ⊥

-- from the same placement, the same call has the same answer, unless the system refused, and leads to the same placement
abbrev pub PlacementDetermines : Type 0
PlacementDetermines = (memory : Range) (h h' g g' : Heap) (s s' : Step) → IsHeap memory h → IsHeap memory h' → HaveSamePlacement h h' → LeadsTo h s g → LeadsTo h' s' g'
    → HasSameCall s s'
    → (LacksMemory s → ⊥) → (LacksMemory s' → ⊥) → IsSameAnswer s s' × HaveSamePlacement g g'

-- a step that a journal has: no read, no write, no question for a length, and no step that was out of memory for a table entry
abbrev pub is_entry : Step → Bool
is_entry (allocate layout (Err TableMemory)) = false
is_entry (read addr offset lent result left) = false
is_entry (write addr offset bytes result) = false
is_entry (usable addr result) = false
is_entry s = true

-- any other step keeps the placement
abbrev pub OthersKeepPlacement : Type 0
OthersKeepPlacement = (h g : Heap) (s : Step) → LeadsTo h s g → is_entry s ≡ false → HaveSamePlacement h g

-- the journal of some steps
abbrev pub journal_of : List Step → List Step
journal_of [] = []
journal_of (s ∷ steps) = if is_entry s then s ∷ journal_of steps else journal_of steps

-- the calls are the same, one by one
abbrev pub HaveSameCalls : List Step → List Step → Type 0
HaveSameCalls [] [] = Unit {0}
HaveSameCalls [] (s ∷ steps) = ⊥
HaveSameCalls (s ∷ steps) [] = ⊥
HaveSameCalls (s ∷ steps) (s' ∷ steps') = HasSameCall s s' × HaveSameCalls steps steps'

-- so are the answers
abbrev pub AreSameAnswers : List Step → List Step → Type 0
AreSameAnswers [] [] = Unit {0}
AreSameAnswers [] (s ∷ steps) = ⊥
AreSameAnswers (s ∷ steps) [] = ⊥
AreSameAnswers (s ∷ steps) (s' ∷ steps') = IsSameAnswer s s' × AreSameAnswers steps steps'

-- The calls in the journal determine its answers and the placement, whatever was read and written meanwhile.
abbrev pub JournalDetermines : Type 0
JournalDetermines = (memory : Range) (h h' g g' : Heap) (steps steps' : List Step) → IsHeap memory h → IsHeap memory h' → HaveSamePlacement h h' → IsHistory h steps g
    → IsHistory h' steps' g'
    → HaveSameCalls (journal_of steps) (journal_of steps') → AreSameAnswers (journal_of steps) (journal_of steps') × HaveSamePlacement g g'

-- a journal replays to a heap: steps that have it lead there from the beginning, whatever was read and written meanwhile
abbrev pub ReplaysTo : Range → Bool → List Step → Heap → Type 0
ReplaysTo space grows journal h = (steps : List Step) × IsHistory (beginning space grows) steps h × (journal_of steps ≡ journal)

-- the empty journal replays to the beginning
abbrev pub ReplayBegins : Type 0
ReplayBegins = (space : Range) (grows : Bool) → ReplaysTo space grows [] (beginning space grows)

-- a step more is an entry more, or none if a journal doesn't have it
abbrev pub ReplayGoesOn : Type 0
ReplayGoesOn = (space : Range) (grows : Bool) (journal : List Step) (h g : Heap) (s : Step) → ReplaysTo space grows journal h → LeadsTo h s g
    → ReplaysTo space grows (journal ++ journal_of (s ∷ [])) g

-- all heaps to which a journal replays have one placement
abbrev pub ReplaysDetermine : Type 0
ReplaysDetermine = (space : Range) (grows : Bool) (journal : List Step) (h g : Heap) → end_of space < 2 ^ 64 → ReplaysTo space grows journal h → ReplaysTo space grows journal g
    → HaveSamePlacement h g
