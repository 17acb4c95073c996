-- Payloads are isolated: what lives at an address is what the last step that names it left.
use Rattle.std.specs.Prelude.{◌≡◌, ℕ, ◌^◌, ◌<◌, Bool, List, ◌∷◌, ◌++◌, Some}
use Rattle.rlsf_base.specs.declared.memory.layout.Layout.{Layout}
use Rattle.rlsf_base.specs.declared.memory.range.Range.{Range}
use Rattle.rlsf_base.specs.Range.{end_of}
use Rattle.rlsf_model_global.specs.Heap.{Heap, Lists, beginning, content_at, layout_at}
use Rattle.rlsf_model_global.specs.History.{IsHistory, LeadsTo, Names, NoneNames, Step}
use Rattle.rlsf_model_global.specs.Rows.{IsSorted}
use Rattle.rlsf_model_global.specs.Standing.{IsHeap}

-- what lives at the address is the same in both heaps: its bytes, and its last requested layout; or nothing lives there
pub record IsSameAt (a : ℕ) (h g : Heap) : Type 0 where
  pub content : content_at g a ≡ content_at h a
  pub layout : layout_at g a ≡ layout_at h a

-- the beginning is a heap, where addresses fit in a word
abbrev pub BeginningIsHeap : Type 0
BeginningIsHeap = (space : Range) (grows : Bool) → end_of space < 2 ^ 64 → IsHeap space (beginning space grows)

-- each step leads from a heap to a heap
abbrev pub StepsKeepHeap : Type 0
StepsKeepHeap = (memory : Range) (h g : Heap) (s : Step) → IsHeap memory h → LeadsTo h s g → IsHeap memory g

-- and so does each list of steps
abbrev pub HistoriesKeepHeap : Type 0
HistoriesKeepHeap = (memory : Range) (h g : Heap) (steps : List Step) → IsHeap memory h → IsHistory h steps g → IsHeap memory g

-- what a step doesn't name stays
abbrev pub UnnamedStays : Type 0
UnnamedStays = (memory : Range) (h g : Heap) (s : Step) (a : ℕ) → IsHeap memory h → LeadsTo h s g → (Names s a → ⊥) → IsSameAt a h g

-- and so does what none of some steps names
abbrev pub UnnamedStaysThroughout : Type 0
UnnamedStaysThroughout = (memory : Range) (h g : Heap) (steps : List Step) (a : ℕ) → IsHeap memory h → IsHistory h steps g → NoneNames steps a → IsSameAt a h g

-- The last of some steps that names the address, between the steps before it and those after it. With it comes the heap that it left,
-- in which the address had what it has at the end
pub record IsLeftBy (start : Heap) (steps : List Step) (end : Heap) (a : ℕ) : Type 0 where
  pub before : List Step
  pub step : Step
  pub after : List Step
  pub parts : steps ≡ before ++ step ∷ after
  pub from : Heap
  pub left : Heap
  pub earlier : IsHistory start before from
  pub leads : LeadsTo from step left
  pub later : IsHistory left after end
  pub names : Names step a
  pub last : NoneNames after a
  pub same : IsSameAt a left end

-- Whatever the callers' steps are and in whatever order they come: what lives at an address was named by one of them, and is, bytes
-- and layout, what the last one that names it left.
abbrev pub PayloadsAreIsolated : Type 0
PayloadsAreIsolated = (space : Range) (grows : Bool) (steps : List Step) (end : Heap) (a : ℕ) (layout : Layout) → end_of space < 2 ^ 64
    → IsHistory (beginning space grows) steps end → layout_at end a ≡ Some layout → IsLeftBy (beginning space grows) steps end a

-- The live payloads are exactly the listed ones, in the order of addresses. Each has the alignment of its layout, the requested bytes,
-- and less than 32 more
abbrev pub HistoriesListPayloads : Type 0
HistoriesListPayloads = (space : Range) (grows : Bool) (steps : List Step) (end : Heap) → end_of space < 2 ^ 64 → IsHistory (beginning space grows) steps end
    → IsSorted end.asked × Lists end.asked end.flex.machine
