-- Calls to the reference model that asks a source for memory, with their replies and notes, and where they lead.
use Rattle.std.specs.Prelude.{◌≡◌, ℕ, List, [], ◌∷◌, ◌++◌, length, Some}
use Rattle.rlsf_base.specs.declared.memory.range.Range.{Range}
use Rattle.rlsf_model.specs.Answers.{MayAnswerAll}
use Rattle.rlsf_model.specs.FlexAllocate.{FlexAllocates}
use Rattle.rlsf_model.specs.FlexReallocate.{FlexReallocates}
use Rattle.rlsf_model.specs.FlexState.{FlexState, with_machine}
use Rattle.rlsf_model.specs.Lists.{IsIn}
use Rattle.rlsf_model.specs.Note.{Note}
use Rattle.rlsf_model.specs.Run.{Event, insert, append, allocate, deallocate, reallocate, fill, remove, trim, IsCallRefused, IsRemoval, IsSameCall, Leads, MayCall}
use Rattle.rlsf_model.specs.State.{State}
use Rattle.rlsf_model.specs.Terms.{Terms}
use Rattle.rlsf_model.specs.Trim.{Trims}

-- a call that asks the source nothing
pub record AsksNothing (fllen sllen : ℕ) (s : FlexState) (e : Event) (notes : List Note) (u : FlexState) : Type 0 where
  pub machine : State
  pub leads : Leads fllen sllen s.machine e machine
  pub none : notes ≡ []
  pub after : u ≡ with_machine s machine

-- A call with its reply, and the questions to the source with their answers, leads from one state to another. Ranges are inserted
-- by an allocation or a reallocation only, by the reference model itself, and removed by a trim only.
abbrev pub FlexLeads : ℕ → ℕ → Terms → FlexState → Event → List Note → FlexState → Type 0
FlexLeads fllen sllen t s (insert r reply) notes u = ⊥
FlexLeads fllen sllen t s (append r reply) notes u = ⊥
FlexLeads fllen sllen t s (allocate size align reply) notes u = FlexAllocates fllen sllen t s size align reply notes u
FlexLeads fllen sllen t s (deallocate addr) notes u = AsksNothing fllen sllen s (deallocate addr) notes u
FlexLeads fllen sllen t s (reallocate addr size reply) notes u = FlexReallocates fllen sllen t s addr size reply notes u
FlexLeads fllen sllen t s (fill addr bytes) notes u = AsksNothing fllen sllen s (fill addr bytes) notes u
FlexLeads fllen sllen t s (remove r) notes u = ⊥
FlexLeads fllen sllen t s (trim count) notes u = Trims t s count notes u

-- what the caller of a call over a source owes: nothing at a trim
abbrev pub FlexMayCall : Range → State → Event → Type 0
FlexMayCall memory s (trim count) = Unit {0}
FlexMayCall memory s e = MayCall memory s e

-- a call that its caller may make, with answers that a source may give, leads from one state to another
pub record IsFlexStep (fllen sllen : ℕ) (memory : Range) (t : Terms) (s : FlexState) (e : Event) (notes : List Note) (u : FlexState) : Type 0 where
  pub may : FlexMayCall memory s.machine e
  pub answers : MayAnswerAll t s.pools notes
  pub leads : FlexLeads fllen sllen t s e notes u

-- a call with its reply, and the questions to the source with their answers
pub record FlexEvent : Type 0 where
  pub event : Event
  pub notes : List Note

-- a list of such calls, one after another
abbrev pub IsFlexRun : ℕ → ℕ → Range → Terms → FlexState → List FlexEvent → FlexState → Type 0
IsFlexRun fllen sllen memory t s [] u = u ≡ s
IsFlexRun fllen sllen memory t s (c ∷ cs) u = (m : FlexState) × IsFlexStep fllen sllen memory t s c.event c.notes m × IsFlexRun fllen sllen memory t m cs u

-- all questions of some calls with their answers, in order
abbrev pub notes_in : List FlexEvent → List Note
notes_in [] = []
notes_in (c ∷ cs) = c.notes ++ notes_in cs

-- the calls with their replies, in order
abbrev pub events_in : List FlexEvent → List Event
events_in [] = []
events_in (c ∷ cs) = c.event ∷ events_in cs

-- the calls are the same, one by one, whatever their replies and what was asked
abbrev pub AreSameCalls : List FlexEvent → List FlexEvent → Type 0
AreSameCalls [] [] = Unit {0}
AreSameCalls [] (d ∷ ds) = ⊥
AreSameCalls (c ∷ cs) [] = ⊥
AreSameCalls (c ∷ cs) (d ∷ ds) = IsSameCall c.event d.event × AreSameCalls cs ds

-- the call inserts or appends memory
abbrev pub HandsIn : Event → Type 0
HandsIn (insert r reply) = Unit {0}
HandsIn (append r reply) = Unit {0}
HandsIn e = ⊥

-- The calls of the reference model alone that a call over a source consists of. There are none if it is refused. Otherwise it is the
-- call itself; or memory is inserted, and then the call is made; or memory is inserted, a payload is allocated there for one that
-- moves, and the old one is deallocated. A trim is one removal for each range that is returned.
abbrev pub ComesTo : Event → List Event → Type 0
ComesTo (trim count) es = (length es ≡ count) × ((e : Event) → IsIn e es → IsRemoval e)
ComesTo e [] = IsCallRefused e
ComesTo e (c ∷ []) = c ≡ e
ComesTo e (h ∷ c ∷ []) = HandsIn h × (c ≡ e)
ComesTo (reallocate addr size (Some to)) (h ∷ c ∷ d ∷ []) = HandsIn h × ((align : ℕ) × (c ≡ allocate size align (Some to))) × (d ≡ deallocate addr)
ComesTo e es = ⊥

-- so for a list of calls, one after another
abbrev pub AllComeTo : List FlexEvent → List Event → Type 0
AllComeTo [] es = es ≡ []
AllComeTo (c ∷ cs) es = (now : List Event) × (later : List Event) × (es ≡ now ++ later) × ComesTo c.event now × AllComeTo cs later
