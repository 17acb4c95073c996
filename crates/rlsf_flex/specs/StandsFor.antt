-- What an allocator over a source represents.
use Rattle.std.specs.Prelude.{◌≡◌, ◌<◌, ℕ, true, List, [], Option}
use Rattle.std.specs.Option.{option_map}
use Rattle.rlsf_base.specs.declared.memory.range.Range.{Range}
use Rattle.rlsf_model_sizes.specs.SizeClass.{IsValid}
use Rattle.rlsf_base.specs.Space.{Space, range_of}
use Rattle.rlsf_table.specs.Table.{Table}
use Rattle.rlsf_blocks.specs.Spare.{KeepsSpare}
use Rattle.rlsf_tlsf.specs.Allocator.{Allocator, HasBytesOf}
use Rattle.rlsf_flex.specs.declared.pool.Pool.{Pool}
use Rattle.rlsf_flex.specs.Footers.{Footers}
use Rattle.rlsf_flex.specs.Outside.{KeepsOutside}
use Rattle.rlsf_flex.specs.SpareBytes.{KeepsSpareButFooter}
use Rattle.rlsf_model.specs.Answers.{MayAnswerAll}
use Rattle.rlsf_model.specs.FlexState.{FlexState, KeptPool, with_machine}
use Rattle.rlsf_model.specs.FlexWellFormed.{IsFlexWellFormed}
use Rattle.rlsf_model.specs.Note.{Note, LeadsBy}
use Rattle.rlsf_model.specs.Run.{Fills}
use Rattle.rlsf_model.specs.State.{State}
use Rattle.rlsf_model.specs.Terms.{Terms}

-- The allocator as contracts see it: its memory, its class table, its source, and its state. That is the state of the reference model,
-- the ranges that are outstanding at the source, and the kept pool.
pub record FlexContents (S : Type 0) : Type 0 where
  pub memory : Space
  pub table : Table
  pub source : S
  pub state : FlexState

-- the allocator over pools that it has
abbrev pub allocator_of : {S : Type 0} → FlexContents S → Allocator
allocator_of v = record { memory = v.memory; table = v.table; state = v.state.machine }

-- with another allocator over pools
abbrev pub with_allocator : {S : Type 0} → FlexContents S → Allocator → FlexContents S
with_allocator v t = record { memory = t.memory; table = t.table; source = v.source; state = with_machine v.state t.state }

-- a pool as contracts see it
abbrev pub kept_pool : Pool → KeptPool
kept_pool p = record { range = p.range; len = p.len }

-- the kept pool as contracts see it
abbrev pub kept_of : Option Pool → Option KeptPool
kept_of p = option_map kept_pool p

-- the allocator by its parts
abbrev pub flex_contents : {S : Type 0} → Allocator → Option Pool → S → List Range → FlexContents S
flex_contents t k source ranges = record { memory = t.memory; table = t.table; source = source; state = record { machine = t.state; pools = ranges; kept = kept_of k } }

-- The reference model's state is well-formed in the memory, with its ranges and its kept pool. The memory has the bytes of its payloads, and
-- none at the address 0. The source owes these ranges, and where it takes ranges back, their footers spell them.
pub record FlexStandsFor {S : Type 0} (fllen sllen : ℕ) (terms : S → Terms) (owes : S → List Range → Type 0) (v : FlexContents S) : Type 0 where
  pub nonzero : 0 < v.memory.start
  pub payloads : HasBytesOf v.memory v.state.machine
  pub well_formed : IsFlexWellFormed fllen sllen (range_of v.memory) (terms v.source) v.state
  pub owed : owes v.source v.state.pools
  pub footers : (terms v.source).dealloc ≡ true → Footers v.memory v.state.pools

-- what is true of every allocator's fields: the parameters are valid, the fields represent its state, and no byte of its memory is out
pub record IsFlexTlsf {S : Type 0} (fl_bits sl_bits fllen sllen : ℕ) (terms : S → Terms) (owes : S → List Range → Type 0) (v : FlexContents S) : Type 0 where
  pub valid : IsValid fl_bits sl_bits fllen sllen
  pub stands : FlexStandsFor fllen sllen terms owes v
  pub whole : v.memory.out ≡ []

-- so it is with an allocator's parts
unfoldable pub FlexStands : {S : Type 0} → ℕ → ℕ → (S → Terms) → (S → List Range → Type 0) → FlexContents S → Type 0
FlexStands fllen sllen terms owes v = FlexStandsFor fllen sllen terms owes v

-- A step of the reference model that asks the source nothing leads to the state after, with the same ranges and the same kept pool. Each
-- byte that no block is made of, before and after, is as it was.
unfoldable pub StepsAlone : {S : Type 0} → ℕ → ℕ → (S → Terms) → (S → List Range → Type 0) → FlexContents S → FlexContents S → (State → Type 0) → Type 0
StepsAlone fllen sllen terms owes before after step =
    step after.state.machine × (after.state ≡ with_machine before.state after.state.machine) × FlexStandsFor fllen sllen terms owes after
    × KeepsSpare before.memory before.state.machine after.memory after.state.machine

-- such a step writes the bytes of the payload at an address
abbrev pub FillsAlone : {S : Type 0} → ℕ → ℕ → (S → Terms) → (S → List Range → Type 0) → FlexContents S → FlexContents S → ℕ → List ℕ → Type 0
FillsAlone fllen sllen terms owes before after addr bytes = StepsAlone fllen sllen terms owes before after (Fills before.state.machine addr bytes)

-- A step of the reference model that may ask the source for memory leads to the state after, with notes. One by one, these notes and no
-- others lead from the source's value before to the one after. Their answers are such as a source may give. Bytes of the memory
-- outside of all ranges that ever were outstanding stay. Inside, bytes that no block is made of stay. The one exception is the newest
-- range's footer, if memory came and the source takes ranges back.
unfoldable pub FlexSteps : {S : Type 0} → ℕ → ℕ → (S → Terms) → (S → List Range → Type 0) → (S → Note → S → Type 0) → FlexContents S → FlexContents S
    → (List Note → FlexState → Type 0) → Type 0
FlexSteps fllen sllen terms owes leads before after step =
    (notes : List Note) × step notes after.state × LeadsBy leads before.source notes after.source × MayAnswerAll (terms before.source) before.state.pools notes
    × KeepsOutside before.memory before.state.pools notes after.memory after.state.pools × FlexStandsFor fllen sllen terms owes after
    × KeepsSpareButFooter (terms before.source) before.memory before.state after.memory after.state
