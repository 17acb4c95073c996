-- What holds of the states and of the words that an allocator over a source represents.
use Rattle.std.specs.Prelude.{ℕ, List}
use Rattle.rlsf_base.specs.declared.memory.range.Range.{Range}
use Rattle.rlsf_base.specs.Space.{Space, range_of}
use Rattle.rlsf_blocks.specs.Laws.{DiffersInPayloads, read_from}
use Rattle.rlsf_blocks.specs.StandsFor.{contents, StandsFor}
use Rattle.rlsf_flex.specs.StandsFor.{FlexContents, FlexStands, FlexStandsFor, with_allocator}
use Rattle.rlsf_model.specs.FlexWellFormed.{IsFlexWellFormed}
use Rattle.rlsf_model.specs.Terms.{Terms}

-- The state of every valid allocator is well-formed with its ranges and its kept pool. So the reference model's laws over a source
-- apply to it.
abbrev pub FlexStatesAreWellFormed : {S : Type 0} → (S → Terms) → (S → List Range → Type 0) → Type 0
FlexStatesAreWellFormed {S} terms owes = (fllen sllen : ℕ) (v : FlexContents S) → FlexStands fllen sllen terms owes v
    → IsFlexWellFormed fllen sllen (range_of v.memory) (terms v.source) v.state

-- the allocator with another memory, and with the bytes that this has in the payloads
abbrev pub with_memory : {S : Type 0} → FlexContents S → Space → FlexContents S
with_memory v n = with_allocator v (record { memory = n; table = v.table; state = read_from n v.state.machine })

-- What is said of the words inside the pools, of the class table and of the footers reads no usable byte of a live payload:
-- whatever callers write there, it holds of the state with these bytes.
abbrev pub FlexWordsReadNoPayload : {S : Type 0} → (S → Terms) → (S → List Range → Type 0) → Type 0
FlexWordsReadNoPayload {S} terms owes = (fllen sllen : ℕ) (v : FlexContents S) (n : Space) → StandsFor fllen sllen (contents v.memory v.table) v.state.machine
    → FlexStandsFor fllen sllen terms owes v → DiffersInPayloads v.memory n v.state.machine
    → StandsFor fllen sllen (contents n v.table) (read_from n v.state.machine) × FlexStandsFor fllen sllen terms owes (with_memory v n)
