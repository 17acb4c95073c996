-- What the allocator over a source ends as, once a `&mut` to a payload's bytes has ended.
use Rattle.std.specs.Prelude.{◌≡◌, ℕ, ◌+◌, List, length}
use Rattle.std.specs.Borrow.{Fml, RattleType, MutBor, Array, Lends, u8}
use Rattle.rlsf_base.specs.declared.memory.range.Range.{Range}
use Rattle.rlsf_base.specs.Space.{SamePlace}
use Rattle.rlsf_flex.specs.StandsFor.{FlexContents, FlexStands, allocator_of, with_allocator}
use Rattle.rlsf_model.specs.FlexState.{with_machine}
use Rattle.rlsf_model.specs.Terms.{Terms}
use Rattle.rlsf_flex.specs.contracts.flex.FlexTlsf.{the_row}
use Rattle.rlsf_flex.specs.declared.source.FlexSource as source
use Rattle.rlsf_int.specs.declared.int.BitPattern as pattern
use Rattle.rlsf_tlsf.specs.Lending as tlsf

-- the allocator, with w in the place of the len bytes from the address on, as one over pools leaves it
abbrev pub flex_written : {S : Type 0} → FlexContents S → ℕ → ℕ → List ℕ → FlexContents S
flex_written v addr len w = with_allocator v (tlsf.written (allocator_of v) addr len w)

-- Whatever was left there, chunks, ranges, the kept pool, the source and the memory's place stay. The state is well-formed with its
-- ranges. Three touches are counted and no copy
abbrev pub FlexLeavesRest : {S : Type 0} → ℕ → ℕ → (S → Terms) → (S → List Range → Type 0) → FlexContents S → FlexContents S → Type 0
FlexLeavesRest fllen sllen terms owes before after =
    (after.state.machine.chunks ≡ before.state.machine.chunks) × (after.state ≡ with_machine before.state after.state.machine) × (after.source ≡ before.source)
    × SamePlace before.memory after.memory × FlexStands fllen sllen terms owes after
    × (after.memory.touches ≡ before.memory.touches + 3) × (after.memory.copied ≡ before.memory.copied)

-- the allocator ends with what r leaves in the bytes from the address on, and else as it was
abbrev pub flex_lends_payload : (S FL SL FLLEN SLLEN : RattleType) → source.Ghosts S.Denot → pattern.Ghosts FL.Denot → pattern.Ghosts SL.Denot → MutBor (FlexContents S.Denot)
    → ℕ → MutBor (List ℕ) → Fml
flex_lends_payload S FL SL FLLEN SLLEN s fl sl v addr r = Lends (the_row S FL SL FLLEN SLLEN s fl sl) (Array u8 0) v r (flex_written v.now addr (length r.now))
