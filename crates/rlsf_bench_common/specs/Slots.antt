-- What the slots of a run hold.
use Rattle.std.specs.Prelude.{◌≡◌, ℕ, zero, suc, Bool, List, Option, Some, None, slice_index_or}
use Rattle.rlsf_model.specs.State.{IsLive}
use Rattle.rlsf_tlsf.specs.Allocator.{Allocator, IsInState}
use Rattle.rlsf_bench_common.specs.declared.tally.Tally.{Tally}
use Rattle.rlsf_bench_common.specs.Runs.{BenchState, DoesStep, alignment_of}

-- the payload that a slot of this number holds, by its address; 0 is none
abbrev pub slot_address : ℕ → Option ℕ
slot_address zero = None
slot_address (suc before) = Some (suc before)

-- The allocator and the slots have the state of a run, and this is counted. The payload that a slot holds is live, with the slot's
-- alignment, and no other slot holds it.
pub record AreSlotsAt (fllen sllen aligns : ℕ) (v : Allocator) (table : List ℕ) (counts : Tally) (s : BenchState) : Type 0 where
  pub stands : IsInState fllen sllen v s.machine
  pub slots : (slot : ℕ) → slot_address (slice_index_or table slot 0) ≡ s.slots slot
  pub live : (slot addr : ℕ) → s.slots slot ≡ Some addr → IsLive s.machine addr (alignment_of aligns slot)
  pub one_slot : (slot other addr : ℕ) → s.slots slot ≡ Some addr → s.slots other ≡ Some addr → slot ≡ other
  pub tally : counts ≡ s.tally

-- a step by a number and a size leads from this state of the run to that of the allocator and the slots; the number determines whether it may
-- reallocate
abbrev pub LeadsSlots : ℕ → ℕ → ℕ → ℕ → Bool → ℕ → ℕ → BenchState → Allocator → List ℕ → Tally → Type 0
LeadsSlots fllen sllen aligns slots reallocates draw size s w table counts =
    (t : BenchState) × DoesStep sllen aligns slots reallocates draw size s t × AreSlotsAt fllen sllen aligns w table counts t
