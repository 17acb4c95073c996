-- RunsSteps of the benchmark: what steps do to the reference model, and what is counted.
use Rattle.std.specs.Prelude.{◌≡◌, ℕ, zero, suc, ◌+◌, ◌*◌, ◌/◌, ◌%◌, ◌^◌, nat_eq, ◌==◌, Bool, true, false, if◌then◌else◌, Option, Some, None}
use Rattle.std.specs.Int.NonZero.{non_zero_u16_get, non_zero_usize_get}
use Rattle.std.specs.Option.{unwrap_or}
use Rattle.rlsf_base.specs.declared.memory.range.Range.{Range}
use Rattle.rlsf_base.specs.Range.{range_at}
use Rattle.rlsf_model.specs.Allocate.{Allocates}
use Rattle.rlsf_model.specs.Insert.{Inserts}
use Rattle.rlsf_model.specs.Reallocate.{Reallocates}
use Rattle.rlsf_model.specs.Release.{Deallocates}
use Rattle.rlsf_model.specs.State.{State, empty}
use Rattle.rlsf_bench_common.specs.declared.arguments.Arguments.{Arguments}
use Rattle.rlsf_bench_common.specs.declared.arguments.Configuration.{Configuration}
use Rattle.rlsf_bench_common.specs.declared.arguments.Configuration.TheVariants.{TwelveBySixteen, FiftyNineByEight, SixtyFourBySixtyFour}
use Rattle.rlsf_bench_common.specs.declared.arguments.Mode.{Mode}
use Rattle.rlsf_bench_common.specs.declared.arguments.Mode.TheVariants.{Free, Realloc}
use Rattle.rlsf_bench_common.specs.declared.tally.Tally.{Tally}
use Rattle.rlsf_bench_common.specs.Draws.{drawn}

-- the number of first-level rows of a configuration
abbrev pub bench_rows : Configuration → ℕ
bench_rows TwelveBySixteen = 12
bench_rows FiftyNineByEight = 59
bench_rows SixtyFourBySixtyFour = 64

-- the number of classes in a first-level row of a configuration
abbrev pub bench_classes : Configuration → ℕ
bench_classes TwelveBySixteen = 16
bench_classes FiftyNineByEight = 8
bench_classes SixtyFourBySixtyFour = 64

-- whether the step of this number, from 0 on, reallocates the payload that its slot holds: each eighth does, in the mode for it
abbrev pub reallocates_at : Mode → ℕ → Bool
reallocates_at Free step = false
reallocates_at Realloc step = step % 8 == 0

-- the state of a run: the model's state, the address of each slot's payload, and what was counted
pub record BenchState : Type 0 where
  pub machine : State
  pub slots : ℕ → Option ℕ
  pub tally : Tally

-- nothing is counted yet
abbrev pub empty_tally : Tally
empty_tally = record { refused = 0; checksum = 0 }

-- from this state of the model on, with empty slots
abbrev pub bench_beginning : State → BenchState
bench_beginning machine = record { machine = machine; slots = λ slot. None; tally = empty_tally }

-- the slots with what one of them holds now
abbrev pub with_slot : ℕ → Option ℕ → (ℕ → Option ℕ) → ℕ → Option ℕ
with_slot slot held slots = λ other. if nat_eq slot other then held else slots other

-- the count after one more allocation or reallocation
abbrev pub tally_after : Option ℕ → Tally → Tally
tally_after None tally = record { refused = tally.refused + 1; checksum = tally.checksum }
tally_after (Some addr) tally = record { refused = tally.refused; checksum = (tally.checksum * 31 % 2 ^ 64 + addr) % 2 ^ 64 }

-- the slot that a number names, of so many
abbrev pub slot_of : ℕ → ℕ → ℕ
slot_of slots draw = draw / 2 ^ 32 % slots

-- the size that it asks for, of so many
abbrev pub size_of : ℕ → ℕ → ℕ
size_of sizes draw = draw % sizes

-- the alignment of a slot's payloads, of so many alignments: slot after slot has 1, 2, 4 and so on, and then 1 again
abbrev pub alignment_of : ℕ → ℕ → ℕ
alignment_of aligns slot = 2 ^ (slot % aligns)

-- If the slot holds no payload, one of this alignment and size is allocated into it. Else a step that reallocates resizes the
-- payload, which stays where it is if that is refused. Any other step frees it.
abbrev pub ChangesSlot : ℕ → ℕ → Bool → ℕ → ℕ → BenchState → Option ℕ → BenchState → Type 0
ChangesSlot sllen align reallocates slot size s None t =
    (reply : Option ℕ) × (machine : State) × Allocates sllen s.machine size align reply machine
    × (t ≡ record { machine = machine; slots = with_slot slot reply s.slots; tally = tally_after reply s.tally })
ChangesSlot sllen align false slot size s (Some addr) t =
    (machine : State) × Deallocates s.machine addr machine × (t ≡ record { machine = machine; slots = with_slot slot None s.slots; tally = s.tally })
ChangesSlot sllen align true slot size s (Some addr) t =
    (reply : Option ℕ) × (machine : State) × Reallocates sllen s.machine addr size reply machine
    × (t ≡ record { machine = machine; slots = with_slot slot (Some (unwrap_or reply addr)) s.slots; tally = tally_after reply s.tally })

-- one step by a number and a size, which may be one that reallocates, on slots of so many alignments
abbrev pub DoesStep : ℕ → ℕ → ℕ → Bool → ℕ → ℕ → BenchState → BenchState → Type 0
DoesStep sllen aligns slots reallocates draw size s t =
    let slot = slot_of slots draw in
    ChangesSlot sllen (alignment_of aligns slot) reallocates slot size s (s.slots slot) t

-- so many steps in a mode, by the numbers in the order that they are drawn in
abbrev pub RunsSteps : ℕ → ℕ → ℕ → ℕ → Mode → ℕ → BenchState → BenchState → Type 0
RunsSteps sllen aligns slots sizes mode zero s t = t ≡ s
RunsSteps sllen aligns slots sizes mode (suc n) s t =
    (u : BenchState) × RunsSteps sllen aligns slots sizes mode n s u × DoesStep sllen aligns slots (reallocates_at mode n) (drawn n) (size_of sizes (drawn n)) u t

-- this is counted in a run of so many steps in a mode, from the state that a pool leads to
pub record IsBench (fllen sllen aligns : ℕ) (pool : Range) (slots sizes steps : ℕ) (mode : Mode) (tally : Tally) : Type 0 where
  pub taken : Option ℕ
  pub machine : State
  pub inserted : Inserts fllen empty pool taken machine
  pub last : BenchState
  pub ran : RunsSteps sllen aligns slots sizes mode steps (bench_beginning machine) last
  pub counts : tally ≡ last.tally

-- the steps that the command line asks for, on slots of so many alignments, in a pool of 32 MiB from address 4096 on
abbrev pub IsAsked : Arguments → ℕ → Tally → Type 0
IsAsked a aligns tally =
    IsBench (bench_rows a.configuration) (bench_classes a.configuration) aligns (range_at 4096 (2 ^ 25)) (non_zero_usize_get a.slots) (non_zero_u16_get a.sizes) a.steps a.mode
    tally
