-- A space of units as contracts see it, and what its calls return and do.
use Rattle.std.specs.Prelude.{◌≡◌, ◌⊎◌, ℕ, ◌+◌, ◌^◌, ◌<◌, ◌≤◌, max, None, Result, Ok, Err, IfOk, OnErr}
use Rattle.rlsf_blocks.specs.declared.totals.Totals.{Totals}
use Rattle.rlsf_offsets.specs.Blocks.{AreStats}
use Rattle.rlsf_offsets.specs.Checked.{IsAllocation, IsGrowth, IsRangeReallocation, if_range_live, len_or}
use Rattle.rlsf_offsets.specs.Offsets.{IsRangeAllocated, IsRangeDeallocated, IsSpaceGrown, IsRangeReallocated, KeepsRanges, len_at}
use Rattle.rlsf_offsets.specs.Units.{Offsets, limit_of}
use Rattle.rlsf_offsets.specs.declared.error.OffsetError.{OffsetError}
use Rattle.rlsf_offsets.specs.declared.error.OffsetError.TheVariants.{BadUnit, BadAlign, NoRoom, OutOfMemory, TooLong, TooShort, UnknownOffset}
use Rattle.rlsf_offsets.specs.declared.stats.Stats.{Stats}
use Rattle.rlsf_pool_calls.specs.declared.answers.Answer.{Answer}
use Rattle.rlsf_pool_calls.specs.declared.space.OffsetSpace.{OffsetSpace}
use Rattle.rlsf_pool_calls.specs.declared.space.OffsetSpace.TheVariants.{Refused, Ready}

-- the value of a space
abbrev pub SpaceValue : Type 0
SpaceValue = OffsetSpace

-- 0, or why there is no space
abbrev pub space_status : SpaceValue → ℕ
space_status (Refused e) = e
space_status (Ready v) = 0

-- how many units there are
abbrev pub space_units : SpaceValue → ℕ
space_units (Refused e) = 0
space_units (Ready v) = v.units

-- what is left of a space that was ended: none, and no error
abbrev pub ended_space : SpaceValue
ended_space = Refused 0

-- ---- results as numbers

-- the number of an error
abbrev pub number_for : OffsetError → ℕ
number_for BadUnit = 1
number_for BadAlign = 2
number_for UnknownOffset = 3
number_for TooLong = 4
number_for TooShort = 5
number_for NoRoom = 6
number_for OutOfMemory = 7

-- an answer that is an error
abbrev pub refused_for : ℕ → Answer
refused_for e = record { error = e; value = 0 }

-- a number, or an error
abbrev pub answer_for : Result ℕ OffsetError → Answer
answer_for (Ok n) = record { error = 0; value = n }
answer_for (Err e) = refused_for (number_for e)

-- 0, or an error
abbrev pub code_for : Result (Unit {0}) OffsetError → ℕ
code_for (Ok x) = 0
code_for (Err e) = number_for e

-- ---- what calls return and do; where there is no space, the error is 8

-- Too many units, or the system is out of memory; or all units are free, none is in a live range, and there can be so many
abbrev pub IsSpaceMade : ℕ → ℕ → SpaceValue → Type 0
IsSpaceMade units limit (Refused e) = ((e ≡ 4) × (2 ^ 56 < max units limit)) ⊎ ((e ≡ 7) × (max units limit ≤ 2 ^ 56))
IsSpaceMade units limit (Ready v) = (v.units ≡ units) × (limit_of v ≡ max units limit) × ((o : ℕ) → len_at 1 v o ≡ None)

-- an allocation: each error exactly if it applies, and then nothing changes
pub record AllocatesUnits (before : Offsets) (units align : ℕ) (answer : Answer) (after : Offsets) : Type 0 where
  pub outcome : Result ℕ OffsetError
  pub told : answer ≡ answer_for outcome
  pub which : IsAllocation 1 before units align outcome
  pub allocated : IfOk outcome (λ offset. IsRangeAllocated 1 before after units align offset)
  pub same : OnErr outcome (KeepsRanges 1 before after)
  pub touches : after.shadow.memory.touches ≤ before.shadow.memory.touches + 27

abbrev pub AllocatesIn : SpaceValue → ℕ → ℕ → Answer → SpaceValue → Type 0
AllocatesIn (Refused e) units align answer after = (answer ≡ refused_for 8) × (after ≡ Refused e)
AllocatesIn (Ready v) units align answer (Refused e) = ⊥
AllocatesIn (Ready v) units align answer (Ready x) = AllocatesUnits v units align answer x

-- a deallocation
pub record FreesUnits (before : Offsets) (offset answer : ℕ) (after : Offsets) : Type 0 where
  pub outcome : Result (Unit {0}) OffsetError
  pub told : answer ≡ code_for outcome
  pub which : outcome ≡ if_range_live (len_at 1 before offset) tt
  pub deallocated : IfOk outcome (λ x. IsRangeDeallocated 1 before after offset)
  pub same : OnErr outcome (KeepsRanges 1 before after)
  pub touches : after.shadow.memory.touches ≤ before.shadow.memory.touches + 33

abbrev pub FreesIn : SpaceValue → ℕ → ℕ → SpaceValue → Type 0
FreesIn (Refused e) offset answer after = (answer ≡ 8) × (after ≡ Refused e)
FreesIn (Ready v) offset answer (Refused e) = ⊥
FreesIn (Ready v) offset answer (Ready x) = FreesUnits v offset answer x

-- a reallocation in place
pub record ResizesUnits (before : Offsets) (offset units answer : ℕ) (after : Offsets) : Type 0 where
  pub outcome : Result (Unit {0}) OffsetError
  pub told : answer ≡ code_for outcome
  pub which : IsRangeReallocation 1 before offset units outcome
  pub reallocated : IfOk outcome (λ x. IsRangeReallocated 1 before after units offset)
  pub same : OnErr outcome (KeepsRanges 1 before after)
  pub touches : after.shadow.memory.touches ≤ before.shadow.memory.touches + 26

abbrev pub ResizesIn : SpaceValue → ℕ → ℕ → ℕ → SpaceValue → Type 0
ResizesIn (Refused e) offset units answer after = (answer ≡ 8) × (after ≡ Refused e)
ResizesIn (Ready v) offset units answer (Refused e) = ⊥
ResizesIn (Ready v) offset units answer (Ready x) = ResizesUnits v offset units answer x

-- a growth of the space
pub record Grows (before : Offsets) (units answer : ℕ) (after : Offsets) : Type 0 where
  pub outcome : Result (Unit {0}) OffsetError
  pub told : answer ≡ code_for outcome
  pub which : IsGrowth 1 before units outcome
  pub grown : IfOk outcome (λ x. IsSpaceGrown 1 before after units)
  pub same : OnErr outcome (KeepsRanges 1 before after)
  pub touches : after.shadow.memory.touches ≤ before.shadow.memory.touches + 34

abbrev pub GrowsIn : SpaceValue → ℕ → ℕ → SpaceValue → Type 0
GrowsIn (Refused e) units answer after = (answer ≡ 8) × (after ≡ Refused e)
GrowsIn (Ready v) units answer (Refused e) = ⊥
GrowsIn (Ready v) units answer (Ready x) = Grows v units answer x

-- how many units the range at an offset has, if one is live there
abbrev pub TellsIn : SpaceValue → ℕ → Answer → Type 0
TellsIn (Refused e) offset answer = answer ≡ refused_for 8
TellsIn (Ready v) offset answer = answer ≡ answer_for (len_or (len_at 1 v offset))

-- the totals of a space in those that C gets
abbrev pub stats_in : Totals → Stats
stats_in t = record { ranges = t.payloads; used = t.used; free = t.free; longest = t.longest }

-- the totals, which are 0 where there is no space
abbrev pub TotalsIn : SpaceValue → Totals → Type 0
TotalsIn (Refused e) t = t ≡ record { payloads = 0; used = 0; free = 0; longest = 0 }
TotalsIn (Ready v) t = AreStats 1 v (stats_in t)
