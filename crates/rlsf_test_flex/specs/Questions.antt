-- What a source is asked for two payloads of one byte.
use Rattle.std.specs.Prelude.{◌≡◌, ◌<◌, ◌≤◌, ◌⊎◌, false, List, [], ◌∷◌, Option, Some, None}
use Rattle.rlsf_base.specs.declared.memory.range.Range.{Range}
use Rattle.rlsf_trace_flex_runs.specs.declared.listed.Question.{Question}
use Rattle.rlsf_trace_flex_runs.specs.declared.listed.Question.TheVariants.{Alloc}
use Rattle.rlsf_model.specs.Terms.{Terms}

-- a source of a space that neither grows a range nor takes one back, and whose ranges start at multiples of 32
abbrev pub plain : Range → Terms
plain space = record { space = space; dealloc = false; grow = false; contiguous = false; min_align = 32 }

-- The questions for two allocations of one byte from the empty state, by their replies. The first allocation asks for a range of 64
-- bytes. If that is refused, the second one asks for 64 bytes again. Else it has room if the range has 96 bytes or more, and asks
-- for another range if it has fewer.
abbrev pub IsAskedForTwo : {A : Type 0} → Option A → Option A → List Question → Type 0
IsAskedForTwo None None asked = asked ≡ Alloc 64 None ∷ Alloc 64 None ∷ []
IsAskedForTwo None (Some b) asked = (r : Range) × (asked ≡ Alloc 64 None ∷ Alloc 64 (Some r) ∷ [])
IsAskedForTwo (Some a) None asked = (r : Range) × (r.len < 96) × (asked ≡ Alloc 64 (Some r) ∷ Alloc 64 None ∷ [])
IsAskedForTwo (Some a) (Some b) asked =
    (r : Range) × (((96 ≤ r.len) × (asked ≡ Alloc 64 (Some r) ∷ [])) ⊎ ((r.len < 96) × (q : Range) × (asked ≡ Alloc 64 (Some r) ∷ Alloc 64 (Some q) ∷ [])))
