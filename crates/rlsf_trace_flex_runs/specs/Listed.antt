-- A source that answers from a list.
use Rattle.std.specs.Prelude.{◌≡◌, ℕ, ◌≤◌, List, [], ◌∷◌, ◌++◌, length, nat_lt, if◌then◌else◌}
use Rattle.rlsf_base.specs.declared.memory.range.Range.{Range}
use Rattle.rlsf_base.specs.Range.{LiesIn}
use Rattle.rlsf_trace_flex_runs.specs.declared.listed.Capabilities.{Capabilities}
use Rattle.rlsf_trace_flex_runs.specs.declared.listed.Question.{Question}
use Rattle.rlsf_trace_flex_runs.specs.declared.listed.Question.TheVariants.{Alloc, Grow, Dealloc}
use Rattle.rlsf_model.specs.Insert.{IsVacant}
use Rattle.rlsf_model.specs.Lists.{IsIn}
use Rattle.rlsf_model.specs.Note.{Note, alloc, grow, dealloc}
use Rattle.rlsf_model.specs.Terms.{Terms}
use Rattle.rlsf_model.specs.WellFormed.{coverage, itself}

-- the terms of a source in a space, by what it can do
abbrev pub terms_in : Range → Capabilities → Terms
terms_in space c = record { space = space; dealloc = c.dealloc; grow = c.grow; contiguous = c.contiguous; min_align = c.min_align }

-- The terms of the source; the new ranges that it has provided, and the new bytes of ranges that grew; for how many questions it
-- has room; and the notes that it remembers, in order.
pub record Listed : Type 0 where
  pub terms : Terms
  pub taken : List Range
  pub room : ℕ
  pub asked : List Question

-- the ranges lie in the space, have no address that wasn't provided, and don't overlap
pub record ListedMayOwe (s : Listed) (owed : List Range) : Type 0 where
  pub in_space : (r : Range) → IsIn r owed → LiesIn r s.terms.space.start s.terms.space.len
  pub taken : (a : ℕ) → coverage itself owed a ≤ coverage itself s.taken a
  pub disjoint : (a : ℕ) → coverage itself owed a ≤ 1

-- a range is provided that lies in the space and overlaps no range provided before
pub record HandsOut (s : Listed) (r : Range) (t : Listed) : Type 0 where
  pub vacant : IsVacant s.terms.space s.taken r
  pub after : t ≡ record s { taken = s.taken ++ r ∷ [] }

-- a question with its answer, as the source remembers it
abbrev pub question_of : Note → Question
question_of (alloc n answer) = Alloc n answer
question_of (grow r n answer) = Grow r n answer
question_of (dealloc r) = Dealloc r

-- these questions and one more at the end, if there is room for it
abbrev pub remembered : ℕ → List Question → Question → List Question
remembered room asked q = if nat_lt (length asked) room then asked ++ q ∷ [] else asked

-- a question with its answer is put at the end of what the source remembers, and changes neither what it keeps to nor its room
pub record Remembers (x : Listed) (n : Note) (y : Listed) : Type 0 where
  pub terms : y.terms ≡ x.terms
  pub room : y.room ≡ x.room
  pub asked : y.asked ≡ remembered x.room x.asked (question_of n)
