-- The ranges that are outstanding at a source, from its answers alone.
use Rattle.std.specs.Prelude.{◌≡◌, List, [], ◌∷◌, ◌++◌, Some, None}
use Rattle.rlsf_base.specs.declared.memory.range.Range.{Range}
use Rattle.rlsf_model.specs.Note.{Note, alloc, grow, dealloc}
use Rattle.rlsf_model.specs.Terms.{with_len}

-- what is outstanding after an answer: a range that was given is one more, one that grew is longer, and one that was returned
-- to the source, which was outstanding, is one less
abbrev pub OwesAfter : List Range → Note → List Range → Type 0
OwesAfter owed (alloc n None) now = now ≡ owed
OwesAfter owed (alloc n (Some r)) now = now ≡ r ∷ owed
OwesAfter owed (grow r n None) now = now ≡ owed
OwesAfter owed (grow r n (Some len)) now = (before : List Range) × (after : List Range) × (owed ≡ before ++ r ∷ after) × (now ≡ before ++ with_len r len ∷ after)
OwesAfter owed (dealloc r) now = (before : List Range) × (after : List Range) × (owed ≡ before ++ r ∷ after) × (now ≡ before ++ after)

-- and after some, one by one
abbrev pub OwesAfterAll : List Range → List Note → List Range → Type 0
OwesAfterAll owed [] now = now ≡ owed
OwesAfterAll owed (n ∷ ns) now = (meanwhile : List Range) × OwesAfter owed n meanwhile × OwesAfterAll meanwhile ns now
