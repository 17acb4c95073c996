-- Answers that a source of memory may give.
use Rattle.std.specs.Prelude.{◌≡◌, List, ◌∷◌, ◌++◌, Some, None}
use Rattle.rlsf_base.specs.declared.memory.range.Range.{Range}
use Rattle.rlsf_model.specs.Lists.{IsIn}
use Rattle.rlsf_model.specs.Note.{Note, alloc, grow, dealloc}
use Rattle.rlsf_model.specs.Terms.{Terms, IsGiven, IsGrown}

-- the answer is one that a source may give while these ranges are outstanding: none at any time; a range that is given; a length to
-- which a range has grown, wherever it is among them
abbrev pub MayAnswer : Terms → List Range → Note → Type 0
MayAnswer t owed (alloc n None) = Unit {0}
MayAnswer t owed (alloc n (Some r)) = IsGiven t owed n r
MayAnswer t owed (grow r n None) = Unit {0}
MayAnswer t owed (grow r n (Some len)) = (before after : List Range) → owed ≡ before ++ r ∷ after → IsGrown t (before ++ after) r n len
MayAnswer t owed (dealloc r) = Unit {0}

-- all answers to the questions of one call are such. Of an allocation or a reallocation no question follows an answer that isn't none, so the
-- same ranges are outstanding at each; a trim only returns ranges, which any source takes
abbrev pub MayAnswerAll : Terms → List Range → List Note → Type 0
MayAnswerAll t owed notes = (n : Note) → IsIn n notes → MayAnswer t owed n
