-- The bytes of the memory that lie in no range of the source: the allocator leaves them alone.
use Rattle.std.specs.Prelude.{◌≡◌, ℕ, ◌+◌, ◌<◌, ◌≤◌, List, [], ◌∷◌, ◌++◌, Some, None, length}
use Rattle.rlsf_base.specs.declared.memory.range.Range.{Range}
use Rattle.rlsf_base.specs.Space.{Space, byte_at, SamePlace}
use Rattle.rlsf_model.specs.Lists.{IsIn}
use Rattle.rlsf_model.specs.Note.{Note, alloc, dealloc, grow}
use Rattle.rlsf_model.specs.Terms.{with_len}
use Rattle.rlsf_model.specs.WellFormed.{coverage, itself}

-- the address lies in none of the ranges
abbrev pub IsOutside : List Range → ℕ → Type 0
IsOutside pools a = coverage itself pools a ≡ 0

-- the range that an answer provided or made longer, if any
abbrev pub handed_by : Note → List Range
handed_by (alloc n None) = []
handed_by (alloc n (Some r)) = r ∷ []
handed_by (grow r n None) = []
handed_by (grow r n (Some len)) = with_len r len ∷ []
handed_by (dealloc r) = []

-- those of some answers
abbrev pub handed : List Note → List Range
handed [] = []
handed (n ∷ ns) = handed_by n ++ handed ns

-- the ranges that were outstanding before some answers, and those that the answers provided or made longer
abbrev pub ever_owed : List Range → List Note → List Range
ever_owed before notes = before ++ handed notes

-- no range was returned to the source
abbrev pub NothingGoesBack : List Note → Type 0
NothingGoesBack notes = (r : Range) → IsIn (dealloc r) notes → ⊥

-- The memory is where it was. The ranges that are outstanding after the answers are among those that ever were, and where nothing
-- was returned to the source they have all addresses of these. Each byte of the memory that lies in none of these is as it was.
pub record KeepsOutside (m : Space) (before : List Range) (notes : List Note) (n : Space) (after : List Range) : Type 0 where
  pub place : SamePlace m n
  pub among : (a : ℕ) → IsOutside (ever_owed before notes) a → IsOutside after a
  pub all_owed : NothingGoesBack notes → (a : ℕ) → IsOutside after a → IsOutside (ever_owed before notes) a
  pub bytes : (a : ℕ) → m.start ≤ a → a < m.start + length m.bytes → IsOutside (ever_owed before notes) a → byte_at n a ≡ byte_at m a
