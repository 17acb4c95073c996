-- Questions to a source of memory, with their answers.
use Rattle.std.specs.Prelude.{◌≡◌, ℕ, List, [], ◌∷◌, Option}
use Rattle.rlsf_base.specs.declared.memory.range.Range.{Range}

-- a range of at least so many bytes is requested; a range is to be at least so long; or a range is returned to the source
pub data Note : Type 0 where
  alloc : ℕ → Option Range → Note
  grow : Range → ℕ → Option ℕ → Note
  dealloc : Range → Note

-- the notes, one by one and no others, lead from one value of a source to another
abbrev pub LeadsBy : {S : Type 0} → (S → Note → S → Type 0) → S → List Note → S → Type 0
LeadsBy leads x [] y = y ≡ x
LeadsBy {S} leads x (n ∷ ns) y = (z : S) × leads x n z × LeadsBy leads z ns y

-- two questions are the same, whatever their answers
abbrev pub IsSameQuestion : Note → Note → Type 0
IsSameQuestion (alloc n a) (alloc m b) = n ≡ m
IsSameQuestion (grow r n a) (grow q m b) = (r ≡ q) × (n ≡ m)
IsSameQuestion (dealloc r) (dealloc q) = r ≡ q
IsSameQuestion x y = ⊥

-- one after another, the same questions have the same answers, up to where the questions differ
abbrev pub AnswersAgree : List Note → List Note → Type 0
AnswersAgree [] ns = Unit {0}
AnswersAgree (m ∷ ms) [] = Unit {0}
AnswersAgree (m ∷ ms) (n ∷ ns) = (IsSameQuestion m n → m ≡ n) × (m ≡ n → AnswersAgree ms ns)
