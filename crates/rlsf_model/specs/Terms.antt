-- The terms that a source of memory keeps.
use Rattle.std.specs.Prelude.{◌≡◌, ℕ, ◌%◌, ◌≤◌, Bool, List, ◌∷◌, ◌++◌, Option, MatchOption}
use Rattle.rlsf_base.specs.declared.memory.range.Range.{Range}
use Rattle.rlsf_model_sizes.specs.PowerOfTwo.{IsPowerOfTwo}
use Rattle.rlsf_base.specs.Range.{range_at, LiesIn}
use Rattle.rlsf_model.specs.Insert.{IsClear}

-- The terms of a source: the range in which it provides memory, whether it takes memory back, and whether it grows what it provided.
-- Also whether it is asked for no other range while one is kept, and a number of which the starts of its ranges are multiples
pub record Terms : Type 0 where
  pub space : Range
  pub dealloc : Bool
  pub grow : Bool
  pub contiguous : Bool
  pub min_align : ℕ

-- the range, made so long
abbrev pub with_len : Range → ℕ → Range
with_len r len = range_at r.start len

-- a range that answers the question for so many bytes, while these ranges are outstanding
pub record IsGiven (t : Terms) (owed : List Range) (min_size : ℕ) (r : Range) : Type 0 where
  pub lies_in : LiesIn r t.space.start t.space.len
  pub apart : IsClear r owed
  pub long : min_size ≤ r.len
  pub power : IsPowerOfTwo t.min_align
  pub aligned : r.start % t.min_align ≡ 0

-- a length that answers the question for growth of a range, while these others are outstanding
pub record IsGrown (t : Terms) (others : List Range) (r : Range) (min_new_len len : ℕ) : Type 0 where
  pub lies_in : LiesIn (with_len r len) t.space.start t.space.len
  pub apart : IsClear (with_len r len) others
  pub long : min_new_len ≤ len

-- What is owed after a question for growth: the same ranges if none came; otherwise the range has the length that came, which is a
-- possible answer under these terms
abbrev pub OwesGrown : Terms → (List Range → Type 0) → List Range → Range → List Range → ℕ → Option ℕ → Type 0
OwesGrown terms owes before range after min_len reply =
    MatchOption reply (owes (before ++ range ∷ after)) (λ len. IsGrown terms (before ++ after) range min_len len × owes (before ++ with_len range len ∷ after))
