-- Ranges that have an address in common, and lists of them.
use Rattle.std.proofs.Common.{◌≡◌, ℕ, zero, suc, ◌<◌, ◌≤◌, List, [], ◌∷◌, length, slice_index_or, arith, refl, inl, inr}
use Rattle.rlsf_base.specs.declared.memory.range.Range.{Range}
use Rattle.rlsf_base.specs.Range.{end_of}
use Rattle.rlsf_model.specs.Insert.{IsClear}
use Rattle.rlsf_model.specs.Lists.{IsIn}
use Rattle.rlsf_model.specs.WellFormed.{covers}

-- a range of no bytes
abbrev pub no_range : Range
no_range = record { start = 0; len = 0 }

-- the range at a place of a list, or an empty one
abbrev pub nth_range : List Range → ℕ → Range
nth_range xs i = slice_index_or xs i no_range

-- no address of the first range is one of the second
abbrev pub IsApart : Range → Range → Type 0
IsApart one other = (a : ℕ) → one.start ≤ a → a < end_of one → covers other a ≡ 0

-- a range at a place below the length is in the list
pub IsIn-at : (xs : List Range) (i : ℕ) (d : Range) → i < length xs → IsIn (slice_index_or xs i d) xs
IsIn-at [] i d below = absurd (omega arith)
IsIn-at (x ∷ xs) zero d below = inl refl
IsIn-at (x ∷ xs) (suc i) d below = inr (IsIn-at xs i d (omega arith))

-- a range that is apart from each of a list has no address in common with them
pub coverage-apart : (r : Range) (xs : List Range) → ((i : ℕ) → i < length xs → IsApart r (nth_range xs i)) → IsClear r xs
coverage-apart r [] apart a low high = refl
coverage-apart r (x ∷ xs) apart a low high = omega (arith, apart 0 (omega arith) a low high, coverage-apart r xs (λ i below. apart (suc i) (omega arith)) a low high)
