-- Ranges that were provided, and those of them that are outstanding.
use Rattle.std.proofs.Common.{◌≡◌, ℕ, suc, ◌+◌, ◌-◌, ◌%◌, ◌≤◌, ◌⊎◌, List, [], ◌∷◌, ◌++◌, Bool, IsTrue, Option, Some, None, MatchOption}
use Rattle.std.proofs.Common.{length, arith, refl, sym, subst, inl, inr}
use Rattle.std.specs.Bool.{MatchBool}
use Rattle.std.specs.List.{AllWithin}
use Rattle.rlsf_base.specs.declared.memory.range.Range.{Range}
use Rattle.rlsf_model_sizes.specs.PowerOfTwo.{IsPowerOfTwo}
use Rattle.rlsf_base.specs.Range.{end_of, range_at, LiesIn}
use Rattle.rlsf_model.specs.Insert.{IsClear}
use Rattle.rlsf_model.specs.Lists.{IsIn}
use Rattle.rlsf_model.specs.Terms.{IsGiven, IsGrown, with_len}
use Rattle.rlsf_model.specs.WellFormed.{covers, coverage, itself}
use Rattle.rlsf_model.proofs.Between.{IsIn-between, coverage-between}
use Rattle.rlsf_model.proofs.Coverage.{IsIn-append, IsIn-append_left, IsIn-append_right, inside, before, behind, covers-before, covers-behind, covers-split, coverage-append}
use Rattle.rlsf_model.proofs.Coverage.{where_is}
use Rattle.rlsf_trace_flex_runs.specs.declared.listed.Question.{Question}
use Rattle.rlsf_trace_flex_runs.specs.Listed.{HandsOut, Listed, ListedMayOwe}

-- one of two ranges ends where the other begins, or before
abbrev pub AreApart : Range → Range → Type 0
AreApart one other = (end_of one ≤ other.start) ⊎ (end_of other ≤ one.start)

-- a range that is apart from each of a list overlaps none of them
clear_from_each : (r : Range) (xs : List Range) → AllWithin (AreApart r) xs 0 (length xs) → IsClear r xs
clear_from_each r [] each a low high = refl
clear_from_each r (x ∷ xs) each a low high =
    let first : covers x a ≡ 0 = elim (each 0 r (omega arith) (omega arith)) [ inl next ↦ covers-before x a (omega arith) | inr next ↦ covers-behind x a (omega arith) ] in
    omega (arith, first, clear_from_each r xs (λ k d from below. each (suc k) d (omega arith) (omega arith)) a low high)

-- so is one that was found to be apart from each
pub clear_if_true : (r : Range) (xs : List Range) (Other : Type 0) (answer : Bool) → MatchBool answer (AllWithin (AreApart r) xs 0 (length xs)) Other → IsTrue answer
    → IsClear r xs
clear_if_true r xs Other answer found is_true = clear_from_each r xs (subst (λ (b : Bool). MatchBool b (AllWithin (AreApart r) xs 0 (length xs)) Other) is_true found)

coverage-one : (xs : List Range) (r : Range) (a : ℕ) → coverage itself (xs ++ r ∷ []) a ≡ coverage itself xs a + covers r a
coverage-one xs r a = omega (arith, coverage-append itself xs (r ∷ []) a)

-- an element is r or one of the others
is_other : (q r : Range) (xs ys : List Range) → IsIn q (xs ++ r ∷ ys) → (q ≡ r) ⊎ IsIn q (xs ++ ys)
is_other q r xs ys i = elim (IsIn-append q xs (r ∷ ys) i) [
  | inl l ↦ inr (IsIn-append_left q xs ys l)
  | inr (inl e) ↦ inl e
  | inr (inr h) ↦ inr (IsIn-append_right q xs ys h)
]

-- the source with one more range provided
abbrev with_taken : Listed → Range → Listed
with_taken s r = record s { taken = s.taken ++ r ∷ [] }

-- a range that was provided may be outstanding beside the others
new_range : (s t : Listed) (r : Range) → HandsOut s r t → (owed : List Range) → ListedMayOwe s owed → ListedMayOwe t (r ∷ owed)
new_range s t r out owed may = subst (λ (u : Listed). ListedMayOwe u (r ∷ owed)) (sym out.after) (record { in_space = in_space; taken = taken; disjoint = disjoint })
  where
    in_space : (q : Range) → IsIn q (r ∷ owed) → LiesIn q s.terms.space.start s.terms.space.len
    in_space q (inl e) = subst (λ (q : Range). LiesIn q s.terms.space.start s.terms.space.len) (sym e) out.vacant.lies_in
    in_space q (inr i) = may.in_space q i

    taken : (a : ℕ) → coverage itself (r ∷ owed) a ≤ coverage itself (with_taken s r).taken a
    taken a = omega (arith, may.taken a, coverage-one s.taken r a)

    disjoint : (a : ℕ) → coverage itself (r ∷ owed) a ≤ 1
    disjoint a = elim (where_is r a) [
      | inside one low high ↦ omega (arith, may.taken a, out.vacant.apart a low high)
      | before none low ↦ omega (arith, may.disjoint a)
      | behind none high ↦ omega (arith, may.disjoint a)
    ]

-- what a source remembers doesn't change what it may owe
pub remembering : (t u : Listed) (asked : List Question) → u ≡ record t { asked = asked } → (owed : List Range) → ListedMayOwe t owed → ListedMayOwe u owed
remembering t u asked same owed may = subst (λ (v : Listed). ListedMayOwe v owed) (sym same) (record { in_space = may.in_space; taken = may.taken; disjoint = may.disjoint })

-- what an answer to the question for a range leaves
pub answered : (s t u : Listed) (asked : List Question) (min_size : ℕ) (answer : Option Range)
    → MatchOption answer (t ≡ s) (λ r. HandsOut s r t × (min_size ≤ r.len) × IsPowerOfTwo s.terms.min_align × (r.start % s.terms.min_align ≡ 0))
    → u ≡ record t { asked = asked }
    → (owed : List Range) → ListedMayOwe s owed → MatchOption answer (ListedMayOwe u owed) (λ r. IsGiven s.terms owed min_size r × ListedMayOwe u (r ∷ owed))
answered s t u asked min_size None as_before same owed may = remembering t u asked same owed (subst (λ (v : Listed). ListedMayOwe v owed) (sym as_before) may)
answered s t u asked min_size (Some r) (out, long, power, aligned) same owed may = (
  record { lies_in = out.vacant.lies_in; apart = λ a low high. omega (arith, may.taken a, out.vacant.apart a low high); long = long; power = power; aligned = aligned },
  remembering t u asked same (r ∷ owed) (new_range s t r out owed may),
)

-- the bytes behind a range that grows to a length
abbrev pub behind_range : Range → ℕ → Range
behind_range r len = range_at (end_of r) (len - r.len)

-- a range and the bytes behind it that were provided are one that may be outstanding
longer_range : (s t : Listed) (r : Range) (min_new_len len : ℕ) → r.len ≤ min_new_len → min_new_len ≤ len → HandsOut s (behind_range r len) t → (xs ys : List Range)
    → ListedMayOwe s (xs ++ r ∷ ys)
    → IsGrown s.terms (xs ++ ys) r min_new_len len × ListedMayOwe t (xs ++ with_len r len ∷ ys)
longer_range s t r min_new_len len longer long out xs ys may = (
  record { lies_in = lies_in; apart = apart; long = long },
  subst (λ (u : Listed). ListedMayOwe u (xs ++ with_len r len ∷ ys)) (sym out.after) (record { in_space = in_space; taken = taken; disjoint = disjoint }),
)
  where
    new : Range
    new = behind_range r len

    old_in_space : LiesIn r s.terms.space.start s.terms.space.len
    old_in_space = may.in_space r (IsIn-append_right r xs (r ∷ ys) (inl refl))

    lies_in : LiesIn (with_len r len) s.terms.space.start s.terms.space.len
    lies_in = (old_in_space.0, omega (arith, out.vacant.lies_in.1))

    split : (a : ℕ) → covers (with_len r len) a ≡ covers r a + covers new a
    split a = covers-split r.start (end_of r) (r.start + len) a (omega arith) (omega arith) (with_len r len) r new refl refl refl refl refl (omega arith)

    apart : IsClear (with_len r len) (xs ++ ys)
    apart a low high = elim (where_is r a) [
      | inside one l h ↦ omega (arith, may.disjoint a, coverage-between r xs ys a)
      | before none l ↦ absurd (omega arith)
      | behind none h ↦ omega (arith, may.taken a, coverage-between r xs ys a, out.vacant.apart a h (omega arith))
    ]

    in_space : (q : Range) → IsIn q (xs ++ with_len r len ∷ ys) → LiesIn q s.terms.space.start s.terms.space.len
    in_space q i = elim (is_other q (with_len r len) xs ys i) [
      | inl e ↦ subst (λ (q : Range). LiesIn q s.terms.space.start s.terms.space.len) (sym e) lies_in
      | inr h ↦ may.in_space q (IsIn-between q r xs ys h)
    ]

    taken : (a : ℕ) → coverage itself (xs ++ with_len r len ∷ ys) a ≤ coverage itself (with_taken s new).taken a
    taken a = omega (arith, may.taken a, coverage-one s.taken new a, coverage-between (with_len r len) xs ys a, coverage-between r xs ys a, split a)

    disjoint : (a : ℕ) → coverage itself (xs ++ with_len r len ∷ ys) a ≤ 1
    disjoint a = elim (where_is (with_len r len) a) [
      | inside one low high ↦ omega (arith, coverage-between (with_len r len) xs ys a, apart a low high)
      | before none low ↦ omega (arith, coverage-between (with_len r len) xs ys a, coverage-between r xs ys a, may.disjoint a)
      | behind none high ↦ omega (arith, coverage-between (with_len r len) xs ys a, coverage-between r xs ys a, may.disjoint a)
    ]

-- what an answer to the question for growth leaves
pub answered_growth : (s t u : Listed) (asked : List Question) (r : Range) (min_new_len : ℕ) (answer : Option ℕ) → r.len ≤ min_new_len
    → MatchOption answer (t ≡ s) (λ len. HandsOut s (behind_range r len) t × (min_new_len ≤ len)) → u ≡ record t { asked = asked }
    → (xs ys : List Range) → ListedMayOwe s (xs ++ r ∷ ys)
    → MatchOption answer (ListedMayOwe u (xs ++ r ∷ ys)) (λ len. IsGrown s.terms (xs ++ ys) r min_new_len len × ListedMayOwe u (xs ++ with_len r len ∷ ys))
answered_growth s t u asked r min_new_len None longer as_before same xs ys may =
    remembering t u asked same (xs ++ r ∷ ys) (subst (λ (v : Listed). ListedMayOwe v (xs ++ r ∷ ys)) (sym as_before) may)
answered_growth s t u asked r min_new_len (Some len) longer (out, long) same xs ys may =
    let (grown, owes) = longer_range s t r min_new_len len longer long out xs ys may in
    (grown, remembering t u asked same (xs ++ with_len r len ∷ ys) owes)

-- a range returns to the source
pub gone_range : (s : Listed) (r : Range) (xs ys : List Range) → ListedMayOwe s (xs ++ r ∷ ys) → ListedMayOwe s (xs ++ ys)
gone_range s r xs ys may = record {
  in_space = λ q i. may.in_space q (IsIn-between q r xs ys i);
  taken = λ a. omega (arith, may.taken a, coverage-between r xs ys a);
  disjoint = λ a. omega (arith, may.disjoint a, coverage-between r xs ys a);
}
