-- Pools each of which has an address, and no two of which have the same.
use Rattle.std.proofs.Common.{◌≡◌, ◌≢◌, ℕ, zero, suc, ◌+◌, ◌<◌, ◌≤◌, List, [], ◌∷◌, length, slice_index_or, slice_set, Bool, IsTrue, false, true≢false, ◌↔◌}
use Rattle.std.proofs.Common.{arith, sym, ◌∙◌, ap, subst, inl, inr, Some, None}
use Rattle.std.proofs.lemmas.Bool.{cases_eq, cases_lt}
use Rattle.std.proofs.lemmas.List.{get_or_default}
use Rattle.std.proofs.lemmas.List.Sorted.{IsPermutation-sym}
use Rattle.std.specs.Prelude.{IsPermutation}
use Rattle.rlsf_base.specs.declared.memory.range.Range.{Range}
use Rattle.rlsf_base.specs.Range.{end_of}
use Rattle.rlsf_model.specs.Insert.{IsClear}
use Rattle.rlsf_model.specs.Lists.{IsIn}
use Rattle.rlsf_model.specs.WellFormed.{covers, coverage, itself}
use Rattle.rlsf_model.proofs.Coverage.{inside, before, behind, by_test, where_is, covers-before, covers-behind, covers-inside, coverage-IsIn}
use Rattle.rlsf_trace_runs.specs.Steps.Pools.{ArePoolsApart, AreInAddressOrder, IsLastBegun}
use Rattle.rlsf_trace_runs.proofs.Overlapping.{coverage-apart, IsApart, IsIn-at, no_range, nth_range}
use Rattle.rlsf_trace_runs.proofs.SamePools.{coverage-permutation, IsIn-each, IsIn-permutation}

-- if two of a list have an address, the list has it twice
coverage-two : (xs : List Range) (i j : ℕ) (d : Range) (a : ℕ) → i < j → j < length xs
    → covers (slice_index_or xs i d) a + covers (slice_index_or xs j d) a ≤ coverage itself xs a
coverage-two [] i j d a lower below = absurd (omega arith)
coverage-two (x ∷ xs) i zero d a lower below = absurd (omega arith)
coverage-two (x ∷ xs) zero (suc j) d a lower below = omega (arith, coverage-IsIn itself (slice_index_or xs j d) xs a (IsIn-at xs j d (omega arith)))
coverage-two (x ∷ xs) (suc i) (suc j) d a lower below = omega (arith, coverage-two xs i j d a (omega arith) (omega arith))

-- a list in which one is replaced
pub coverage-set : (xs : List Range) (i : ℕ) (y d : Range) (a : ℕ) → i < length xs
    → coverage itself (slice_set xs i y) a + covers (slice_index_or xs i d) a ≡ coverage itself xs a + covers y a
coverage-set [] i y d a below = absurd (omega arith)
coverage-set (x ∷ xs) zero y d a below = omega arith
coverage-set (x ∷ xs) (suc i) y d a below = omega (arith, coverage-set xs i y d a (omega arith))

-- in another order
pub ArePoolsApart-permutation : {xs ys : List Range} → ArePoolsApart xs → IsPermutation xs ys → ArePoolsApart ys
ArePoolsApart-permutation {xs} {ys} o same = record {
  some = λ p there. o.some p (IsIn-permutation p ys xs (IsPermutation-sym xs ys same) there);
  once = λ a. omega (arith, coverage-permutation xs ys a same, o.once a);
}

-- with one more
pub ArePoolsApart-more : {xs : List Range} → ArePoolsApart xs → (pool : Range) → pool.start < end_of pool → IsClear pool xs → ArePoolsApart (pool ∷ xs)
ArePoolsApart-more {xs} o pool some clear = record {
  some = λ p. elim [ inl is ↦ subst (λ q. q.start < end_of q) (sym is) some | inr there ↦ o.some p there ];
  once = λ a. elim (where_is pool a) [
    | inside one from to ↦ omega (arith, clear a from to)
    | before none _ ↦ omega (arith, o.once a)
    | behind none _ ↦ omega (arith, o.once a)
  ];
}

module _ {xs : List Range} (o : ArePoolsApart xs) where
  pub some_at : (k : ℕ) (d : Range) → k < length xs → (slice_index_or xs k d).start < end_of (slice_index_or xs k d)
  some_at k d below = o.some (slice_index_or xs k d) (IsIn-at xs k d below)

  never_both : (i j : ℕ) (d : Range) (a : ℕ) → i < j → j < length xs → covers (slice_index_or xs i d) a ≡ 1 → covers (slice_index_or xs j d) a ≡ 1 → ⊥
  never_both i j d a lower below one other = omega (arith, coverage-two xs i j d a lower below, o.once a)

  -- of two pools the one that begins first ends before the other begins
  pub ends_first : (i j : ℕ) (d : Range) → i ≢ j → i < length xs → j < length xs → (slice_index_or xs i d).start ≤ (slice_index_or xs j d).start
      → end_of (slice_index_or xs i d) ≤ (slice_index_or xs j d).start
  ends_first i j d differ i_below j_below order =
      let p = slice_index_or xs i d in
      let q = slice_index_or xs j d in
      elim (cases_lt q.start (end_of p)) [
        | inr past ↦ past
        | inl under ↦
            let in_p = covers-inside p q.start order under in
            let in_q = covers-inside q q.start (omega arith) (some_at j d j_below) in
            elim (cases_lt i j) [
              | inl lower ↦ absurd (never_both i j d q.start lower j_below in_p in_q)
              | inr from ↦ elim (cases_lt j i) [
                | inl upper ↦ absurd (never_both j i d q.start upper i_below in_q in_p)
                | inr to ↦ absurd (differ (omega arith))
              ]
            ]
      ]

  -- in the order of their starts they are in order
  pub IsInOrder-ascending : ((i j : ℕ) (d : Range) → i < j → j < length xs → (slice_index_or xs i d).start ≤ (slice_index_or xs j d).start) → AreInAddressOrder xs
  IsInOrder-ascending ascending = record {
    some = some_at;
    apart = λ i j d lower below. ends_first i j d (λ same. absurd (omega (arith, same))) (omega arith) below (ascending i j d lower below);
  }

  module _ (addr place : ℕ) (last : IsLastBegun xs (length xs) addr (Some place)) where
    -- the other pools that begin before an address end before the last one of them begins
    earlier : (k : ℕ) (d : Range) → k < length xs → k ≢ place → (slice_index_or xs k d).start < addr → end_of (slice_index_or xs k d) ≤ (slice_index_or xs place d).start
    earlier k d below other begun = ends_first k place d other below last.0 (last.2 k d below begun)

    -- so none ends there if that one doesn't
    pub none_ends : end_of (nth_range xs place) ≢ addr → (p : Range) → IsIn p xs → end_of p ≢ addr
    none_ends differ p there = IsIn-each (λ q. end_of q ≢ addr) p xs (λ k d below same. elim (cases_eq k place) [
      | inl is ↦ differ (ap (λ n. end_of (nth_range xs n)) (sym is) ∙ ap end_of (get_or_default xs k no_range d below) ∙ same)
      | inr other ↦ absurd (omega (arith, same, some_at k d below, earlier k d below other (omega (arith, same, some_at k d below)), last.1 d))
    ]) there

  -- a range overlaps none if it doesn't overlap the last one that begins before its end
  pub clear_of_last : (r : Range) (place : ℕ) → IsLastBegun xs (length xs) (end_of r) (Some place) → IsApart r (nth_range xs place) → IsClear r xs
  clear_of_last r place last apart = coverage-apart r xs each
    where
      p : Range
      p = nth_range xs place

      each : (k : ℕ) → k < length xs → IsApart r (nth_range xs k)
      each k below b from to = elim (cases_eq k place) [
        | inl same ↦ subst (λ n. covers (nth_range xs n) b ≡ 0) (sym same) (apart b from to)
        | inr other ↦ elim (cases_lt (nth_range xs k).start (end_of r)) [
          | inr past ↦ covers-before (nth_range xs k) b (omega (arith, to, past))
          | inl begun ↦
              let ends = earlier (end_of r) place last k no_range below other begun in
              elim (cases_lt b (end_of (nth_range xs k))) [
                | inr past ↦ covers-behind (nth_range xs k) b past
                | inl under ↦ absurd (omega (
                  arith,
                  apart p.start (omega (arith, from, under, ends)) (last.1 no_range),
                  covers-inside p p.start (omega arith) (some_at place no_range last.0),
                ))
              ]
        ]
      ]

  -- so that one is asked
  pub overlaps_last : (r : Range) (place : ℕ) → IsLastBegun xs (length xs) (end_of r) (Some place) → (p : Range) → p ≡ nth_range xs place → (overlaps : Bool)
      → (IsTrue overlaps ↔ ((a : ℕ) × ((r.start ≤ a) × (a < end_of r)) × ((p.start ≤ a) × (a < end_of p))))
      → IsTrue overlaps ↔ ((a : ℕ) × ((r.start ≤ a) × (a < end_of r)) × (0 < coverage itself xs a))
  overlaps_last r place last p is overlaps (if_so, if_not) = (
    λ yes. (let (a, in_range, (low, high)) = if_so yes in (a, in_range, omega (arith, covers-inside p a low high, coverage-IsIn itself p xs a there))),
    λ (a, in_range, covered). by_test overlaps (λ yes. yes) (λ is_false. absurd (omega (arith, covered, clear_of_last r place last (separate is_false) a in_range.0 in_range.1))),
  )
    where
      there : IsIn p xs
      there = subst (λ q. IsIn q xs) (sym is) (IsIn-at xs place no_range last.0)

      separate : overlaps ≡ false → IsApart r (nth_range xs place)
      separate is_false = subst (IsApart r) is (λ a low high. elim (where_is p a) [
        | inside _ from to ↦ absurd (true≢false (sym (if_not (a, (low, high), (from, to))) ∙ is_false))
        | before none _ ↦ none
        | behind none _ ↦ none
      ])

  -- a range overlaps none if none begins before its end
  pub clear_of_none : (r : Range) → IsLastBegun xs (length xs) (end_of r) None → IsClear r xs
  clear_of_none r none = coverage-apart r xs (λ k below b from to. covers-before (nth_range xs k) b (omega (arith, to, none k no_range below)))

  -- and none ends at an address before which none begins
  pub none_ends_unbegun : (addr : ℕ) → IsLastBegun xs (length xs) addr None → (p : Range) → IsIn p xs → end_of p ≢ addr
  none_ends_unbegun addr none p there = IsIn-each (λ q. end_of q ≢ addr) p xs (λ k d below same. absurd (omega (arith, same, some_at k d below, none k d below))) there
