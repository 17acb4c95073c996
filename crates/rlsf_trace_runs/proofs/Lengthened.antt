-- Pools of which one gets longer: where they are, and that they stay apart.
use Rattle.std.proofs.Common.{◌≡◌, ℕ, ◌+◌, ◌<◌, ◌≤◌, ◌≢◌, ◌⊎◌, List, [], ◌∷◌, length, map, slice_index_or, slice_set, cond, arith}
use Rattle.std.proofs.Common.{refl, inl, inr, sym, ◌∙◌, ap, subst}
use Rattle.std.proofs.lemmas.Bool.{cases_eq, cases_lt}
use Rattle.std.proofs.lemmas.Bool.Decides.{eqb_tells}
use Rattle.std.proofs.lemmas.List.{ext_get_or, get_or-map, get_or-set_same, get_or-set_other, get_or_default, length-map, length-set}
use Rattle.rlsf_base.specs.declared.memory.range.Range.{Range}
use Rattle.rlsf_base.specs.Range.{end_of, range_at}
use Rattle.rlsf_model.specs.Insert.{IsClear}
use Rattle.rlsf_model.specs.Lists.{IsIn}
use Rattle.rlsf_model.specs.WellFormed.{covers, coverage, itself}
use Rattle.rlsf_model.proofs.Coverage.{inside, before, behind, where_is, covers-split}
use Rattle.rlsf_trace_runs.specs.Runs.{longer_pool, longer_pool_at}
use Rattle.rlsf_trace_runs.specs.Steps.Pools.{ArePoolsApart, EndsAt}
use Rattle.rlsf_trace_runs.proofs.ApartPools.{coverage-set, ends_first, some_at}
use Rattle.rlsf_trace_runs.proofs.SamePools.{IsIn-each}
use Rattle.rlsf_trace_runs.proofs.Overlapping.{no_range, nth_range}

-- a pool that ends at the address is longer, and any other is as it was
pub is_lengthened : (addr more : ℕ) (p : Range)
    → ((end_of p ≡ addr) × (longer_pool_at addr more p ≡ longer_pool more p)) ⊎ ((end_of p ≢ addr) × (longer_pool_at addr more p ≡ p))
is_lengthened addr more p = elim (eqb_tells (end_of p) addr) [
  | inl (is_true, same) ↦ inl (same, ap (λ b. cond b (longer_pool more p) p) is_true)
  | inr (is_false, differ) ↦ inr (differ, ap (λ b. cond b (longer_pool more p) p) is_false)
]

-- each pool of the new list is one of the old ones, lengthened if it ends there
pub IsIn-longer_pool : (addr more : ℕ) (p : Range) (xs : List Range) → IsIn p (map (longer_pool_at addr more) xs)
    → (q : Range) × IsIn q xs × (p ≡ longer_pool_at addr more q)
IsIn-longer_pool addr more p [] there = absurd there
IsIn-longer_pool addr more p (x ∷ xs) (inl is) = (x, inl refl, is)
IsIn-longer_pool addr more p (x ∷ xs) (inr there) = let (q, i, is) = IsIn-longer_pool addr more p xs there in (q, inr i, is)

-- a pool that gets longer has its old addresses, and those that it takes
covers-longer_pool : (addr more : ℕ) (p : Range) (a : ℕ) → end_of p ≡ addr → covers (longer_pool more p) a ≡ covers p a + covers (range_at addr more) a
covers-longer_pool addr more p a ends =
    covers-split p.start addr (addr + more) a (omega (arith, ends)) (omega arith) (longer_pool more p) p (range_at addr more) refl (omega (arith, ends)) refl ends refl refl

covers-longer_pool_at : (addr more : ℕ) (p : Range) (a : ℕ) → covers p a ≤ covers (longer_pool_at addr more p) a
covers-longer_pool_at addr more p a = elim (is_lengthened addr more p) [
  | inl (ends, is) ↦ omega (arith, ap (λ q. covers q a) is, covers-longer_pool addr more p a ends)
  | inr (_, is) ↦ omega (arith, ap (λ q. covers q a) is)
]

coverage-longer_pool-le : (addr more : ℕ) (xs : List Range) (a : ℕ) → coverage itself xs a ≤ coverage itself (map (longer_pool_at addr more) xs) a
coverage-longer_pool-le addr more [] a = omega arith
coverage-longer_pool-le addr more (x ∷ xs) a = omega (arith, covers-longer_pool_at addr more x a, coverage-longer_pool-le addr more xs a)

-- and so has a list of pools one of which gets longer
pub coverage-longer_pool : (addr more : ℕ) (p : Range) (xs : List Range) (a : ℕ) → IsIn p xs → end_of p ≡ addr
    → covers (range_at addr more) a + coverage itself xs a ≤ coverage itself (map (longer_pool_at addr more) xs) a
coverage-longer_pool addr more p [] a there ends = absurd there
coverage-longer_pool addr more p (x ∷ xs) a (inl is) ends = elim (is_lengthened addr more x) [
  | inl (same, longer) ↦ omega (arith, ap (λ q. covers q a) longer, covers-longer_pool addr more x a same, coverage-longer_pool-le addr more xs a)
  | inr (differ, _) ↦ absurd (differ (sym (ap end_of is) ∙ ends))
]
coverage-longer_pool addr more p (x ∷ xs) a (inr there) ends = omega (arith, covers-longer_pool_at addr more x a, coverage-longer_pool addr more p xs a there ends)

module _ {xs : List Range} (o : ArePoolsApart xs) where
  -- one pool alone ends where it does
  one_end : (i k addr : ℕ) → EndsAt xs i addr → k < length xs → k ≢ i → end_of (nth_range xs k) ≢ addr
  one_end i k addr (below, ends) within differ same = elim (cases_lt (nth_range xs i).start (nth_range xs k).start) [
    | inl lower ↦ absurd (omega (arith, ends_first o i k no_range (λ is. differ (sym is)) below within (omega arith), some_at o k no_range within, ends no_range))
    | inr from ↦ absurd (omega (arith, ends_first o k i no_range differ within below from, some_at o i no_range below, ends no_range))
  ]

  -- so a pool that ends where the one at a place does is that one
  pub same_end : (i addr : ℕ) → EndsAt xs i addr → (p : Range) → IsIn p xs → end_of p ≡ addr → p ≡ nth_range xs i
  same_end i addr at p there = IsIn-each (λ q. end_of q ≡ addr → q ≡ nth_range xs i) p xs (λ k d below ends. elim (cases_eq k i) [
    | inl same ↦ sym (get_or_default xs k no_range d below) ∙ ap (nth_range xs) same
    | inr other ↦ absurd (one_end i k addr at below other (ap end_of (get_or_default xs k no_range d below) ∙ ends))
  ]) there

  -- and to lengthen it is to lengthen each that ends there
  pub longer_pool-each : (i addr more : ℕ) → EndsAt xs i addr → slice_set xs i (longer_pool more (nth_range xs i)) ≡ map (longer_pool_at addr more) xs
  longer_pool-each i addr more (below, ends) = ext_get_or no_range (slice_set xs i new) (map f xs) (length-set xs i new ∙ sym (length-map xs f)) each
    where
      f : Range → Range
      f = longer_pool_at addr more

      new : Range
      new = longer_pool more (nth_range xs i)

      its_own : slice_index_or (map f xs) i no_range ≡ new
      its_own = get_or-map f xs i no_range no_range below ∙ elim (is_lengthened addr more (nth_range xs i)) [
        | inl (_, is) ↦ is
        | inr (differ, _) ↦ absurd (differ (ends no_range))
      ]

      left : (k : ℕ) → k < length xs → k ≢ i → longer_pool_at addr more (nth_range xs k) ≡ nth_range xs k
      left k within other = elim (is_lengthened addr more (nth_range xs k)) [
        | inl (same, _) ↦ absurd (one_end i k addr (below, ends) within other same)
        | inr (_, is) ↦ is
      ]

      each : (k : ℕ) → k < length (slice_set xs i new) → slice_index_or (slice_set xs i new) k no_range ≡ slice_index_or (map f xs) k no_range
      each k within =
          let long = length-set xs i new in
          let there : k < length xs = omega arith in
          elim (cases_eq k i) [
            | inl same ↦ subst (λ n. slice_index_or (slice_set xs i new) n no_range ≡ slice_index_or (map f xs) n no_range) (sym same)
                (get_or-set_same xs i new no_range below ∙ sym its_own)
            | inr other ↦ get_or-set_other xs i k new no_range other ∙ sym (get_or-map f xs k no_range no_range there ∙ left k there other)
          ]

  module _ (r : Range) (clear : IsClear r xs) (i more : ℕ) (ends : EndsAt xs i r.start) (fits : more ≤ r.len) where
    -- one that takes bytes which no other has stays apart from them
    pub AreApart-longer_pool : ArePoolsApart (map (longer_pool_at r.start more) xs)
    AreApart-longer_pool = record {
      some = λ p there.
          let (q, old, is) = IsIn-longer_pool r.start more p xs there in
          elim (is_lengthened r.start more q) [
            | inl (_, longer) ↦ subst (λ x. x.start < end_of x) (sym (is ∙ longer)) (omega (arith, o.some q old))
            | inr (_, same) ↦ subst (λ x. x.start < end_of x) (sym (is ∙ same)) (o.some q old)
          ];
      once = λ a.
          let p = nth_range xs i in
          let set = ap (λ l. coverage itself l a) (longer_pool-each i r.start more ends) in
          let replaced = coverage-set xs i (longer_pool more p) no_range a ends.0 in
          let longer = covers-longer_pool r.start more p a (ends.1 no_range) in
          elim (where_is (range_at r.start more) a) [
            | inside one from to ↦ omega (arith, set, replaced, longer, one, clear a from (omega arith))
            | before none _ ↦ omega (arith, set, replaced, longer, none, o.once a)
            | behind none _ ↦ omega (arith, set, replaced, longer, none, o.once a)
          ];
    }

-- each begins where it did
pub longer_pools-start : (addr more : ℕ) (xs : List Range) (k : ℕ) (d : Range) → k < length xs
    → (slice_index_or (map (longer_pool_at addr more) xs) k d).start ≡ (slice_index_or xs k d).start
longer_pools-start addr more xs k d below = ap (λ p. p.start) (get_or-map (longer_pool_at addr more) xs k d d below) ∙ elim (is_lengthened addr more (slice_index_or xs k d)) [
  | inl (_, is) ↦ ap (λ q. q.start) is
  | inr (_, is) ↦ ap (λ q. q.start) is
]
