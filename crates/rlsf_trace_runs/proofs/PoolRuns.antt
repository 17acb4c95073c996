-- Pools in runs: the last one that begins before an address, and a pool that is added.
use Rattle.std.proofs.Common.{◌≡◌, ℕ, ◌+◌, ◌-◌, ◌<◌, ◌≤◌, ◌⊎◌, List, [], ◌∷◌, ◌++◌, length, slice_index_or, take, drop, Option, Some, None}
use Rattle.std.proofs.Common.{arith, refl, sym, ◌∙◌, ap, subst, inl, inr}
use Rattle.std.proofs.lemmas.Bool.{cases_lt}
use Rattle.std.proofs.lemmas.List.{append-nil, drop_all, get_or-append_right, get_or_append_left, get_or_default, get_or-take, get_or_push, length-append, length-drop, length-take-le, take-append-drop, take_at, take_rest}
use Rattle.std.proofs.lemmas.List.Sorted.{IsPermutation-append_right, length_permutation}
use Rattle.std.proofs.lemmas.List.Edits.{get_or-between, length-between}
use Rattle.std.specs.List.{between}
use Rattle.std.specs.List.Sorted.{IsNonDecreasingBy, IsPartitionPoint}
use Rattle.std.specs.Prelude.{IsPermutation}
use borrow.Rule.Slice.PartMut.{mid_of, post_of, put_mid}
use Rattle.rlsf_base.specs.declared.memory.range.Range.{Range}
use Rattle.rlsf_trace_runs.specs.Steps.Pools.{AreInRuns, BeginsRun, IsLastBegun, IsOneRun}
use Rattle.rlsf_trace_runs.proofs.Overlapping.{no_range, nth_range}

-- no pools
pub AreInRuns-none : {firsts : List ℕ} → firsts ≡ [] → AreInRuns [] firsts
AreInRuns-none no_firsts = record {
  ascending = λ k m d order below. absurd (omega (arith, ap length no_firsts));
  within = λ k d below. absurd (omega (arith, ap length no_firsts));
  in_order = λ i j d lower below same. absurd (omega arith);
}

-- as many pools with the same starts
pub AreInRuns-starts : {xs ys : List Range} {firsts : List ℕ} → AreInRuns xs firsts → length ys ≡ length xs
    → ((k : ℕ) (d : Range) → k < length xs → (slice_index_or ys k d).start ≡ (slice_index_or xs k d).start) → AreInRuns ys firsts
AreInRuns-starts o long starts = record {
  ascending = o.ascending;
  within = λ k d below. omega (arith, o.within k d below, long);
  in_order = λ i j d lower below same.
      omega (arith, starts i d (omega (arith, long)), starts j d (omega (arith, long)), o.in_order i j d lower (omega (arith, long)) same);
}

-- one pool more, in a run that begins at a place, where the pools are in order from there on
pub AreInRuns-more : {xs ys : List Range} {firsts new : List ℕ} {first : ℕ} → AreInRuns xs firsts → BeginsRun firsts new (length xs) first
    → length ys ≡ length xs + 1
    → ((k : ℕ) (d : Range) → k < first → slice_index_or ys k d ≡ slice_index_or xs k d)
    → ((i j : ℕ) (d : Range) → first ≤ i → i < j → j < length ys → (slice_index_or ys i d).start ≤ (slice_index_or ys j d).start)
    → AreInRuns ys new
AreInRuns-more {xs} {ys} {firsts} {new} {first} o b long before ascending = record {
  ascending = b.ascending;
  within = λ k d below. omega (arith, b.last k d below, b.within, long);
  in_order = in_order;
}
  where
    former : (i j : ℕ) → j < first → IsOneRun new i j → IsOneRun firsts i j
    former i j lower same k d below = elim (b.left k below) [
      | inl later ↦ inr (omega (arith, later d))
      | inr (m, m_below, is) ↦ subst (λ n. (n ≤ i) ⊎ (j < n)) (is d) (same m d m_below)
    ]

    never : (i j : ℕ) → i < first → first ≤ j → IsOneRun new i j → ⊥
    never i j lower upper same = elim b.begins [
      | inl is ↦ omega (arith, is)
      | inr (k, below, is) ↦ elim (same k 0 below) [ inl low ↦ omega (arith, low, is 0) | inr high ↦ omega (arith, high, is 0) ]
    ]

    in_order : (i j : ℕ) (d : Range) → i < j → j < length ys → IsOneRun new i j → (slice_index_or ys i d).start ≤ (slice_index_or ys j d).start
    in_order i j d lower below same = elim (cases_lt j first) [
      | inl under ↦ omega (
        arith,
        ap (λ p. p.start) (before i d (omega arith)),
        ap (λ p. p.start) (before j d under),
        o.in_order i j d lower (omega (arith, b.within)) (former i j under same),
      )
      | inr upper ↦ elim (cases_lt i first) [
        | inl earlier ↦ absurd (never i j earlier upper same)
        | inr from ↦ ascending i j d from lower below
      ]
    ]

module _ {xs : List Range} {firsts : List ℕ} (o : AreInRuns xs firsts) (first index : ℕ) (before : (k d : ℕ) → k < index → slice_index_or firsts k d ≤ first) where
  -- the pools from a place on, behind the beginnings of the first runs, up to the beginning of the next one
  pub run_ascends : index < length firsts → (i j : ℕ) (d : Range) → first ≤ i → i < j → j < slice_index_or firsts index 0
      → (slice_index_or xs i d).start ≤ (slice_index_or xs j d).start
  run_ascends there i j d from lower below = o.in_order i j d lower (omega (arith, o.within index 0 there)) (λ k e k_below. elim (cases_lt k index) [
    | inl low ↦ inl (omega (arith, before k e low))
    | inr up ↦ inr (omega (arith, o.ascending index k e up k_below, get_or_default firsts index 0 e there))
  ])

  -- and up to the end
  pub last_run_ascends : length firsts ≤ index → (i j : ℕ) (d : Range) → first ≤ i → i < j → j < length xs → (slice_index_or xs i d).start ≤ (slice_index_or xs j d).start
  last_run_ascends all i j d from lower below = o.in_order i j d lower below (λ k e k_below. inl (omega (arith, before k e (omega arith))))

  -- the beginning of the next one is behind those of the first ones and itself, and before those of the others
  pub behind_next : index < length firsts → (k d : ℕ) → k < index + 1 → slice_index_or firsts k d ≤ slice_index_or firsts index 0
  behind_next there k d below = omega (arith, o.ascending k index d (omega arith) there, get_or_default firsts index 0 d there)

  pub before_later : index < length firsts → (k d : ℕ) → index + 1 ≤ k → k < length firsts → slice_index_or firsts index 0 ≤ slice_index_or firsts k d
  before_later there k d from below = omega (arith, o.ascending index k d (omega arith) below, get_or_default firsts index 0 d there)

module _ (xs : List Range) {first end addr begun : ℕ} (bounds : (first ≤ end) × (end ≤ length xs)) (bound : begun ≤ length (between first end xs))
    (point : IsPartitionPoint (λ p. p.start < addr) (λ p. addr ≤ p.start) (between first end xs) begun) where
  -- the first pools of a run begin before the address, and the others don't
  early : (k : ℕ) (d : Range) → first ≤ k → k < first + begun → (slice_index_or xs k d).start < addr
  early k d from below =
      let n = k - first in
      let long = length-between xs first end bounds.1 in
      let is : first + n ≡ k = omega arith in
      subst (λ m. (slice_index_or xs m d).start < addr) is (omega (
        arith,
        ap (λ p. p.start) (get_or-between xs first end n d (omega (arith, long))),
        point.0 n d (omega (arith, long)) (omega arith),
      ))

  late : (k : ℕ) (d : Range) → first + begun ≤ k → k < end → addr ≤ (slice_index_or xs k d).start
  late k d from below =
      let n = k - first in
      let long = length-between xs first end bounds.1 in
      let is : first + n ≡ k = omega arith in
      subst (λ m. addr ≤ (slice_index_or xs m d).start) is (omega (
        arith,
        ap (λ p. p.start) (get_or-between xs first end n d (omega (arith, bounds))),
        point.1 n d (omega arith) (omega (arith, long)),
      ))

  -- if no pool of a run begins before the address, the one that was found before the run is the last one
  pub still_last : begun ≡ 0 → (found : Option ℕ) → IsLastBegun xs first addr found → IsLastBegun xs end addr found
  still_last none_begun None none = λ k d below. elim (cases_lt k first) [ inl lower ↦ none k d lower | inr from ↦ late k d (omega (arith, none_begun)) below ]
  still_last none_begun (Some place) (inside, begins, latest) = (
    omega (arith, bounds),
    begins,
    λ k d below soon. elim (cases_lt k first) [ inl lower ↦ latest k d lower soon | inr from ↦ absurd (omega (arith, soon, late k d (omega (arith, none_begun)) below)) ],
  )

  module _ (last : ℕ) (is_last : last + 1 ≡ first + begun) (some : 0 < begun)
      (ascending : (i j : ℕ) (d : Range) → first ≤ i → i < j → j < end → (slice_index_or xs i d).start ≤ (slice_index_or xs j d).start) where
    its_bound : last < end
    its_bound = omega (arith, length-between xs first end bounds.1, bounds)

    greatest : (k : ℕ) (d : Range) → first ≤ k → k < end → (slice_index_or xs k d).start < addr → (slice_index_or xs k d).start ≤ (slice_index_or xs last d).start
    greatest k d from below soon = elim (cases_lt k last) [
      | inl lower ↦ ascending k last d from lower its_bound
      | inr upper ↦ elim (cases_lt last k) [
        | inl past ↦ absurd (omega (arith, soon, late k d (omega arith) below))
        | inr to ↦ let same : k ≡ last = omega arith in omega (arith, ap (λ n. (slice_index_or xs n d).start) same)
      ]
    ]

    at_last : (d : Range) → slice_index_or xs last no_range ≡ slice_index_or xs last d
    at_last d = get_or_default xs last no_range d (omega (arith, its_bound, bounds))

    -- if the one that was found before the run begins later than the last one of the run, it is the last one
    pub found_last : (place : ℕ) → IsLastBegun xs first addr (Some place) → (nth_range xs last).start < (nth_range xs place).start → IsLastBegun xs end addr (Some place)
    found_last place (inside, begins, latest) later = (
      omega (arith, bounds),
      begins,
      λ k d below soon. elim (cases_lt k first) [
        | inl lower ↦ latest k d lower soon
        | inr past ↦ omega (
          arith,
          greatest k d past below soon,
          later,
          ap (λ p. p.start) (at_last d),
          ap (λ p. p.start) (get_or_default xs place no_range d (omega (arith, inside, bounds))),
        )
      ],
    )

    -- if it begins no later, or if none was found, the last one of the run is the last one
    pub run_last : (place : ℕ) → IsLastBegun xs first addr (Some place) → (nth_range xs place).start ≤ (nth_range xs last).start → IsLastBegun xs end addr (Some last)
    run_last place (inside, _, latest) later = (
      its_bound,
      λ d. early last d (omega arith) (omega arith),
      λ k d below soon. elim (cases_lt k first) [
        | inl lower ↦ omega (
          arith,
          latest k d lower soon,
          later,
          ap (λ p. p.start) (at_last d),
          ap (λ p. p.start) (get_or_default xs place no_range d (omega (arith, inside, bounds))),
        )
        | inr past ↦ greatest k d past below soon
      ],
    )

    pub first_last : IsLastBegun xs first addr None → IsLastBegun xs end addr (Some last)
    first_last none = (
      its_bound,
      λ d. early last d (omega arith) (omega arith),
      λ k d below soon. elim (cases_lt k first) [
        | inl lower ↦ absurd (omega (arith, none k d lower, soon))
        | inr past ↦ greatest k d past below soon
      ],
    )

-- a run of its own for the next pool
pub BeginsRun-pushed : (old : List ℕ) (len : ℕ) → ((k m d : ℕ) → k ≤ m → m < length old → slice_index_or old k d ≤ slice_index_or old m d)
    → ((k d : ℕ) → k < length old → slice_index_or old k d ≤ len) → BeginsRun old (old ++ len ∷ []) len len
BeginsRun-pushed old len ascending within = record {
  ascending = λ k m d order below. elim (cases_lt m (length old)) [
    | inl lower ↦ omega (arith, get_or_append_left old (len ∷ []) d k (omega arith), get_or_append_left old (len ∷ []) d m lower, ascending k m d order lower)
    | inr from ↦ omega (arith, at_most k d (omega (arith, length-append old (len ∷ []))), last m d (omega (arith, length-append old (len ∷ []))))
  ];
  within = omega arith;
  last = λ k d below. at_most k d (omega (arith, length-append old (len ∷ [])));
  begins = inr (length old, omega (arith, length-append old (len ∷ [])), λ d. last (length old) d refl);
  left = λ k below. inr (k, omega (arith, length-append old (len ∷ [])), λ d. get_or_append_left old (len ∷ []) d k below);
}
  where
    last : (k d : ℕ) → k ≡ length old → slice_index_or (old ++ len ∷ []) k d ≡ len
    last k d is = get_or_push old len d k (sym is)

    at_most : (k d : ℕ) → k < length old + 1 → slice_index_or (old ++ len ∷ []) k d ≤ len
    at_most k d below = elim (cases_lt k (length old)) [
      | inl lower ↦ omega (arith, get_or_append_left old (len ∷ []) d k lower, within k d lower)
      | inr from ↦ omega (arith, last k d (omega arith))
    ]

-- the last run is one with the run before it
pub BeginsRun-popped : (old new : List ℕ) (len first : ℕ) → ((k m d : ℕ) → k ≤ m → m < length old → slice_index_or old k d ≤ slice_index_or old m d)
    → ((k d : ℕ) → k < length old → slice_index_or old k d ≤ len) → new ≡ take (length old - 1) old
    → ((length new ≡ 0) × (first ≡ 0)) ⊎ ((0 < length new) × ((d : ℕ) → first ≡ slice_index_or new (length new - 1) d)) → BeginsRun old new len first
BeginsRun-popped old new len first ascending within is begins = record {
  ascending = λ k m d order below. omega (arith, kept k d (omega arith), kept m d below, ascending k m d order (omega (arith, long)));
  within = elim begins [
    | inl (_, none) ↦ omega (arith, none)
    | inr (some, last) ↦ omega (arith, last 0, kept (length new - 1) 0 (omega arith), within (length new - 1) 0 (omega (arith, long)))
  ];
  last = λ k d below. elim begins [
    | inl (none, _) ↦ absurd (omega (arith, none))
    | inr (some, last) ↦ omega (arith, last d, kept k d below, kept (length new - 1) d (omega arith), ascending k (length new - 1) d (omega arith) (omega (arith, long)))
  ];
  begins = elim begins [
    | inl (_, none) ↦ inl none
    | inr (some, last) ↦ inr (length new - 1, omega arith, λ d. sym (last d))
  ];
  left = λ k below. elim (cases_lt k (length new)) [
    | inl lower ↦ inr (k, lower, λ d. kept k d lower)
    | inr from ↦ inl (λ d. elim begins [
      | inl (_, none) ↦ omega (arith, none)
      | inr (some, last) ↦ omega (arith, last d, kept (length new - 1) d (omega arith), ascending (length new - 1) k d (omega arith) below)
    ])
  ];
}
  where
    long : length new ≡ length old - 1
    long = ap length is ∙ length-take-le (length old - 1) old (omega arith)

    kept : (k d : ℕ) → k < length new → slice_index_or new k d ≡ slice_index_or old k d
    kept k d below = ap (λ l. slice_index_or l k d) is ∙ get_or-take (length old - 1) old k d (omega (arith, long))

-- pools of which those from a place on are written back in another order
pub written_back : (xs whole ys zs : List Range) (n first : ℕ) → whole ≡ xs → n ≡ length xs → first ≤ length xs
    → IsPermutation (mid_of first (length whole - first) whole) ys → take n (put_mid first (length whole - first) whole ys ++ zs) ≡ take first xs ++ ys
written_back xs whole ys zs n first is long fits same =
    let over : (length whole - first) ≡ length xs - first = omega (arith, ap length is) in
    let ended : post_of first (length whole - first) whole ≡ [] = drop_all (length whole - first) (drop first whole) (omega (arith, length-drop first whole)) in
    let count : length ys ≡ length xs - first = length_permutation (mid_of first (length whole - first) whole) ys same
    ∙ length-take-le (length whole - first) (drop first whole) (omega (arith, length-drop first whole)) ∙ over in
    let put : put_mid first (length whole - first) whole ys ≡ take first xs ++ ys =
    ap (λ l. take first whole ++ (ys ++ l)) ended ∙ ap (λ l. take first whole ++ l) (append-nil ys) ∙ ap (λ l. take first l ++ ys) is in
    ap (λ l. take n (l ++ zs)) put ∙ take_at (take first xs ++ ys) zs n
    (length-append (take first xs) ys ∙ omega (arith, length-take-le first xs fits, count, long))

pub moved_back : (xs whole ys : List Range) (first : ℕ) → whole ≡ xs → IsPermutation (mid_of first (length whole - first) whole) ys
    → IsPermutation xs (take first xs ++ ys)
moved_back xs whole ys first is same =
    let part : mid_of first (length whole - first) whole ≡ drop first xs = take_rest whole first ∙ ap (drop first) is in
    subst (λ l. IsPermutation l (take first xs ++ ys)) (take-append-drop first xs)
    (IsPermutation-append_right (take first xs) (drop first xs) ys (subst (λ l. IsPermutation l ys) part same))

pub ascending_back : (xs ys : List Range) (first : ℕ) → first ≤ length xs → IsNonDecreasingBy (λ p. p.start) ys
    → (i j : ℕ) (d : Range) → first ≤ i → i < j → j < length (take first xs ++ ys)
    → (slice_index_or (take first xs ++ ys) i d).start ≤ (slice_index_or (take first xs ++ ys) j d).start
ascending_back xs ys first fits ascending i j d from lower below =
    let front = length-take-le first xs fits in
    omega (
      arith,
      ap (λ p. p.start) (get_or-append_right (take first xs) ys first i d front from),
      ap (λ p. p.start) (get_or-append_right (take first xs) ys first j d front (omega arith)),
      ascending (i - first) (j - first) d (omega arith) (omega (arith, length-append (take first xs) ys, front)),
    )
