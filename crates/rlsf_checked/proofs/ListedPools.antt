-- The pools of a list, in the order of their addresses.
use Rattle.std.proofs.Common.{◌≡◌, ℕ, zero, suc, ◌+◌, ◌<◌, ◌≤◌, ◌⊎◌, Bool, cond, List, [], ◌∷◌, ◌++◌, filter, length, take, get_or, arith, refl, sym, ◌∙◌, ap, subst, inl, inr}
use Rattle.std.proofs.lemmas.Bool.{cases_lt, le-ltb, lt-ltb}
use Rattle.std.proofs.lemmas.List.{take_more}
use Rattle.rlsf_base.specs.declared.memory.range.Range.{Range}
use Rattle.rlsf_base.specs.Range.{end_of}
use Rattle.rlsf_model.specs.Lists.{IsIn}
use Rattle.rlsf_model.specs.State.{State}
use Rattle.rlsf_model.proofs.Coverage.{by_test, IsIn-append, IsIn-append_left, IsIn-append_right, IsIn-filter}
use Rattle.rlsf_checked.specs.Checked.{PoolList}
use Rattle.rlsf_checked.specs.Pools.{current_pools}
use Rattle.rlsf_checked.specs.Steps.Standing.{AreInOrder, AreCheckedPools, IsOneOf}

-- the only element of a list
pub only : {p q : Range} → IsIn p (q ∷ []) → p ≡ q
only i = elim i [ inl same ↦ same | inr none ↦ absurd none ]

-- ---- the pools that are inserted

with_last : (pools : PoolList) → 0 < pools.last.len → current_pools pools ≡ pools.earlier ++ pools.last ∷ []
with_last pools some = ap (λ b. cond b (pools.earlier ++ pools.last ∷ []) pools.earlier) (lt-ltb 0 pools.last.len some)

no_last : (pools : PoolList) → pools.last.len ≤ 0 → current_pools pools ≡ pools.earlier
no_last pools none = ap (λ b. cond b (pools.earlier ++ pools.last ∷ []) pools.earlier) (le-ltb 0 pools.last.len none)

pub one_of : (pools : PoolList) (p : Range) → IsIn p (current_pools pools) → IsOneOf p pools
one_of pools p i = elim (cases_lt 0 pools.last.len) [
  | inl some ↦ elim (IsIn-append p pools.earlier (pools.last ∷ []) (subst (IsIn p) (with_last pools some) i)) [
    | inl j ↦ inl j
    | inr j ↦ let same = only j in inr (same, omega (arith, some, ap (λ (x : Range). x.len) same))
  ]
  | inr none ↦ inl (subst (IsIn p) (no_last pools none) i)
]

pub is_in : (pools : PoolList) (p : Range) → IsOneOf p pools → IsIn p (current_pools pools)
is_in pools p (inl i) = grind (arith, cases_lt, with_last, IsIn-append_left, no_last)
is_in pools p (inr (same, some)) =
    subst (IsIn p) (sym (with_last pools (omega (arith, some, ap (λ (x : Range). x.len) same)))) (IsIn-append_right p pools.earlier (pools.last ∷ []) (inl same))

-- ---- their order

AreInOrder-add : (ps : List Range) (r : Range) → AreInOrder ps → ((p : Range) → IsIn p ps → end_of p ≤ r.start) → AreInOrder (ps ++ r ∷ [])
AreInOrder-add [] r order ends = (λ q i. absurd i, tt)
AreInOrder-add (p ∷ ps) r (first, rest) ends = (
  λ q i. elim (IsIn-append q ps (r ∷ []) i) [
    | inl j ↦ first q j
    | inr j ↦ omega (arith, ends p (inl refl), ap (λ (x : Range). x.start) (only j))
  ],
  AreInOrder-add ps r rest (λ q j. ends q (inr j)),
)

pub inserted_order : {s : State} (pools : PoolList) → AreCheckedPools s pools → AreInOrder (current_pools pools)
inserted_order pools are = grind (arith, cases_lt, with_last, AreInOrder-add, no_last)

pub AreInOrder-filter : (test : Range → Bool) (ps : List Range) → AreInOrder ps → AreInOrder (filter test ps)
AreInOrder-filter test [] order = tt
AreInOrder-filter test (p ∷ ps) (first, rest) = by_test (test p)
    (λ e. subst (λ b. AreInOrder (cond b (p ∷ filter test ps) (filter test ps))) (sym e)
    (λ q i. first q (IsIn-filter test q ps i).0, AreInOrder-filter test ps rest))
    (λ e. subst (λ b. AreInOrder (cond b (p ∷ filter test ps) (filter test ps))) (sym e) (AreInOrder-filter test ps rest))

-- two of them are the same, or one is before the other
pub same_or_apart : (ps : List Range) → AreInOrder ps → (p q : Range) → IsIn p ps → IsIn q ps → (p ≡ q) ⊎ ((end_of p ≤ q.start) ⊎ (end_of q ≤ p.start))
same_or_apart [] order p q i j = absurd i
same_or_apart (x ∷ ps) (first, rest) p q (inl a) (inl b) = inl (subst (λ y. p ≡ y) (sym b) a)
same_or_apart (x ∷ ps) (first, rest) p q (inl a) (inr j) = inr (inl (omega (arith, first q j, ap end_of a)))
same_or_apart (x ∷ ps) (first, rest) p q (inr i) (inl b) = inr (inr (omega (arith, first p i, ap end_of b)))
same_or_apart (x ∷ ps) (first, rest) p q (inr i) (inr j) = same_or_apart ps rest p q i j

-- ---- the one at an index

pub IsIn-get_or : (ps : List Range) (i : ℕ) (d : Range) → i < length ps → IsIn (get_or ps i d) ps
IsIn-get_or [] i d lt = absurd (omega (arith, lt))
IsIn-get_or (p ∷ ps) zero d lt = inl refl
IsIn-get_or (p ∷ ps) (suc i) d lt = inr (IsIn-get_or ps i d (omega (arith, lt)))

-- those before it end where it begins, or before
pub before_at : (ps : List Range) (i : ℕ) (d : Range) → AreInOrder ps → i < length ps → (q : Range) → IsIn q (take i ps) → end_of q ≤ (get_or ps i d).start
before_at [] i d order lt q j = absurd (omega (arith, lt))
before_at (p ∷ ps) zero d order lt q j = absurd j
before_at (p ∷ ps) (suc i) d (first, rest) lt q (inl same) = omega (arith, first (get_or ps i d) (IsIn-get_or ps i d (omega (arith, lt))), ap end_of same)
before_at (p ∷ ps) (suc i) d (first, rest) lt q (inr j) = before_at ps i d rest (omega (arith, lt)) q j

pub IsIn-take : (ps : List Range) (i : ℕ) (q : Range) → IsIn q (take i ps) → IsIn q ps
IsIn-take [] zero q j = j
IsIn-take [] (suc i) q j = j
IsIn-take (p ∷ ps) zero q j = absurd j
IsIn-take (p ∷ ps) (suc i) q (inl same) = inl same
IsIn-take (p ∷ ps) (suc i) q (inr j) = inr (IsIn-take ps i q j)

-- and the others begin where it ends, or behind
pub behind_at : (ps : List Range) (i : ℕ) (d : Range) → AreInOrder ps → i < length ps → (q : Range) → IsIn q ps
    → IsIn q (take i ps) ⊎ ((q ≡ get_or ps i d) ⊎ (end_of (get_or ps i d) ≤ q.start))
behind_at [] i d order lt q j = absurd j
behind_at (p ∷ ps) zero d order lt q (inl same) = inr (inl same)
behind_at (p ∷ ps) zero d (first, rest) lt q (inr j) = inr (inr (first q j))
behind_at (p ∷ ps) (suc i) d order lt q (inl same) = inl (inl same)
behind_at (p ∷ ps) (suc i) d (first, rest) lt q (inr j) = elim (behind_at ps i d rest (omega (arith, lt)) q j) [ inl k ↦ inl (inr k) | inr k ↦ inr k ]

-- so is a range that is the one there
pub at_index : (ps : List Range) (i : ℕ) (r p : Range) → i < length ps → p ≡ get_or ps i p → p ≡ r → IsIn r ps
at_index ps i r p lt at same = subst (λ x. IsIn x ps) (sym at ∙ same) (IsIn-get_or ps i p lt)

-- with that one, those before it are those before the next one
pub before_more : (ps : List Range) (i : ℕ) (q p : Range) → i < length ps → p ≡ get_or ps i p → IsIn q (take (i + 1) ps) → IsIn q (take i ps) ⊎ (q ≡ p)
before_more ps i q p lt at k = elim (IsIn-append q (take i ps) (get_or ps i p ∷ []) (subst (IsIn q) (take_more ps i p lt) k)) [
  | inl j ↦ inl j
  | inr j ↦ inr (only j ∙ sym at)
]
