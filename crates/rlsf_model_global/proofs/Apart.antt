-- Ranges that lie between two addresses and don't overlap: one more, one that grows, one that goes.
use Rattle.std.proofs.Common.{◌≡◌, ℕ, ◌+◌, ◌≤◌, ◌⊎◌, List, [], ◌∷◌, ◌++◌, arith, refl, sym, subst, inl, inr}
use Rattle.rlsf_base.specs.declared.memory.range.Range.{Range}
use Rattle.rlsf_base.specs.Range.{end_of}
use Rattle.rlsf_model.specs.Insert.{IsClear}
use Rattle.rlsf_model.specs.Lists.{IsIn}
use Rattle.rlsf_model.specs.Terms.{with_len}
use Rattle.rlsf_model.specs.WellFormed.{coverage, itself}
use Rattle.rlsf_model.proofs.Between.{IsIn-between, coverage-between}
use Rattle.rlsf_model.proofs.Coverage.{IsIn-append, IsIn-append_left, IsIn-append_right, inside, before, behind, covers-behind, where_is}

-- the ranges lie from one address up to another, and don't overlap
pub record LieApart (from to : ℕ) (rs : List Range) : Type 0 where
  pub low : (r : Range) → IsIn r rs → from ≤ r.start
  pub high : (r : Range) → IsIn r rs → end_of r ≤ to
  pub disjoint : (a : ℕ) → coverage itself rs a ≤ 1

-- no range has an address that all of them end before
coverage-above : (qs : List Range) (c a : ℕ) → ((r : Range) → IsIn r qs → end_of r ≤ c) → c ≤ a → coverage itself qs a ≡ 0
coverage-above [] c a low above = refl
coverage-above (q ∷ qs) c a low above = omega (arith, covers-behind q a (omega (arith, low q (inl refl))), coverage-above qs c a (λ r i. low r (inr i)) above)

-- an element of ranges of which one grew is an old one or the one that grew
pub IsIn-grown : (q r : Range) (len : ℕ) (xs ys : List Range) → IsIn q (xs ++ with_len r len ∷ ys) → IsIn q (xs ++ r ∷ ys) ⊎ (q ≡ with_len r len)
IsIn-grown q r len xs ys i = elim (IsIn-append q xs (with_len r len ∷ ys) i) [
  | inl l ↦ inl (IsIn-append_left q xs (r ∷ ys) l)
  | inr (inl e) ↦ inr e
  | inr (inr h) ↦ inl (IsIn-append_right q xs (r ∷ ys) (inr h))
]

module _ {from to : ℕ} where
  -- no address behind them is covered
  pub LieApart-above : {rs : List Range} → LieApart from to rs → (a : ℕ) → to ≤ a → coverage itself rs a ≡ 0
  LieApart-above {rs} h a above = coverage-above rs to a h.high above

  -- one more behind them
  pub LieApart-more : {rs : List Range} (r : Range) → LieApart from to rs → from ≤ to → to ≤ r.start → LieApart from (end_of r) (r ∷ rs)
  LieApart-more {rs} r h some behind_them = record { low = low; high = high; disjoint = disjoint }
    where
      low : (q : Range) → IsIn q (r ∷ rs) → from ≤ q.start
      low q (inl e) = subst (λ (q : Range). from ≤ q.start) (sym e) (omega (arith, some, behind_them))
      low q (inr i) = h.low q i

      high : (q : Range) → IsIn q (r ∷ rs) → end_of q ≤ end_of r
      high q (inl e) = subst (λ (q : Range). end_of q ≤ end_of r) (sym e) (omega arith)
      high q (inr i) = omega (arith, h.high q i, behind_them)

      disjoint : (a : ℕ) → coverage itself (r ∷ rs) a ≤ 1
      disjoint a = elim (where_is r a) [
        | inside one start end ↦ omega (arith, LieApart-above h a (omega (arith, start, behind_them)))
        | before none start ↦ omega (arith, h.disjoint a)
        | behind none end ↦ omega (arith, h.disjoint a)
      ]

  -- one goes
  pub LieApart-less : (r : Range) (xs ys : List Range) → LieApart from to (xs ++ r ∷ ys) → LieApart from to (xs ++ ys)
  LieApart-less r xs ys h = record {
    low = λ q i. h.low q (IsIn-between q r xs ys i);
    high = λ q i. h.high q (IsIn-between q r xs ys i);
    disjoint = λ a. omega (arith, h.disjoint a, coverage-between r xs ys a);
  }

  -- the one that ends last grows, and then it is still clear of the others
  module _ (r : Range) (len : ℕ) (xs ys : List Range) (last : end_of r ≡ to) (longer : r.len ≤ len) (h : LieApart from to (xs ++ r ∷ ys)) where
    here : IsIn r (xs ++ r ∷ ys)
    here = IsIn-append_right r xs (r ∷ ys) (inl refl)

    pub IsClear-grown : IsClear (with_len r len) (xs ++ ys)
    IsClear-grown a start end = elim (where_is r a) [
      | inside one s e ↦ omega (arith, h.disjoint a, coverage-between r xs ys a)
      | before none s ↦ absurd (omega arith)
      | behind none e ↦ coverage-above (xs ++ ys) to a (λ q i. h.high q (IsIn-between q r xs ys i)) (omega (arith, last))
    ]

    pub LieApart-grown : LieApart from (r.start + len) (xs ++ with_len r len ∷ ys)
    LieApart-grown = record { low = low; high = high; disjoint = disjoint }
      where
        low : (q : Range) → IsIn q (xs ++ with_len r len ∷ ys) → from ≤ q.start
        low q i = elim (IsIn-grown q r len xs ys i) [ inl old ↦ h.low q old | inr e ↦ subst (λ (q : Range). from ≤ q.start) (sym e) (h.low r here) ]

        high : (q : Range) → IsIn q (xs ++ with_len r len ∷ ys) → end_of q ≤ r.start + len
        high q i =
            elim (IsIn-grown q r len xs ys i) [
              | inl old ↦ omega (arith, h.high q old, last, longer)
              | inr e ↦
                  subst (λ (q : Range). end_of q ≤ r.start + len) (sym e) (omega arith)
            ]

        disjoint : (a : ℕ) → coverage itself (xs ++ with_len r len ∷ ys) a ≤ 1
        disjoint a = elim (where_is (with_len r len) a) [
          | inside one start end ↦ omega (arith, coverage-between (with_len r len) xs ys a, IsClear-grown a start end)
          | before none start ↦ omega (arith, coverage-between (with_len r len) xs ys a, coverage-between r xs ys a, h.disjoint a)
          | behind none end ↦ omega (arith, coverage-between (with_len r len) xs ys a, coverage-between r xs ys a, h.disjoint a)
        ]
