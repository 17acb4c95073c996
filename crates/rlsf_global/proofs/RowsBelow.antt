-- The entries whose addresses are below a bound.
use Rattle.std.proofs.Common.{◌≡◌, ◌≢◌, ◌⊎◌, ℕ, zero, suc, ◌+◌, ◌*◌, ◌^◌, ◌<◌, ◌≤◌, ◌==◌, nat_lt, filter, Bool}
use Rattle.std.proofs.Common.{true, false, List, [], ◌∷◌, ◌++◌, append-nil, get_or, length, length-append}
use Rattle.std.proofs.Common.{IsSome, Option, Some, None, if◌then◌else◌, arith, refl, sym, ap, subst, inl, inr, ◌∙◌}
use Rattle.std.proofs.lemmas.Bool.Decides.{eqb_tells, leb_tells}
use Rattle.std.specs.declared.num.NonZeroUsize.{NonZeroUsize}
use Rattle.rlsf_base.specs.Addr.{at}
use Rattle.rlsf_global.proofs.CodedRows.{address-fits, code_at-place, code_in-none, coded-at, coded-place, row_at-in, row_at-of}
use Rattle.rlsf_codes.specs.Codes.{HasPlace}
use Rattle.rlsf_codes.specs.declared.codes.Codes.{Codes}
use Rattle.rlsf_global.specs.LiveRows.{AreAddresses, AreCoded, IsLiveTable, code_in}
use Rattle.rlsf_global.proofs.ToldLayouts.{IsTold, told-row}
use Rattle.rlsf_model.specs.Lists.{IsIn}
use Rattle.rlsf_model.specs.State.{State}
use Rattle.rlsf_model_global.specs.Heap.{Lists}
use Rattle.rlsf_model_global.specs.Rows.{IsSorted, Row, key, row_at}
use Rattle.rlsf_model_global.proofs.Rows.{clash, clash'}

-- ---- the entries below a bound

pub below : ℕ → List Row → List Row
below b rows = filter (λ r. nat_lt (key r) b) rows

-- the entry, if there is one
pub entry : Option Row → List Row
entry None = []
entry (Some r) = r ∷ []

length-entry : (o : Option Row) → length (entry o) ≤ 1
unfolding entry
length-entry None = omega arith
length-entry (Some r) = omega arith

below-none : (b : ℕ) (rows : List Row) → ((r : Row) → IsIn r rows → b ≤ key r) → below b rows ≡ []
unfolding below
below-none b [] above = refl
below-none b (r ∷ rows) above = by (nat_lt (key r) b) (leb_tells (suc (key r)) b) (below-none b rows (λ x i. above x (inr i)))
  where
    by : (lt : Bool) → ((lt ≡ true) × (suc (key r) ≤ b)) ⊎ ((lt ≡ false) × (b < suc (key r))) → below b rows ≡ []
        → (if lt then r ∷ below b rows else below b rows) ≡ []
    by true (inl (_, low)) rest = let high = above r (inl refl) in absurd (omega (arith, low, high))
    by true (inr (off, _)) rest = clash off
    by false t rest = rest

below-all : (b : ℕ) (rows : List Row) → ((r : Row) → IsIn r rows → key r < b) → below b rows ≡ rows
unfolding below
below-all b [] under = refl
below-all b (r ∷ rows) under = by (nat_lt (key r) b) (leb_tells (suc (key r)) b) (below-all b rows (λ x i. under x (inr i)))
  where
    by : (lt : Bool) → ((lt ≡ true) × (suc (key r) ≤ b)) ⊎ ((lt ≡ false) × (b < suc (key r))) → below b rows ≡ rows
        → (if lt then r ∷ below b rows else below b rows) ≡ r ∷ rows
    by true t rest = ap (λ xs. r ∷ xs) rest
    by false (inl (off, _)) rest = clash' off
    by false (inr (_, high)) rest = let low = under r (inl refl) in absurd (omega (arith, low, high))

pub length-below : (b : ℕ) (rows : List Row) → length (below b rows) ≤ length rows
unfolding below
length-below b [] = omega arith
length-below b (r ∷ rows) = grind (arith, length-below b rows)

-- where no entry is between two bounds, the entries below the second are those below the first and the entry of the first
below-next : (a b : ℕ) (rows : List Row) → IsSorted rows → a < b → ((r : Row) → IsIn r rows → key r < b → key r ≤ a)
    → below b rows ≡ below a rows ++ entry (row_at a rows)
unfolding below entry
below-next a b [] s lt gap = refl
below-next a b (r ∷ rows) s lt gap =
    by (below-next a b rows s.1 lt (λ x i. gap x (inr i))) (nat_lt (key r) a) (nat_lt (key r) b) (key r == a)
    (leb_tells (suc (key r)) a) (leb_tells (suc (key r)) b) (eqb_tells (key r) a)
  where
    by : below b rows ≡ below a rows ++ entry (row_at a rows) → (la lb eq : Bool) → ((la ≡ true) × (suc (key r) ≤ a)) ⊎ ((la ≡ false) × (a < suc (key r)))
        → ((lb ≡ true) × (suc (key r) ≤ b)) ⊎ ((lb ≡ false) × (b < suc (key r))) → ((eq ≡ true) × (key r ≡ a)) ⊎ ((eq ≡ false) × (key r ≢ a))
        → (if lb then r ∷ below b rows else below b rows) ≡ (if la then r ∷ below a rows else below a rows) ++ entry (if eq then Some r else row_at a rows)
    by rest true true false ta tb te = ap (λ xs. r ∷ xs) rest
    by rest true true true (inl (_, low)) tb (inl (_, same)) = absurd (omega (arith, low, same))
    by rest true true true (inr (off, _)) tb te = clash off
    by rest true true true ta tb (inr (off, _)) = clash off
    by rest true false eq (inl (_, low)) (inr (_, high)) te = absurd (omega (arith, low, high, lt))
    by rest true false eq (inr (off, _)) tb te = clash off
    by rest true false eq ta (inl (off, _)) te = clash' off
    by rest false true true ta tb (inl (_, same)) =
        let none_b = below-none b rows (λ x i. let above = s.0 x i in elim (leb_tells (suc (key x)) b) [
          | inl t ↦ let near = gap x (inr i) t.1 in absurd (omega (arith, above, same, near))
          | inr t ↦ omega (arith, t.1)
        ]) in
        let none_a = below-none a rows (λ x i. let above = s.0 x i in omega (arith, above, same)) in
        ap (λ xs. r ∷ xs) none_b ∙ ap (λ xs. xs ++ r ∷ []) (sym none_a)
    by rest false true true ta tb (inr (off, _)) = clash off
    by rest false true false (inr (_, high)) (inl (_, low)) (inr (_, differs)) =
        let near = gap r (inl refl) low in absurd (differs (omega (arith, near, high)))
    by rest false true false (inl (off, _)) tb te = clash' off
    by rest false true false ta (inr (off, _)) te = clash off
    by rest false true false ta tb (inl (off, _)) = clash' off
    by rest false false true (inr (_, high)) (inr (_, far)) (inl (_, same)) = absurd (omega (arith, far, same, lt))
    by rest false false true (inl (off, _)) tb te = clash' off
    by rest false false true ta (inl (off, _)) te = clash' off
    by rest false false true ta tb (inr (off, _)) = clash off
    by rest false false false ta tb te = rest

-- ---- the entries below the address of a place

module _ (c : Codes ℕ) (rows : List Row) (coded : AreCoded c rows) (sorted : IsSorted rows) where
  place_in : (r : Row) → IsIn r rows → HasPlace c (key r)
  place_in r i = coded-place c rows coded (key r) (subst (λ o. IsSome o) (sym (row_at-of rows r sorted i)) refl)

  pub below-first : below ((c.first + 0) * 16) rows ≡ []
  below-first = below-none ((c.first + 0) * 16) rows (λ r i. let p = place_in r i in omega (arith, p))

  pub below-place : (place : ℕ)
      → below ((c.first + (place + 1)) * 16) rows ≡ below ((c.first + place) * 16) rows ++ entry (row_at ((c.first + place) * 16) rows)
  below-place place =
      below-next ((c.first + place) * 16) ((c.first + (place + 1)) * 16) rows sorted (omega arith) (λ r i low. let p = place_in r i in omega (arith, p, low))

  pub below-end : below ((c.first + length c.codes.items) * 16) rows ≡ rows
  below-end = below-all ((c.first + length c.codes.items) * 16) rows (λ r i. let p = place_in r i in omega (arith, p))

  -- so there are at most as many entries as places
  below-few : (n : ℕ) → length (below ((c.first + n) * 16) rows) ≤ n
  below-few zero = omega (arith, ap length below-first)
  below-few (suc n) =
      let here = entry (row_at ((c.first + n) * 16) rows) in
      let more = ap length (below-place n) ∙ length-append (below ((c.first + n) * 16) rows) here in
      let rest = below-few n in
      let one = length-entry (row_at ((c.first + n) * 16) rows) in
      let next : n + 1 ≡ suc n = omega arith in
      subst (λ m. length (below ((c.first + m) * 16) rows) ≤ suc n) next (omega (arith, more, rest, one))

  rows-few : length rows ≤ length c.codes.items
  rows-few = let few = below-few (length c.codes.items) in omega (arith, few, ap length below-end)

  code_in_place : (place code : ℕ) → code ≡ get_or c.codes.items place c.none → code ≡ code_in (row_at ((c.first + place) * 16) rows)
  code_in_place place code is = is ∙ sym (code_at-place c ((c.first + place) * 16) place refl) ∙ coded-at c rows coded ((c.first + place) * 16)

  -- where there is no code, these are the same at the next place
  pub below-empty : (place code : ℕ) → code ≡ get_or c.codes.items place c.none → code ≡ 0
      → below ((c.first + (place + 1)) * 16) rows ≡ below ((c.first + place) * 16) rows
  unfolding entry
  below-empty place code is none =
      below-place place ∙ ap (λ o. below ((c.first + place) * 16) rows ++ entry o) (code_in-none _ (sym (code_in_place place code is) ∙ none)) ∙ append-nil _

  -- where there is a code, its address is one of a machine
  pub place-some : (place code : ℕ) → AreAddresses rows → code ≡ get_or c.codes.items place c.none → code ≢ 0
      → (0 < (c.first + place) * 16) × ((c.first + place) * 16 < 2 ^ 64)
  place-some place code all is some = by (row_at ((c.first + place) * 16) rows) refl (code_in_place place code is)
    where
      by : (o : Option Row) → row_at ((c.first + place) * 16) rows ≡ o → code ≡ code_in o → (0 < (c.first + place) * 16) × ((c.first + place) * 16 < 2 ^ 64)
      by None here e = absurd (some e)
      by (Some r) here e =
          (subst (λ n. 0 < n) (row_at-in ((c.first + place) * 16) rows r here).1 r.0.ok, address-fits ((c.first + place) * 16) rows all r here)

  -- and at the next place its entry is the last of them
  pub below-more : (place a : ℕ) (row : Row) → a ≡ (c.first + place) * 16 → row_at a rows ≡ Some row
      → below ((c.first + (place + 1)) * 16) rows ≡ below ((c.first + place) * 16) rows ++ row ∷ []
  unfolding entry
  below-more place a row is here =
      below-place place ∙ ap (λ o. below ((c.first + place) * 16) rows ++ entry o) (ap (λ n. row_at n rows) (sym is) ∙ here)

  -- so there is room for it
  pub below-room : (place a : ℕ) (row : Row) → a ≡ (c.first + place) * 16 → row_at a rows ≡ Some row
      → length (below ((c.first + place) * 16) rows) < length rows
  below-room place a row is here =
      let most = length-below ((c.first + (place + 1)) * 16) rows in
      let more = ap length (below-more place a row is here) ∙ length-append (below ((c.first + place) * 16) rows) (row ∷ []) in
      omega (arith, most, more)

  -- at a place with a code is a payload, whose layout is determined
  pub told_in : (m : State) → Lists rows m → (place code : ℕ) (addr : NonZeroUsize) → at addr ≡ (c.first + place) * 16
      → code ≡ get_or c.codes.items place c.none → code ≢ 0
      → IsTold rows m addr code
  told_in m lists place code addr here is some =
      told-row rows m lists addr code (code_in_place place code is ∙ ap (λ n. code_in (row_at n rows)) (sym here)) some

-- so a count of payloads fits in a word, with one more
pub live-few : (c : Codes ℕ) (rows : List Row) (live : ℕ) → IsLiveTable c rows live → live < 2 ^ 62
live-few c rows live kept =
    let few = rows-few c rows kept.coded kept.sorted in
    let count = kept.counted in let stored = c.few in let narrow = c.narrow in
    omega (arith, few, count, stored, narrow)
