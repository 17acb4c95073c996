-- How many ranges of a list have an address.
use Rattle.std.proofs.Common.{◌≡◌, ℕ, ◌+◌, ◌<◌, ◌≤◌, ◌⊎◌, Bool, true, false, cond, ◌&&◌, ltb, filter, find, map, List, [], ◌∷◌}
use Rattle.std.proofs.Common.{◌++◌, Some, None, arith, refl, sym, ◌∙◌, ap, inl, inr}
use Rattle.std.proofs.lemmas.Bool.Decides.{nat_tests}
use Rattle.std.proofs.lemmas.Bool.{cases_lt, le-leb, lt-leb, lt-ltb, le-ltb}
use Rattle.rlsf_base.specs.declared.memory.range.Range.{Range}
use Rattle.rlsf_base.specs.Range.{end_of}
use Rattle.rlsf_model.specs.Lists.{IsIn, without}
use Rattle.rlsf_model.specs.WellFormed.{covers, coverage}

-- an address is in a range, or before it or behind it
pub data Where (r : Range) (a : ℕ) : Type 0 where
  inside : covers r a ≡ 1 → r.start ≤ a → a < end_of r → Where r a
  before : covers r a ≡ 0 → a < r.start → Where r a
  behind : covers r a ≡ 0 → end_of r ≤ a → Where r a

pub covers-inside : (r : Range) (a : ℕ) → r.start ≤ a → a < end_of r → covers r a ≡ 1
unfolding covers
covers-inside r a low high = ap (λ b. cond (b && ltb a (end_of r)) 1 0) (le-leb r.start a low) ∙ ap (λ b. cond b 1 0) (lt-ltb a (end_of r) high)

pub covers-before : (r : Range) (a : ℕ) → a < r.start → covers r a ≡ 0
unfolding covers
covers-before r a low = ap (λ b. cond (b && ltb a (end_of r)) 1 0) (lt-leb r.start a low)

pub covers-behind : (r : Range) (a : ℕ) → end_of r ≤ a → covers r a ≡ 0
unfolding covers
covers-behind r a high = grind (arith, cases_lt, covers-before, le-leb, le-ltb)

pub where_is : (r : Range) (a : ℕ) → Where r a
where_is r a = grind (arith, cases_lt, covers-before, covers-inside, covers-behind)

-- a range that has an address
pub covers-some : (r : Range) (a : ℕ) → 1 ≤ covers r a → (r.start ≤ a) × (a < end_of r)
covers-some r a some = grind (arith, where_is)

pub covers-le : (r : Range) (a : ℕ) → covers r a ≤ 1
covers-le r a = grind (arith, where_is)

-- a range is cut in two at any address in it
pub covers-split : (low mid high a : ℕ) → low ≤ mid → mid ≤ high → (r s t : Range) → r.start ≡ low → end_of r ≡ high → s.start ≡ low → end_of s ≡ mid
    → t.start ≡ mid → end_of t ≡ high
    → covers r a ≡ covers s a + covers t a
covers-split low mid high a first second r s t r0 r1 s0 s1 t0 t1 = grind (arith, where_is, covers-before, covers-behind)

-- a range of no bytes has no address
pub covers-empty : (r : Range) (a : ℕ) → r.len ≡ 0 → covers r a ≡ 0
covers-empty r a empty = grind (arith, where_is)

-- what is true of a Bool either way
pub by_test : {X : Type 0} (t : Bool) → (t ≡ true → X) → (t ≡ false → X) → X
by_test true y n = y refl
by_test false y n = n refl

-- ---- elements

pub IsIn-append : {A : Type 0} (x : A) (xs ys : List A) → IsIn x (xs ++ ys) → IsIn x xs ⊎ IsIn x ys
IsIn-append x [] ys h = inr h
IsIn-append x (y ∷ xs) ys (inl e) = inl (inl e)
IsIn-append x (y ∷ xs) ys (inr h) = elim (IsIn-append x xs ys h) [ inl l ↦ inl (inr l) | inr r ↦ inr r ]

pub IsIn-append_left : {A : Type 0} (x : A) (xs ys : List A) → IsIn x xs → IsIn x (xs ++ ys)
IsIn-append_left x [] ys h = absurd h
IsIn-append_left x (y ∷ xs) ys (inl e) = inl e
IsIn-append_left x (y ∷ xs) ys (inr h) = inr (IsIn-append_left x xs ys h)

pub IsIn-append_right : {A : Type 0} (x : A) (xs ys : List A) → IsIn x ys → IsIn x (xs ++ ys)
IsIn-append_right x [] ys h = h
IsIn-append_right x (y ∷ xs) ys h = inr (IsIn-append_right x xs ys h)

pub IsIn-append_swap : {A : Type 0} (x : A) (xs ys : List A) → IsIn x (xs ++ ys) → IsIn x (ys ++ xs)
IsIn-append_swap x xs ys h = elim (IsIn-append x xs ys h) [ inl l ↦ IsIn-append_right x ys xs l | inr r ↦ IsIn-append_left x ys xs r ]

pub IsIn-map : {A B : Type 0} (f : A → B) (x : A) (xs : List A) → IsIn x xs → IsIn (f x) (map f xs)
IsIn-map f x [] i = absurd i
IsIn-map f x (y ∷ ys) (inl same) = inl (ap f same)
IsIn-map f x (y ∷ ys) (inr i) = inr (IsIn-map f x ys i)

pub IsIn-map_from : {A B : Type 0} (f : A → B) (y : B) (xs : List A) → IsIn y (map f xs) → (x : A) × IsIn x xs × (y ≡ f x)
IsIn-map_from f y [] i = absurd i
IsIn-map_from f y (x ∷ xs) (inl same) = (x, inl refl, same)
IsIn-map_from f y (x ∷ xs) (inr i) = let (z, j, is) = IsIn-map_from f y xs i in (z, inr j, is)

-- functions that agree on the elements make one list of them
pub map-same : {A B : Type 0} (f g : A → B) (xs : List A) → ((x : A) → IsIn x xs → f x ≡ g x) → map f xs ≡ map g xs
map-same f g [] same = refl
map-same f g (x ∷ xs) same = λ k. same x (inl refl) k ∷ map-same f g xs (λ y i. same y (inr i)) k

pub IsIn-without : {A : Type 0} (p : A → Bool) (x : A) (xs : List A) → IsIn x (without p xs) → IsIn x xs
IsIn-without p x [] h = h
IsIn-without p x (y ∷ xs) h = grind (arith, nat_tests, IsIn-without p x xs)

-- an element that the test fails is left
pub IsIn-without_other : {A : Type 0} (p : A → Bool) (x : A) (xs : List A) → p x ≡ false → IsIn x xs → IsIn x (without p xs)
IsIn-without_other p x [] failed h = h
IsIn-without_other p x (y ∷ xs) failed h = grind (arith, nat_tests, IsIn-without_other p x xs failed)

-- what was found is an element that passes
pub find-some : {A : Type 0} (p : A → Bool) (x : A) (xs : List A) → find p xs ≡ Some x → IsIn x xs × (p x ≡ true)
find-some p x [] h = absurd (cc)
find-some p x (y ∷ xs) h = grind (arith, nat_tests, find-some p x xs)

-- where nothing was found, no element passes
pub find-none : {A : Type 0} (p : A → Bool) (x : A) (xs : List A) → find p xs ≡ None → IsIn x xs → p x ≡ false
find-none p x [] h i = absurd i
find-none p x (y ∷ xs) h i = grind (arith, nat_tests, find-none p x xs)

pub without-none : {A : Type 0} (p : A → Bool) (xs : List A) → find p xs ≡ None → without p xs ≡ xs
without-none p [] h = refl
without-none p (y ∷ xs) h = grind (arith, nat_tests, without-none p xs)

-- an element that is left by a filter passes its test
pub IsIn-filter : {A : Type 0} (p : A → Bool) (x : A) (xs : List A) → IsIn x (filter p xs) → IsIn x xs × (p x ≡ true)
IsIn-filter p x [] i = absurd i
IsIn-filter p x (y ∷ ys) i = grind (arith, nat_tests, IsIn-filter p x ys)

pub IsIn-filter_from : {A : Type 0} (p : A → Bool) (x : A) (xs : List A) → IsIn x xs → p x ≡ true → IsIn x (filter p xs)
IsIn-filter_from p x [] i passes = i
IsIn-filter_from p x (y ∷ ys) i passes = grind (arith, nat_tests, IsIn-filter_from p x ys)

-- ---- coverage

module _ {A : Type 0} (range : A → Range) where
  pub coverage-append : (xs ys : List A) (a : ℕ) → coverage range (xs ++ ys) a ≡ coverage range xs a + coverage range ys a
  coverage-append [] ys a = omega arith
  coverage-append (x ∷ xs) ys a = omega (arith, coverage-append xs ys a)

  pub coverage-without : (p : A → Bool) (x : A) (xs : List A) (a : ℕ) → find p xs ≡ Some x → coverage range xs a ≡ covers (range x) a + coverage range (without p xs) a
  coverage-without p x [] a h = absurd (cc)
  coverage-without p x (y ∷ xs) a h = grind (arith, nat_tests, coverage-without p x xs a)

  -- an element's range has no address that the list's ranges don't have
  pub coverage-IsIn : (x : A) (xs : List A) (a : ℕ) → IsIn x xs → covers (range x) a ≤ coverage range xs a
  coverage-IsIn x [] a h = absurd h
  coverage-IsIn x (y ∷ xs) a (inl e) = let same : covers (range x) a ≡ covers (range y) a = ap (λ z. covers (range z) a) e in omega arith
  coverage-IsIn x (y ∷ xs) a (inr h) = omega (arith, coverage-IsIn x xs a h)

  -- an address that no element's range has
  pub coverage-none : (xs : List A) (a : ℕ) → ((x : A) → IsIn x xs → covers (range x) a ≡ 0) → coverage range xs a ≡ 0
  coverage-none [] a none = refl
  coverage-none (x ∷ xs) a none = omega (arith, none x (inl refl), coverage-none xs a (λ y i. none y (inr i)))

  -- without elements whose ranges don't have the address
  pub coverage-filter : (p : A → Bool) (xs : List A) (a : ℕ) → ((x : A) → IsIn x xs → p x ≡ false → covers (range x) a ≡ 0)
      → coverage range (filter p xs) a ≡ coverage range xs a
  coverage-filter p [] a none = refl
  coverage-filter p (x ∷ xs) a none = grind (arith, nat_tests, coverage-filter p xs a)

  -- an address that some range has
  pub coverage-some : (xs : List A) (a : ℕ) → 1 ≤ coverage range xs a → (x : A) × IsIn x xs × ((range x).start ≤ a) × (a < end_of (range x))
  coverage-some [] a h = absurd (omega arith)
  coverage-some (x ∷ xs) a h = grind (arith, coverage-some xs a, where_is)

  -- an address that at most one range has is in one element's range alone
  pub coverage-unique : (x y : A) (xs : List A) (a : ℕ) → coverage range xs a ≤ 1 → IsIn x xs → IsIn y xs → covers (range x) a ≡ 1 → covers (range y) a ≡ 1
      → x ≡ y
  coverage-unique x y [] a one i j cx cy = absurd i
  coverage-unique x y (z ∷ xs) a one (inl e) (inl f) cx cy = e ∙ sym f
  coverage-unique x y (z ∷ xs) a one (inl e) (inr j) cx cy =
      let same : covers (range x) a ≡ covers (range z) a = ap (λ w. covers (range w) a) e in absurd (omega (arith, coverage-IsIn y xs a j))
  coverage-unique x y (z ∷ xs) a one (inr i) (inl f) cx cy =
      let same : covers (range y) a ≡ covers (range z) a = ap (λ w. covers (range w) a) f in absurd (omega (arith, coverage-IsIn x xs a i))
  coverage-unique x y (z ∷ xs) a one (inr i) (inr j) cx cy = coverage-unique x y xs a (omega arith) i j cx cy
