-- Lists of entries, each a handle with a value.
use Rattle.std.proofs.Common.{◌≡◌, ℕ, ◌<◌, Bool, true, false, List, [], ◌∷◌, ◌++◌, None, Some, map, nat_eq, arith, refl, sym, ap, subst, ◌∙◌, Greater}
use Rattle.std.proofs.Common.{inl, inr}
use Rattle.std.proofs.Math.Path.{fun_ext, ap₂}
use Rattle.std.proofs.lemmas.Bool.{cases_Bool, ne_eqb}
use Rattle.std.proofs.lemmas.Option.{none-some}
use Rattle.std.specs.BTreeMap.{insert_entry, is_at}
use Rattle.std.specs.Cmp.{nat_cmp_is, unsigned_ties}
use Rattle.std.specs.List.{AllByRecursion}
use Rattle.std.specs.Map.{lookup, remove_entry, set_value, values_of}
use Rattle.std.specs.Option.{option_map}
use Rattle.std.specs.Ordering.{nat_cmp, match_ordering}
use Rattle.rlsf_example_libraries.specs.Handled.{AreBelow, map_values}

-- a key is the one that is asked for
pub is_at-nat_cmp : (n : ℕ) → is_at (nat_cmp n) ≡ nat_eq n
is_at-nat_cmp n = fun_ext (λ k. sym (unsigned_ties n k))

module _ {A : Type 0} where
  -- ---- a handle above all others

  pub insert_entry-above : (es : List (ℕ × A)) (n : ℕ) (x : A) → AreBelow es n → insert_entry nat_cmp es n x ≡ es ++ (n, x) ∷ []
  insert_entry-above [] n x below = refl
  insert_entry-above (e ∷ es) n x (first, rest) =
      ap (λ o. match_ordering o ((n, x) ∷ e ∷ es) ((e.0, x) ∷ es) (e ∷ insert_entry nat_cmp es n x)) (sym (nat_cmp_is n e.0 Greater first))
      ∙ ap (λ l. e ∷ l) (insert_entry-above es n x rest)

  pub lookup-above : (es : List (ℕ × A)) (n : ℕ) → AreBelow es n → lookup (nat_eq n) es ≡ None
  lookup-above [] n below = refl
  lookup-above (e ∷ es) n (first, rest) = let other : nat_eq n e.0 ≡ false = ne_eqb n e.0 (λ same. omega arith) in rw other (lookup-above es n rest)

  pub AreBelow-more : (es : List (ℕ × A)) (n m : ℕ) (x : A) → n < m → AreBelow es n → AreBelow (es ++ (n, x) ∷ []) m
  AreBelow-more [] n m x less below = (less, tt)
  AreBelow-more (e ∷ es) n m x less (first, rest) = (omega arith, AreBelow-more es n m x less rest)

  -- ---- one entry taken out, or changed

  pub AllByRecursion-remove_entry : (P : ℕ × A → Type 0) (test : ℕ → Bool) (es : List (ℕ × A)) → AllByRecursion P es → AllByRecursion P (remove_entry test es)
  AllByRecursion-remove_entry P test [] all = tt
  AllByRecursion-remove_entry P test (e ∷ es) (first, rest) =
      elim (cases_Bool (test e.0)) [ inl here ↦ rw here rest | inr other ↦ rw other (first, AllByRecursion-remove_entry P test es rest) ]

  pub AllByRecursion-set_value : (P : ℕ × A → Type 0) (test : ℕ → Bool) (es : List (ℕ × A)) (x : A) → ((n : ℕ) (y : A) → P (n, y) → P (n, x))
      → AllByRecursion P es → AllByRecursion P (set_value test es x)
  AllByRecursion-set_value P test [] x keeps all = tt
  AllByRecursion-set_value P test (e ∷ es) x keeps (first, rest) =
      elim (cases_Bool (test e.0)) [ inl here ↦ rw here (keeps e.0 e.1 first, rest) | inr other ↦ rw other (first, AllByRecursion-set_value P test es x keeps rest) ]

  pub AllByRecursion-lookup : (P : A → Type 0) (test : ℕ → Bool) (es : List (ℕ × A)) (x : A) → AllByRecursion (λ e. P e.1) es → lookup test es ≡ Some x → P x
  AllByRecursion-lookup P test [] x all there = absurd (none-some x there)
  AllByRecursion-lookup P test (e ∷ es) x (first, rest) there = elim (cases_Bool (test e.0)) [
    | inl here ↦ let head : Some e.1 ≡ Some x = rw here at there in let same : e.1 ≡ x = cc in subst P same first
    | inr other ↦ AllByRecursion-lookup P test es x rest (rw other at there)
  ]

  pub set_value-absent : (test : ℕ → Bool) (es : List (ℕ × A)) (x : A) → lookup test es ≡ None → set_value test es x ≡ es
  set_value-absent test [] x absent = refl
  set_value-absent test (e ∷ es) x absent = elim (cases_Bool (test e.0)) [
    | inl found ↦ absurd (none-some e.1 (sym (rw found at absent)))
    | inr other ↦ rw other (ap (λ l. e ∷ l) (set_value-absent test es x (rw other at absent)))
  ]

-- the entry whose key passes the test, between those before and those after it
pub record IsFound {A : Type 0} (test : ℕ → Bool) (es : List (ℕ × A)) (x : A) : Type 0 where
  pub before : List (ℕ × A)
  pub after : List (ℕ × A)
  pub key : ℕ
  pub whole : es ≡ before ++ (key, x) ∷ after
  pub less : remove_entry test es ≡ before ++ after
  pub changed : (y : A) → set_value test es y ≡ before ++ (key, y) ∷ after
  pub passes : test key ≡ true
  pub others : AllByRecursion (λ e. test e.0 ≡ false) before

pub found : {A : Type 0} (test : ℕ → Bool) (es : List (ℕ × A)) (x : A) → lookup test es ≡ Some x → IsFound test es x
found test [] x is = absurd (none-some x is)
found test (e ∷ es) x is = elim (cases_Bool (test e.0)) [
  | inl here ↦
      let same : e.1 ≡ x = let head : Some e.1 ≡ Some x = rw here at is in cc in
      record { before = []; after = es; key = e.0; whole = ap (λ y. (e.0, y) ∷ es) same; less = rw here refl; changed = λ y. rw here refl; passes = here; others = tt }
  | inr other ↦
      let f : IsFound test es x = found test es x (rw other at is) in
      record {
        before = e ∷ f.before;
        after = f.after;
        key = f.key;
        whole = ap (λ l. e ∷ l) f.whole;
        less = rw other (ap (λ l. e ∷ l) f.less);
        changed = λ y. rw other (ap (λ l. e ∷ l) (f.changed y));
        passes = f.passes;
        others = (other, f.others);
      }
]

-- ---- with f of each value

module _ {A B : Type 0} (f : A → B) where
  pub lookup-map_values : (test : ℕ → Bool) (es : List (ℕ × A)) → lookup test (map_values f es) ≡ option_map f (lookup test es)
  lookup-map_values test [] = refl
  lookup-map_values test (e ∷ es) = elim (cases_Bool (test e.0)) [ inl here ↦ rw here refl | inr other ↦ rw other (lookup-map_values test es) ]

  pub remove_entry-map_values : (test : ℕ → Bool) (es : List (ℕ × A)) → remove_entry test (map_values f es) ≡ map_values f (remove_entry test es)
  remove_entry-map_values test [] = refl
  remove_entry-map_values test (e ∷ es) = elim (cases_Bool (test e.0)) [
    | inl here ↦ rw here refl
    | inr other ↦ rw other
        (ap (λ l. (e.0, f e.1) ∷ l) (remove_entry-map_values test es))
  ]

-- the value of a key that none before it passes for
pub set_value-middle : {A B : Type 0} (f : A → B) (test : ℕ → Bool) (before after : List (ℕ × A)) (key : ℕ) (x : A) (y : B)
    → AllByRecursion (λ e. test e.0 ≡ false) before → test key ≡ true
    → set_value test (map_values f (before ++ (key, x) ∷ after)) y ≡ map_values f before ++ (key, y) ∷ map_values f after
set_value-middle f test [] after key x y others passes = rw passes refl
set_value-middle f test (e ∷ es) after key x y (first, rest) passes = rw first (ap (λ l. (e.0, f e.1) ∷ l) (set_value-middle f test es after key x y rest passes))

-- two functions that agree on the values
pub map_values-same : {A B : Type 0} (f g : A → B) (es : List (ℕ × A)) → map f (values_of es) ≡ map g (values_of es) → map_values f es ≡ map_values g es
map_values-same f g [] same = refl
map_values-same f g (e ∷ es) same =
    let first : f e.1 ≡ g e.1 = cc in
    let rest : map f (values_of es) ≡ map g (values_of es) = cc in
    ap₂ (λ y l. (e.0, y) ∷ l) first (map_values-same f g es rest)
