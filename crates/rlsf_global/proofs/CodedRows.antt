-- Codes and their entries.
use Rattle.std.proofs.Common.{◌≡◌, ◌≢◌, ◌⊎◌, ℕ, ◌+◌, ◌*◌, ◌^◌, ◌-◌, ◌/◌, ◌%◌, ◌<◌, ◌≤◌, ◌==◌, not}
use Rattle.std.proofs.Common.{Bool, ◌&&◌, nat_le, true, false, List, [], ◌∷◌, get_or, length, Option, Some, None, IsSome, is_some}
use Rattle.std.proofs.Common.{if◌then◌else◌, arith, refl, sym, ap, subst, inl, inr, ◌∙◌}
use Rattle.std.proofs.lemmas.Bool.{cases_eq}
use Rattle.std.proofs.lemmas.Bool.Decides.{eqb_tells, nat_tests}
use Rattle.std.proofs.lemmas.List.{get_or_past}
use Rattle.std.specs.Vec.{vec_capacity}
use Rattle.rlsf_codes.specs.Codes.{CodeSpace, HasCapacity, HasPlace, code_at, code_space, codes_for}
use Rattle.rlsf_codes.specs.declared.codes.Codes.{Codes}
use Rattle.rlsf_global.specs.LiveRows.{AreAddresses, AreCoded, IsLiveTable, code_in, code_of}
use Rattle.rlsf_model.specs.Lists.{IsIn}
use Rattle.rlsf_model_global.proofs.Maps.{row_at-put_here, row_at-put_other, row_at-without_here, row_at-without_other}
use Rattle.rlsf_model_global.proofs.Rows.{IsIn-put, IsIn-without_row, absent-row_at, put-sorted, without_row-sorted, clash}
use Rattle.rlsf_model_global.specs.Rows.{IsSorted, Row, key, put, row_at, without_row}

-- ---- the entry of an address

pub row_at-in : (a : ℕ) (rows : List Row) (r : Row) → row_at a rows ≡ Some r → IsIn r rows × (key r ≡ a)
row_at-in a [] r e = cc
row_at-in a (x ∷ rows) r e = grind (arith, eqb_tells, row_at-in a rows r)

pub row_at-of : (rows : List Row) (r : Row) → IsSorted rows → IsIn r rows → row_at (key r) rows ≡ Some r
row_at-of [] r s i = absurd i
row_at-of (x ∷ rows) r s i = grind (arith, eqb_tells, row_at-of rows r s.1)

-- ---- the code of an address

-- an address with a code has a place
has_place : (c : Codes ℕ) (a : ℕ) → c.none ≡ 0 → code_at c a ≢ 0 → HasPlace c a
has_place c a zero some =
    let past = get_or_past c.codes.items (a / 16 - c.first) c.none in
    (grind (arith, nat_tests), grind (arith, nat_tests), grind (arith, nat_tests, past))

-- the code at a place
pub code_at-place : (c : Codes ℕ) (a place : ℕ) → a ≡ (c.first + place) * 16 → code_at c a ≡ get_or c.codes.items place c.none
code_at-place c a place is =
    let whole : a % 16 ≡ 0 = omega arith in
    let quotient : a / 16 ≡ c.first + place = omega arith in
    let there : a / 16 - c.first ≡ place = omega arith in
    let low : c.first ≤ a / 16 = omega arith in
    subst (λ n. code_at c a ≡ get_or c.codes.items n c.none) there (grind (arith, nat_tests))

code_in-some : (o : Option Row) → IsSome o → code_in o ≢ 0
code_in-some None some = cc
code_in-some (Some r) some = λ none. omega (arith, none)

-- no entry is where no code is
pub code_in-none : (o : Option Row) → code_in o ≡ 0 → o ≡ None
code_in-none None e = refl
code_in-none (Some r) e = absurd (omega (arith, e))

-- whether one is there
pub code_in-tells : (n : ℕ) (o : Option Row) → n ≡ code_in o → not (n == 0) ≡ is_some o
code_in-tells n None e = grind (arith, nat_tests)
code_in-tells n (Some r) e = grind (arith, nat_tests)

pub coded-place : (c : Codes ℕ) (rows : List Row) → AreCoded c rows → (a : ℕ) → IsSome (row_at a rows) → HasPlace c a
unfolding AreCoded
coded-place c rows coded a some = has_place c a coded.0 (λ none. code_in-some (row_at a rows) some (sym (coded.1 a) ∙ none))

pub coded-none : (c : Codes ℕ) → c.none ≡ 0 → length c.codes.items ≡ 0 → AreCoded c []
unfolding AreCoded
coded-none c zero none = (zero, λ a. let past = get_or_past c.codes.items (a / 16 - c.first) c.none in grind (arith, nat_tests, past))

pub coded-at : (c : Codes ℕ) (rows : List Row) → AreCoded c rows → (a : ℕ) → code_at c a ≡ code_in (row_at a rows)
unfolding AreCoded
coded-at c rows coded = coded.1

module _ (c e : Codes ℕ) (rows : List Row) (coded : AreCoded c rows) (space : code_space e ≡ code_space c) where
  zero_same : e.none ≡ 0
  unfolding AreCoded
  zero_same = ap (λ (s : CodeSpace ℕ). s.none) space ∙ coded.0

  pub coded-same : ((a : ℕ) → code_at e a ≡ code_at c a) → AreCoded e rows
  unfolding AreCoded
  coded-same same = (zero_same, λ a. same a ∙ coded.1 a)

  pub coded-put : (row : Row) → code_at e (key row) ≡ code_of row.1 → ((a : ℕ) → a ≢ key row → code_at e a ≡ code_at c a) → AreCoded e (put row rows)
  unfolding AreCoded
  coded-put row here others = (
    zero_same,
    λ a. elim (cases_eq a (key row)) [
      | inl same ↦ ap (code_at e) same ∙ here ∙ ap code_in (sym (ap (λ b. row_at b (put row rows)) same ∙ row_at-put_here row rows))
      | inr other ↦ others a other ∙ coded.1 a ∙ ap code_in (sym (row_at-put_other row rows a other))
    ],
  )

  pub coded-without : (addr : ℕ) → code_at e addr ≡ 0 → ((a : ℕ) → a ≢ addr → code_at e a ≡ code_at c a) → AreCoded e (without_row addr rows)
  unfolding AreCoded
  coded-without addr here others = (
    zero_same,
    λ a. elim (cases_eq a addr) [
      | inl same ↦ ap (code_at e) same ∙ here ∙ ap code_in (sym (ap (λ b. row_at b (without_row addr rows)) same ∙ row_at-without_here addr rows))
      | inr other ↦ others a other ∙ coded.1 a ∙ ap code_in (sym (row_at-without_other addr rows a other))
    ],
  )

  pub coded-replaced : (row : Row) → code_at e (key row) ≡ code_of row.1 → ((a : ℕ) → a ≢ key row → code_at e a ≡ code_at c a)
      → AreCoded e (put row (without_row (key row) rows))
  unfolding AreCoded
  coded-replaced row here others = (
    zero_same,
    λ a. elim (cases_eq a (key row)) [
      | inl same ↦ ap (code_at e) same ∙ here
          ∙ ap code_in (sym (ap (λ b. row_at b (put row (without_row (key row) rows))) same ∙ row_at-put_here row (without_row (key row) rows)))
      | inr other ↦ others a other ∙ coded.1 a
          ∙ ap code_in (sym (row_at-put_other row (without_row (key row) rows) a other ∙ row_at-without_other (key row) rows a other))
    ],
  )

-- ---- how many entries there are

pub length-put : (row : Row) (rows : List Row) → row_at (key row) rows ≡ None → length (put row rows) ≡ length rows + 1
length-put row [] none = refl
length-put row (r ∷ rows) none = grind (arith, length-put row rows)

-- no more than one more, whether the address has an entry or not
pub length-put_most : (row : Row) (rows : List Row) → length (put row rows) ≤ length rows + 1
length-put_most row [] = omega arith
length-put_most row (r ∷ rows) = grind (arith, length-put_most row rows)

-- one less, if the address has an entry
length-without_most : (a : ℕ) (rows : List Row) → length (without_row a rows) ≤ length rows
length-without_most a [] = omega arith
length-without_most a (r ∷ rows) = grind (arith, length-without_most a rows)

pub length-without_less : (a : ℕ) (rows : List Row) → IsSome (row_at a rows) → length (without_row a rows) + 1 ≤ length rows
length-without_less a [] some = cc
length-without_less a (r ∷ rows) some = grind (arith, length-without_most, length-without_less a rows)

without-absent : (a : ℕ) (rows : List Row) → ((r : Row) → IsIn r rows → key r ≢ a) → without_row a rows ≡ rows
without-absent a [] n = refl
without-absent a (r ∷ rows) n = by (key r == a) (eqb_tells (key r) a) (without-absent a rows (λ x i. n x (inr i)))
  where
    by : (eq : Bool) → ((eq ≡ true) × (key r ≡ a)) ⊎ ((eq ≡ false) × (key r ≢ a)) → without_row a rows ≡ rows
        → (if not eq then r ∷ without_row a rows else without_row a rows) ≡ r ∷ rows
    by true (inl (_, same)) rest = absurd (n r (inl refl) same)
    by true (inr (off, _)) rest = clash off
    by false t rest = ap (λ xs. r ∷ xs) rest

pub length-without : (a : ℕ) (rows : List Row) → IsSorted rows → IsSome (row_at a rows) → length (without_row a rows) + 1 ≡ length rows
length-without a [] s some = cc
length-without a (r ∷ rows) s some = grind (arith, eqb_tells, without-absent, length-without a rows s.1)

-- ---- their order and their addresses

pub sorted-put : (row : Row) (rows : List Row) → IsSorted rows → row_at (key row) rows ≡ None → IsSorted (put row rows)
sorted-put row rows sorted none = put-sorted row rows sorted (absent-row_at (key row) rows none)

pub sorted-replaced : (row : Row) (rows : List Row) → IsSorted rows → IsSorted (put row (without_row (key row) rows))
sorted-replaced row rows sorted =
    sorted-put row (without_row (key row) rows) (without_row-sorted (key row) rows sorted) (row_at-without_here (key row) rows)

pub length-replaced : (row : Row) (rows : List Row) → IsSorted rows → IsSome (row_at (key row) rows)
    → length (put row (without_row (key row) rows)) ≡ length rows
length-replaced row rows sorted some =
    length-put row (without_row (key row) rows) (row_at-without_here (key row) rows) ∙ length-without (key row) rows sorted some

pub addresses-none : AreAddresses []
unfolding AreAddresses
addresses-none r i = absurd i

pub addresses-put : (row : Row) (rows : List Row) → key row < 2 ^ 64 → AreAddresses rows → AreAddresses (put row rows)
unfolding AreAddresses
addresses-put row rows fits all r i = elim (IsIn-put r row rows i) [ inl e ↦ subst (λ x. key x < 2 ^ 64) (sym e) fits | inr j ↦ all r j ]

pub addresses-without : (a : ℕ) (rows : List Row) → AreAddresses rows → AreAddresses (without_row a rows)
unfolding AreAddresses
addresses-without a rows all r i = all r (IsIn-without_row r a rows i).0

pub address-fits : (a : ℕ) (rows : List Row) → AreAddresses rows → (r : Row) → row_at a rows ≡ Some r → a < 2 ^ 64
unfolding AreAddresses
address-fits a rows all r e = let found = row_at-in a rows r e in subst (λ n. n < 2 ^ 64) found.1 (all r found.0)

-- ---- what is true of a table

-- one with an entry is counted
pub some-live : (addr : ℕ) (rows : List Row) → IsSome (row_at addr rows) → 0 < length rows
some-live addr [] some = cc
some-live addr (r ∷ rows) some = omega arith

-- a table without entries
pub kept-none : (c : Codes ℕ) (start len : ℕ) → length c.codes.items ≡ 0 → code_space c ≡ codes_for start len 0 → (rows : List Row) → rows ≡ [] → IsLiveTable c rows 0
kept-none c start len none space rows is =
    subst (λ xs. IsLiveTable c xs 0) (sym is) (record {
      coded = coded-none c (ap (λ (s : CodeSpace ℕ). s.none) space) none;
      sorted = tt;
      addresses = addresses-none;
      counted = refl;
      ready = λ some. absurd (omega (arith, some));
    })

-- where an entry is, there is room for all codes
pub kept-ready : (c : Codes ℕ) (rows : List Row) (live : ℕ) → IsLiveTable c rows live → (addr : ℕ) → IsSome (row_at addr rows) → HasCapacity c
kept-ready c rows live kept addr some = let few = some-live addr rows some in let count = kept.counted in kept.ready (omega (arith, few, count))

module _ (c e : Codes ℕ) (rows : List Row) (live : ℕ) (kept : IsLiveTable c rows live) (space : code_space e ≡ code_space c) where
  -- there may be more room for codes
  pub kept-reserved : e.codes.items ≡ c.codes.items → (HasCapacity c → HasCapacity e) → IsLiveTable e rows live
  kept-reserved codes more = record {
    coded = coded-same c e rows kept.coded space
        (λ a i. if (a % 16 == 0) && nat_le (space i).first (a / 16) then get_or (codes i) (a / 16 - (space i).first) (space i).none else (space i).none);
    sorted = kept.sorted;
    addresses = kept.addresses;
    counted = kept.counted;
    ready = λ some. more (kept.ready some);
  }

  -- the code of one address was set, and there is room for all codes
  module _ (n code : ℕ) (here : code_at e n ≡ code) (others : (a : ℕ) → a ≢ n → code_at e a ≡ code_at c a) (room : HasCapacity e) where
    with_rows : (after : List Row) (live' : ℕ) → AreCoded e after → IsSorted after → AreAddresses after → live' ≡ length after → IsLiveTable e after live'
    with_rows after live' coded sorted addresses counted = record {
      coded = coded;
      sorted = sorted;
      addresses = addresses;
      counted = counted;
      ready = λ some. room;
    }

    pub kept-put : (row : Row) → n ≡ key row → code ≡ code_of row.1 → row_at (key row) rows ≡ None → key row < 2 ^ 64 → (after : List Row)
        → after ≡ put row rows → IsLiveTable e after (live + 1)
    kept-put row is made fresh fits after e' =
        let now : code_at e (key row) ≡ code_of row.1 = subst (λ m. code_at e m ≡ code_of row.1) is (here ∙ made) in
        let longer = length-put row rows fresh in
        let count = kept.counted in
        subst (λ xs. IsLiveTable e xs (live + 1)) (sym e') (with_rows (put row rows) (live + 1)
        (coded-put c e rows kept.coded space row now (subst (λ m. (a : ℕ) → a ≢ m → code_at e a ≡ code_at c a) is others))
        (sorted-put row rows kept.sorted fresh) (addresses-put row rows fits kept.addresses) (omega (arith, longer, count)))

    pub kept-without : (addr : ℕ) → n ≡ addr → code ≡ 0 → IsSome (row_at addr rows) → (after : List Row) → after ≡ without_row addr rows
        → IsLiveTable e after (live - 1)
    kept-without addr is zero some after e' =
        let now : code_at e addr ≡ 0 = subst (λ m. code_at e m ≡ 0) is (here ∙ zero) in
        let shorter = length-without addr rows kept.sorted some in
        let count = kept.counted in
        subst (λ xs. IsLiveTable e xs (live - 1)) (sym e') (with_rows (without_row addr rows) (live - 1)
        (coded-without c e rows kept.coded space addr now (subst (λ m. (a : ℕ) → a ≢ m → code_at e a ≡ code_at c a) is others))
        (without_row-sorted addr rows kept.sorted) (addresses-without addr rows kept.addresses) (omega (arith, shorter, count)))

    pub kept-replaced : (row : Row) → n ≡ key row → code ≡ code_of row.1 → IsSome (row_at (key row) rows) → key row < 2 ^ 64 → (after : List Row)
        → after ≡ put row (without_row (key row) rows) → IsLiveTable e after live
    kept-replaced row is made some fits after e' =
        let now : code_at e (key row) ≡ code_of row.1 = subst (λ m. code_at e m ≡ code_of row.1) is (here ∙ made) in
        let same = length-replaced row rows kept.sorted some in
        let rest = without_row (key row) rows in
        subst (λ xs. IsLiveTable e xs live) (sym e') (with_rows (put row rest) live
        (coded-replaced c e rows kept.coded space row now (subst (λ m. (a : ℕ) → a ≢ m → code_at e a ≡ code_at c a) is others))
        (sorted-replaced row rows kept.sorted) (addresses-put row rest fits (addresses-without (key row) rows kept.addresses))
        (kept.counted ∙ sym same))

-- a code was read
pub kept-looked : (c e : Codes ℕ) (rows : List Row) (live : ℕ) → IsLiveTable c rows live → code_space e ≡ code_space c → e.codes ≡ c.codes → IsLiveTable e rows live
kept-looked c e rows live kept space codes =
    kept-reserved c e rows live kept space (ap (λ v. v.items) codes)
    (λ room. let count = ap (λ (s : CodeSpace ℕ). s.count) space in let room' = ap vec_capacity codes in omega (arith, room, count, room'))
