-- The bits of the class table, where a range is put in front of the free ones, or taken out from among them.
use Rattle.std.proofs.Common.{◌≡◌, ◌≢◌, ℕ, ◌+◌, ◌<◌, ◌==◌, Bool, true, false, ◌&&◌, ◌||◌, not, true≢false, List, ◌∷◌, ◌++◌, length}
use Rattle.std.proofs.Common.{slice_index, arith, refl, sym, ◌∙◌, ap, inl}
use Rattle.std.specs.List.{list_any}
use Rattle.std.proofs.Math.Bool.{or_comm, and-true}
use Rattle.std.proofs.lemmas.Bool.{cases_eq, eq-eqb, ne_eqb, and_from, and_left, and_right}
use Rattle.rlsf_base.specs.declared.memory.range.Range.{Range}
use Rattle.rlsf_model_sizes.specs.SizeClass.{SizeClass, class_of, class_at}
use Rattle.rlsf_int.specs.Bits.{bit, bit-zero}
use Rattle.rlsf_int.proofs.Bits.{same_from_ones}
use Rattle.rlsf_model.specs.Allocate.{has_class}
use Rattle.rlsf_model.proofs.Choices.{has_class-from, has_class-true}
use Rattle.rlsf_model.specs.Lists.{IsIn}
use Rattle.rlsf_model.proofs.Coverage.{by_test, IsIn-append_right}
use Rattle.rlsf_table.specs.Table.{Table, is_in_row, HasBits, IsHeadOf}
use Rattle.rlsf_table.proofs.Tables.Tests.{list_any-true, list_any-some, list_any-false, list_any-less_one, list_any-amid, filter-none, list_any-filtered}

-- ---- a bit that is cleared

-- the bit that is cleared has none
pub bit-cleared : (b x : Bool) (i : ℕ) → b ≡ (x && not (i == i)) → b ≡ false
bit-cleared b x i is = is ∙ ap (λ y. x && not y) (eq-eqb i i refl) ∙ and_right x false refl

-- and each other is as it was
pub bit-kept : (b x : Bool) (i j : ℕ) → j ≢ i → b ≡ (x && not (j == i)) → b ≡ x
bit-kept b x i j apart is = is ∙ ap (λ y. x && not y) (ne_eqb j i apart) ∙ and-true x

-- ---- a range of a class

module _ (sllen fl sl : ℕ) (r : Range) (class : class_of sllen r.len ≡ class_at fl sl) where
  -- its row and its place
  row_is : (class_of sllen r.len).exponent ≡ 5 + fl
  row_is = ap (λ c. c.exponent) class

  place_is : (class_of sllen r.len).division ≡ sl
  place_is = ap (λ c. c.division) class

  -- a range of a class is in the class's row
  pub is_in_row-own : is_in_row sllen fl r ≡ true
  is_in_row-own = eq-eqb (class_of sllen r.len).exponent (5 + fl) row_is

  -- and in no other
  pub is_in_row-other : (i : ℕ) → i ≢ fl → is_in_row sllen i r ≡ false
  is_in_row-other i apart = ne_eqb (class_of sllen r.len).exponent (5 + i) (λ e. apart (omega (arith, e, row_is)))

  -- it has the class, and none of another row or place
  pub has_class-own : has_class sllen (class_at fl sl) r ≡ true
  has_class-own = has_class-from sllen (class_at fl sl) r class

  pub has_class-other_row : (i k : ℕ) → i ≢ fl → has_class sllen (class_at i k) r ≡ false
  has_class-other_row i k apart = and_left (is_in_row sllen i r) ((class_of sllen r.len).division == k) (is_in_row-other i apart)

  pub has_class-other_place : (i k : ℕ) → k ≢ sl → has_class sllen (class_at i k) r ≡ false
  has_class-other_place i k apart =
      and_right (is_in_row sllen i r) ((class_of sllen r.len).division == k) (ne_eqb (class_of sllen r.len).division k (λ e. apart (sym e ∙ place_is)))

-- a range in a row has the class at its own place there
pub has_class-in_row : (sllen fl : ℕ) (r : Range) → is_in_row sllen fl r ≡ true → has_class sllen (class_at fl (class_of sllen r.len).division) r ≡ true
has_class-in_row sllen fl r h = and_from (is_in_row sllen fl r) _ h (eq-eqb (class_of sllen r.len).division _ refl)

-- where ranges have a class, they are in its row
pub in_row-from_class : (sllen fl sl : ℕ) (free : List Range) → list_any (has_class sllen (class_at fl sl)) free ≡ true → list_any (is_in_row sllen fl) free ≡ true
in_row-from_class sllen fl sl free h =
    let (r, i, has) = list_any-some (has_class sllen (class_at fl sl)) free h in
    list_any-true (is_in_row sllen fl) free r i (is_in_row-own sllen fl sl r (has_class-true sllen (class_at fl sl) r has))

-- where they are not in a row, they have no class of it
no_class : (sllen fl sl : ℕ) (free : List Range) → list_any (is_in_row sllen fl) free ≡ false → list_any (has_class sllen (class_at fl sl)) free ≡ false
no_class sllen fl sl free none =
    by_test (list_any (has_class sllen (class_at fl sl)) free) (λ e. absurd (true≢false (sym (in_row-from_class sllen fl sl free e) ∙ none))) (λ e. e)

-- where they have no class of a row, they are not in it
pub in_row-none : (sllen fl : ℕ) (free : List Range) → ((sl : ℕ) → list_any (has_class sllen (class_at fl sl)) free ≡ false)
    → list_any (is_in_row sllen fl) free ≡ false
in_row-none sllen fl free none = list_any-false (is_in_row sllen fl) free (λ r i. by_test (is_in_row sllen fl r)
    (λ e. absurd (true≢false
    (sym (list_any-true (has_class sllen (class_at fl (class_of sllen r.len).division)) free r i (has_class-in_row sllen fl r e)) ∙ none (class_of sllen r.len).division)))
    (λ e. e))

-- ---- a range put in front

-- the table t, except for a bit of each level that is set
pub record IsClassSet (fllen : ℕ) (t u : Table) (fl sl : ℕ) : Type 0 where
  pub rows : length u.second_level ≡ fllen
  pub first : (i : ℕ) → bit u.first_level i ≡ (bit t.first_level i || i == fl)
  pub second : (k : ℕ) → bit (slice_index u.second_level fl) k ≡ (bit (slice_index t.second_level fl) k || k == sl)
  pub others : (i : ℕ) → i < fllen → i ≢ fl → slice_index u.second_level i ≡ slice_index t.second_level i

-- the table u of a range and the others
module _ (fllen sllen fl sl : ℕ) (t u : Table) (r : Range) (free : List Range) (class : class_of sllen r.len ≡ class_at fl sl) (set : IsClassSet fllen t u fl sl)
    (bits : HasBits fllen sllen t free) where
  -- the row and the place of the range are those whose bits are set
  put_row : (i : ℕ) → (i == fl) ≡ is_in_row sllen i r
  put_row i = grind (arith, cases_eq, eq-eqb, is_in_row-own, ne_eqb, is_in_row-other)

  put_place : (k : ℕ) → (k == sl) ≡ has_class sllen (class_at fl k) r
  put_place k = grind (arith, cases_eq, eq-eqb, has_class-own, ne_eqb, has_class-other_place)

  -- the bits of the row of the range, and then all
  put_own : (k : ℕ) → fl < fllen → bit (slice_index u.second_level fl) k ≡ list_any (has_class sllen (class_at fl k)) (r ∷ free)
  put_own k within =
      let rest = list_any (has_class sllen (class_at fl k)) free in
      set.second k ∙ ap (λ b. b || k == sl) (bits.second fl k within) ∙ or_comm rest (k == sl) ∙ ap (λ b. b || rest) (put_place k)

  pub HasBits-put : HasBits fllen sllen u (r ∷ free)
  HasBits-put = grind (arith, or_comm, put_row, cases_eq, slice_index, put_own, has_class-other_row)

-- ---- a range taken out

-- the table t, except for the bits of a row and of a class in it
pub record IsClassCleared (fllen : ℕ) (t u : Table) (fl sl : ℕ) : Type 0 where
  pub rows : length u.second_level ≡ fllen
  pub first : (i : ℕ) → i ≢ fl → bit u.first_level i ≡ bit t.first_level i
  pub places : (k : ℕ) → k ≢ sl → bit (slice_index u.second_level fl) k ≡ bit (slice_index t.second_level fl) k
  pub others : (i : ℕ) → i < fllen → i ≢ fl → slice_index u.second_level i ≡ slice_index t.second_level i

-- the table u of the others than r, if it is right of r's row and class
module _ (fllen sllen fl sl : ℕ) (t u : Table) (r : Range) (before after : List Range) (class : class_of sllen r.len ≡ class_at fl sl)
    (bits : HasBits fllen sllen t (before ++ r ∷ after)) (within : fl < fllen)
    (cleared : IsClassCleared fllen t u fl sl) where
  -- the bits of the row's other classes, and then all, if those of the class and its row are right
  taken_place : (k : ℕ) → k ≢ sl → bit (slice_index u.second_level fl) k ≡ list_any (has_class sllen (class_at fl k)) (before ++ after)
  taken_place k apart =
      cleared.places k apart ∙ bits.second fl k within
      ∙ list_any-less_one (has_class sllen (class_at fl k)) before r after (has_class-other_place sllen fl sl r class fl k apart)

  HasBits-taken : bit u.first_level fl ≡ list_any (is_in_row sllen fl) (before ++ after)
      → bit (slice_index u.second_level fl) sl ≡ list_any (has_class sllen (class_at fl sl)) (before ++ after)
      → HasBits fllen sllen u (before ++ after)
  HasBits-taken row place = grind (arith, cases_eq, list_any-less_one, is_in_row-other, slice_index, taken_place, has_class-other_row)

  -- the bits of the range that was taken out were set
  taken_row : bit t.first_level fl ≡ true
  taken_row =
      bits.first fl ∙ list_any-true (is_in_row sllen fl) (before ++ r ∷ after) r (IsIn-append_right r before (r ∷ after) (inl refl)) (is_in_row-own sllen fl sl r class)

  taken_class : bit (slice_index t.second_level fl) sl ≡ true
  taken_class =
      bits.second fl sl within
      ∙ list_any-true (has_class sllen (class_at fl sl)) (before ++ r ∷ after) r (IsIn-append_right r before (r ∷ after) (inl refl)) (has_class-own sllen fl sl r class)

  module _ (head : ℕ) (is_head : IsHeadOf sllen fl sl head (before ++ after)) where
    -- where ranges of the class are left, its bits stay
    pub HasBits-some_left : head ≢ 0 → bit u.first_level fl ≡ bit t.first_level fl → bit (slice_index u.second_level fl) sl ≡ bit (slice_index t.second_level fl) sl
        → HasBits fllen sllen u (before ++ after)
    HasBits-some_left some row place = grind (arith, by_test, filter-none, HasBits-taken, taken_row, in_row-from_class, taken_class)

    module _ (none : head ≡ 0) (place : bit (slice_index u.second_level fl) sl ≡ false) where
      -- no range of the class is left
      gone : list_any (has_class sllen (class_at fl sl)) (before ++ after) ≡ false
      gone = list_any-filtered (has_class sllen (class_at fl sl)) (before ++ after) (is_head.0 none)

      -- the bit of each class in the row
      left_place : (k : ℕ) → bit (slice_index u.second_level fl) k ≡ list_any (has_class sllen (class_at fl k)) (before ++ after)
      left_place k = grind (arith, cases_eq, slice_index, gone, taken_place)

      -- where none is left, but others in its row, the row's bit stays
      pub HasBits-row_left : slice_index u.second_level fl ≢ 0 → bit u.first_level fl ≡ bit t.first_level fl → HasBits fllen sllen u (before ++ after)
      HasBits-row_left some row =
          let left : list_any (is_in_row sllen fl) (before ++ after) ≡ true = by_test (list_any (is_in_row sllen fl) (before ++ after)) (λ e. e)
          (λ e. absurd (some (same_from_ones (slice_index u.second_level fl) 0 (λ k. left_place k ∙ no_class sllen fl k (before ++ after) e ∙ sym (bit-zero k))))) in
          HasBits-taken (row ∙ taken_row ∙ sym left) (place ∙ sym gone)

      -- and where its row has none, that bit is cleared too
      pub HasBits-none_left : slice_index u.second_level fl ≡ 0 → bit u.first_level fl ≡ false → HasBits fllen sllen u (before ++ after)
      HasBits-none_left empty row =
          HasBits-taken (row ∙ sym (in_row-none sllen fl (before ++ after) (λ k. sym (left_place k) ∙ ap (λ n. bit n k) empty ∙ bit-zero k))) (place ∙ sym gone)

-- ---- a range taken out, while its class has another one

-- where a range of the same class is left, the bits are those of the ranges that are left
pub HasBits-amid : {fllen sllen : ℕ} {t : Table} (before : List Range) (r : Range) (after : List Range) (g : Range) → IsIn g (before ++ after)
    → class_of sllen g.len ≡ class_of sllen r.len
    → HasBits fllen sllen t (before ++ (r ∷ after)) → HasBits fllen sllen t (before ++ after)
HasBits-amid {fllen} {sllen} {t} before r after g i class bits = record {
  rows = bits.rows;
  first = λ fl. bits.first fl ∙ list_any-amid (is_in_row sllen fl) before r after g i (ap (λ c. c.exponent == 5 + fl) class);
  second =
      λ fl sl row. bits.second fl sl row
      ∙ list_any-amid (has_class sllen (class_at fl sl)) before r after g i (ap (λ (c : SizeClass). (c.exponent == 5 + fl && c.division == sl)) class);
}
