-- The search for the first class that has free ranges, from a class on, by the bits of the class table.
use Rattle.std.proofs.Common.{◌≡◌, ℕ, ◌+◌, ◌-◌, ◌<◌, ◌≤◌, true, nat_le, true≢false, List, Some, None, slice_index, arith, refl, sym, ◌∙◌}
use Rattle.std.proofs.Common.{ap, inl, inr}
use Rattle.std.proofs.lemmas.Bool.{cases_eq, cases_lt, cond-true, cond-false, eq-eqb, eqb-true, le-leb, lt-leb}
use Rattle.rlsf_base.specs.declared.memory.range.Range.{Range}
use Rattle.rlsf_model_sizes.specs.SizeClass.{class_of, IsAtMost, class_at}
use Rattle.rlsf_base.proofs.SizeClasses.Reach.{division-lt}
use Rattle.rlsf_int.specs.Bits.{bit, IsFirstOne}
use Rattle.rlsf_model.specs.Allocate.{has_class}
use Rattle.rlsf_model.specs.Lists.{IsIn}
use Rattle.rlsf_model.specs.WellFormed.{IsFree}
use Rattle.rlsf_model.proofs.Choices.{has_class-from, has_class-true}
use Rattle.rlsf_table.specs.FreeTable.{IsLeastFrom}
use Rattle.rlsf_table.specs.Table.{Table, is_in_row, HasBits}
use Rattle.rlsf_table.specs.Steps.Places.{scanned_places}
use Rattle.rlsf_table.proofs.Tables.Tests.{list_any-true, list_any-some}

module _ {fllen sllen : ℕ} {t : Table} {free : List Range} (any : 0 < sllen) (bits : HasBits fllen sllen t free)
    (blocks : (f : Range) → IsIn f free → IsFree fllen sllen f) where
  -- the place of a free range in its row
  pub place_lt : (f : Range) → IsIn f free → (class_of sllen f.len).division < sllen
  place_lt f i = division-lt sllen f.len (blocks f i).some any

  -- the bits of a free range
  pub row_bit : (f : Range) → IsIn f free → (row : ℕ) → (class_of sllen f.len).exponent ≡ 5 + row → bit t.first_level row ≡ true
  row_bit f i row at = bits.first row ∙ list_any-true (is_in_row sllen row) free f i (eq-eqb (class_of sllen f.len).exponent (5 + row) at)

  pub place_bit : (f : Range) → IsIn f free → (row : ℕ) → row < fllen → (class_of sllen f.len).exponent ≡ 5 + row
      → bit (slice_index t.second_level row) (class_of sllen f.len).division ≡ true
  place_bit f i row within at = grind (arith, list_any-true, has_class-from)

  -- a range of a class whose bit is set
  pub range_of_place : (row place : ℕ) → row < fllen → bit (slice_index t.second_level row) place ≡ true
      → (f : Range) × IsIn f free × (class_of sllen f.len ≡ class_at row place)
  range_of_place row place within set =
      let (f, i, has) = list_any-some (has_class sllen (class_at row place)) free (sym (bits.second row place within) ∙ set) in
      (f, i, has_class-true sllen (class_at row place) f has)

  -- the place of such a class is in the row
  range-place_lt : (row place : ℕ) → (f : Range) × IsIn f free × (class_of sllen f.len ≡ class_at row place) → place < sllen
  range-place_lt row place (f, i, class) = omega (arith, place_lt f i, ap (λ c. c.division) class)

  -- a range in a row whose bit is set
  pub range_of_row : (row : ℕ) → bit t.first_level row ≡ true → (f : Range) × IsIn f free × ((class_of sllen f.len).exponent ≡ 5 + row)
  range_of_row row set =
      let (f, i, has) = list_any-some (is_in_row sllen row) free (sym (bits.first row) ∙ set) in
      (f, i, eqb-true (class_of sllen f.len).exponent (5 + row) has)

  -- such a row is one of the table's
  pub row_lt : (row : ℕ) → bit t.first_level row ≡ true → row < fllen
  row_lt row set = let (f, i, at) = range_of_row row set in let valid = (blocks f i).valid in omega arith

  -- the scan of a row passed no free range
  pub place_from : {width start place : ℕ} (row : ℕ) → row < fllen → IsFirstOne width (slice_index t.second_level row) start place → (f : Range) → IsIn f free
      → (class_of sllen f.len).exponent ≡ 5 + row → start ≤ (class_of sllen f.len).division
      → place ≤ (class_of sllen f.len).division
  place_from {width} {start} {place} row within scan f i at from = elim (cases_lt (class_of sllen f.len).division place) [
    | inl passed ↦ absurd (true≢false (sym (place_bit f i row within at) ∙ scan.none_before (class_of sllen f.len).division from passed))
    | inr behind ↦ behind
  ]

  -- nor did the scan of the rows
  pub row_behind : {width start row : ℕ} → IsFirstOne width t.first_level start row → (f : Range) → IsIn f free → 5 + start ≤ (class_of sllen f.len).exponent
      → 5 + row ≤ (class_of sllen f.len).exponent
  row_behind {width} {start} {row} scan f i from =
      let own = (class_of sllen f.len).exponent - 5 in
      let at : (class_of sllen f.len).exponent ≡ 5 + own = omega arith in
      elim (cases_lt own row) [
        | inl passed ↦ absurd (true≢false (sym (row_bit f i own at) ∙ scan.none_before own (omega arith) passed))
        | inr behind ↦ omega arith
      ]

  module _ {scanned fl sl place : ℕ} (within : fl < fllen) (scan : IsFirstOne scanned (slice_index t.second_level fl) sl place) where
    -- the scan of the row found a class
    pub IsLeastFrom-own_row : place < scanned → IsLeastFrom fllen sllen fl sl free (Some (record { fl = fl; sl = place }))
    IsLeastFrom-own_row found =
        let one = scan.found found in
        let range = range_of_place fl place within one.1 in (
          within,
          range-place_lt fl place range,
          inr (refl, one.0),
          range,
          λ g j order. elim order [
            | inl less ↦ inl less
            | inr (same, from) ↦ inr (same, place_from fl within scan g j (sym same) from)
          ],
        )

    module _ (few : sllen ≤ scanned) (none : scanned ≤ place) where
      -- it found none, so the class of each range from there on is in a row behind it
      row_after : (f : Range) → IsIn f free → IsAtMost (class_at fl sl) (class_of sllen f.len) → 5 + (fl + 1) ≤ (class_of sllen f.len).exponent
      row_after f i (inl less) = omega arith
      row_after f i (inr (same, from)) = absurd (omega (arith, place_lt f i, place_from fl within scan f i (sym same) from))

      module _ {width row : ℕ} (rows : IsFirstOne width t.first_level (fl + 1) row) where
        -- neither did the scan of the rows
        pub IsLeastFrom-none : fllen ≤ row → IsLeastFrom fllen sllen fl sl free None
        IsLeastFrom-none past f i order = let valid = (blocks f i).valid in let behind = row_behind rows f i (row_after f i order) in omega arith

        -- the scan of the rows found one, and that of it a class
        pub IsLeastFrom-row_behind : row < fllen → fllen ≤ width → {first : ℕ} → IsFirstOne scanned (slice_index t.second_level row) 0 first
            → IsLeastFrom fllen sllen fl sl free (Some (record { fl = row; sl = first }))
        IsLeastFrom-row_behind in_rows fit {first} places =
            let one = rows.found (omega arith) in
            let (f, i, at) = range_of_row row one.1 in
            let before : first ≤ (class_of sllen f.len).division = place_from row in_rows places f i at (omega arith) in
            let set = places.found (omega (arith, place_lt f i)) in
            let range = range_of_place row first in_rows set.1 in (
              in_rows,
              range-place_lt row first range,
              inl (omega (arith, one.0)),
              range,
              λ h k order.
                  let behind = row_behind rows h k (row_after h k order) in
                  elim (cases_eq (class_of sllen h.len).exponent (5 + row)) [
                    | inl same ↦ inr (sym same, place_from row in_rows places h k same (omega arith))
                    | inr apart ↦ inl (omega arith)
                  ],
            )

-- ---- the places that are scanned

-- they are 64 if a row has no more, and else 128
pub scanned_places-few : (sllen : ℕ) → sllen ≤ 64 → scanned_places sllen ≡ 64
scanned_places-few sllen few = cond-true (nat_le sllen 64) 64 128 (le-leb sllen 64 few)

pub scanned_places-many : (sllen : ℕ) → 64 < sllen → scanned_places sllen ≡ 128
scanned_places-many sllen many = cond-false (nat_le sllen 64) 64 128 (lt-leb sllen 64 many)

-- no place of a row is left out
pub scanned_places-whole_row : (sllen : ℕ) → sllen ≤ 128 → sllen ≤ scanned_places sllen
scanned_places-whole_row sllen within = grind (arith, cases_lt, scanned_places-many, scanned_places-few)
