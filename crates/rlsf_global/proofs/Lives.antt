-- A call that names an address is refused as unknown exactly where no payload is.
use Rattle.std.proofs.Common.{◌≡◌, ◌↔◌, ℕ, Bool, true, false, true≢false, List, Option, None, Some, is_some, Result, Err, IsErrOf, IsSome, refl, subst, sym, ◌∙◌, ap}
use Rattle.std.proofs.lemmas.Option.{none-some}
use Rattle.rlsf_flex.specs.StandsFor.{FlexContents}
use Rattle.rlsf_global.proofs.Layouts.{layout_at-none, layout_at-some}
use Rattle.rlsf_global.specs.Locked.{heap_of}
use Rattle.rlsf_model_global.specs.Cursor.{PageCursor}
use Rattle.rlsf_model_global.specs.Heap.{layout_at}
use Rattle.rlsf_model_global.specs.Rows.{Row, row_at}
use Rattle.rlsf_model_global.specs.declared.error.GlobalError.{GlobalError}
use Rattle.rlsf_model_global.specs.declared.error.GlobalError.TheVariants.{UnknownAddress}

-- the answer is that the address is unknown
abbrev pub is_unknown : {A : Type 0} → Result A GlobalError → Bool
is_unknown (Err UnknownAddress) = true
is_unknown r = false

module _ (f : FlexContents PageCursor) (rows : List Row) (addr : ℕ) where
  -- no entry has the address
  pub unknown : {A : Type 0} → row_at addr rows ≡ None → IsErrOf {T = A} (Err UnknownAddress) UnknownAddress ↔ (layout_at (heap_of f rows) addr ≡ None)
  unknown gone = ((λ is. layout_at-none (heap_of f rows) addr gone), (λ none. refl))

  -- an entry that was found has it
  pub known : {A : Type 0} (row : Row) → row_at addr rows ≡ Some row → (r : Result A GlobalError) → is_unknown r ≡ false
      → IsErrOf r UnknownAddress ↔ (layout_at (heap_of f rows) addr ≡ None)
  known row there r other = (
    (λ is. absurd (true≢false (sym (ap is_unknown is) ∙ other))),
    (λ none. absurd (none-some row.1 (sym none ∙ layout_at-some (heap_of f rows) addr row there))),
  )

-- an entry that was found is one
pub has_row : (rows : List Row) (addr : ℕ) (row : Row) → row_at addr rows ≡ Some row → IsSome (row_at addr rows)
has_row rows addr row there = subst IsSome (sym there) refl

-- what a test for an entry shows
pub found_row : (rows : List Row) (addr : ℕ) → true ≡ is_some (row_at addr rows) → (row : Row) × (row_at addr rows ≡ Some row)
found_row rows addr = by (row_at addr rows)
  where
    by : (o : Option Row) → true ≡ is_some o → (row : Row) × (o ≡ Some row)
    by None e = absurd (true≢false e)
    by (Some row) e = (row, refl)

pub no_row_found : (rows : List Row) (addr : ℕ) → false ≡ is_some (row_at addr rows) → row_at addr rows ≡ None
no_row_found rows addr = by (row_at addr rows)
  where
    by : (o : Option Row) → false ≡ is_some o → o ≡ None
    by None e = refl
    by (Some row) e = absurd (true≢false (sym e))
