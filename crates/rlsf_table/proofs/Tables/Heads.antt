-- The heads of the class table, one of which is written.
use Rattle.std.proofs.Common.{◌≡◌, ◌≢◌, ℕ, ◌<◌, List, [], length, slice_index, slice_index_or, slice_set, get_or-set_same, get_or-set_other, length-set, arith}
use Rattle.std.proofs.Common.{◌∙◌, ap, refl, subst}
use Rattle.std.proofs.lemmas.Bool.{cases_eq}
use Rattle.rlsf_table.specs.Table.{Table, HasPlaces, IsHeadSet}

module _ (fllen sllen fl sl head : ℕ) (t u : Table) (row_within : fl < fllen) (place_within : sl < sllen) (rows : length t.heads ≡ fllen)
    (places : HasPlaces fllen sllen t.heads)
    (written : u.heads ≡ slice_set t.heads fl (slice_set (slice_index_or t.heads fl []) sl head)) where
  -- the row of the head, and any other
  row_written : slice_index_or u.heads fl [] ≡ slice_set (slice_index_or t.heads fl []) sl head
  row_written = ap (λ h. slice_index_or h fl []) written ∙ get_or-set_same t.heads fl (slice_set (slice_index_or t.heads fl []) sl head) [] (omega arith)

  row_other : (i : ℕ) → i ≢ fl → slice_index_or u.heads i [] ≡ slice_index_or t.heads i []
  row_other i apart = ap (λ h. slice_index_or h i []) written ∙ get_or-set_other t.heads fl i (slice_set (slice_index_or t.heads fl []) sl head) [] apart

  -- a written head is the only one that changed
  pub IsHeadSet-written : IsHeadSet fllen sllen t u fl sl head
  IsHeadSet-written = grind (arith, length-set, slice_set, slice_index_or, cases_eq, row_written, row_other, slice_index, get_or-set_same, get_or-set_other)

-- the same of the table that a value represented when it was opened
pub IsHeadSet-opened : (fllen sllen fl sl head : ℕ) (inside t u : Table) → inside ≡ t → fl < fllen → sl < sllen → length inside.heads ≡ fllen
    → HasPlaces fllen sllen inside.heads
    → u.heads ≡ slice_set inside.heads fl (slice_set (slice_index_or inside.heads fl []) sl head) → IsHeadSet fllen sllen t u fl sl head
IsHeadSet-opened fllen sllen fl sl head inside t u same row place rows places written =
    subst (λ v. IsHeadSet fllen sllen v u fl sl head) same (IsHeadSet-written fllen sllen fl sl head inside u row place rows places written)

-- and its heads still have their places
pub HasPlaces-written : (fllen sllen fl sl head : ℕ) (heads : List (List ℕ)) → fl < fllen → sl < sllen → length heads ≡ fllen → HasPlaces fllen sllen heads
    → HasPlaces fllen sllen (slice_set heads fl (slice_set (slice_index_or heads fl []) sl head))
HasPlaces-written fllen sllen fl sl head heads row place rows places =
    (IsHeadSet-written fllen sllen fl sl head (record { first_level = 0; second_level = []; heads = heads }) (record { first_level = 0; second_level = []; heads = _ }) row place
    rows places refl).places
