-- What is read of the class table of a value, in terms of the state that it represents.
use Rattle.std.proofs.Common.{◌≡◌, ℕ, ◌+◌, ◌<◌, ◌≤◌, false, List, [], ◌∷◌, Option, Some, MatchOption, option_map, slice_index, arith, refl, sym}
use Rattle.std.proofs.Common.{◌∙◌, ap, subst, inl}
use Rattle.std.specs.Int.NonZero.{non_zero_usize_get}
use Rattle.std.specs.List.{list_any}
use Rattle.std.specs.declared.num.NonZeroUsize.{NonZeroUsize}
use Rattle.std.proofs.lemmas.Bool.{cases_lt, ne_eqb, and_right}
use Rattle.rlsf_base.specs.declared.memory.range.Range.{Range}
use Rattle.rlsf_model_sizes.specs.SizeClass.{class_of, class_at}
use Rattle.rlsf_base.specs.Space.{Space}
use Rattle.rlsf_base.proofs.SizeClasses.Reach.{division-lt}
use Rattle.rlsf_int.specs.Bits.{bit}
use Rattle.rlsf_model.specs.Allocate.{has_class}
use Rattle.rlsf_model.specs.Lists.{IsIn}
use Rattle.rlsf_model.specs.State.{State}
use Rattle.rlsf_table.specs.FreeList.{Links}
use Rattle.rlsf_table.specs.Table.{head_at, is_in_row, newest_of, of_class}
use Rattle.rlsf_table.proofs.FreeLists.Classes.{IsIn-of_class}
use Rattle.rlsf_table.proofs.Tables.Tests.{list_any-false}
use Rattle.rlsf_blocks.specs.StandsFor.{Contents, StandsFor}
use Rattle.rlsf_blocks.proofs.Words.Apart.{free_in_memory}
use Rattle.rlsf_blocks.proofs.Words.NonZeroNumbers.{number}

-- the address of the first of some ranges that are linked, as a number that is not 0
newest_of-Links : (m : Space) (xs : List Range) (head : ℕ) (o : Option NonZeroUsize) → MatchOption o (head ≡ 0) (λ x. non_zero_usize_get x ≡ head) → Links m 0 xs head
    → ((f : Range) → IsIn f xs → 0 < f.start)
    → option_map non_zero_usize_get o ≡ newest_of xs
newest_of-Links m [] head o is links some = (number o head is).0 links
newest_of-Links m (f ∷ fs) head o is links some = (number o head is).1 (omega (arith, links.0, some f (inl refl))) ∙ ap (λ n. Some n) links.0

module _ (fllen sllen : ℕ) (v : Contents) (s : State) (stands : StandsFor fllen sllen v s) where
  -- no range is in a row past the last one
  past_rows : (fl : ℕ) → fllen ≤ fl → list_any (is_in_row sllen fl) s.free ≡ false
  past_rows fl past = list_any-false (is_in_row sllen fl) s.free (λ f i.
      ne_eqb (class_of sllen f.len).exponent (5 + fl) (λ same. let valid = (stands.well_formed.free f i).valid in omega (arith, valid, same)))

  -- the first level, read row by row
  pub rows_of-first_level : (read : ℕ) → ((fl : ℕ) → fl < fllen → bit read fl ≡ bit v.table.first_level fl) → ((fl : ℕ) → fllen ≤ fl → bit read fl ≡ false)
      → (fl : ℕ) → bit read fl ≡ list_any (is_in_row sllen fl) s.free
  rows_of-first_level read within past fl = grind (arith, cases_lt, past_rows)

module _ (fllen sllen : ℕ) (v : Contents) (s : State) (stands : StandsFor fllen sllen v s) (fl : ℕ) (row : fl < fllen) where
  -- no free range begins at 0
  some : (f : Range) → IsIn f s.free → 0 < f.start
  some f i = omega (arith, stands.nonzero, (free_in_memory stands.well_formed f i).0)

  -- the head of a class is where its newest free range begins
  pub newest_of-head : (sl : ℕ) → sl < sllen → (o : Option NonZeroUsize) (head : ℕ) → head ≡ head_at v.table fl sl
      → MatchOption o (head ≡ 0) (λ x. non_zero_usize_get x ≡ head)
      → option_map non_zero_usize_get o ≡ newest_of (of_class sllen fl sl s.free)
  newest_of-head sl place o head same is =
      let ranges = of_class sllen fl sl s.free in
      newest_of-Links v.memory ranges head o is (subst (Links v.memory 0 ranges) (sym same) (stands.table.lists.links fl sl row place))
      (λ f i. some f ((IsIn-of_class sllen fl sl f s.free i).0))

  -- no range has a place past the row
  past_row : (sl : ℕ) → sllen ≤ sl → list_any (has_class sllen (class_at fl sl)) s.free ≡ false
  past_row sl past = grind (arith, list_any-false, and_right, ne_eqb, division-lt, some)

  -- the row's word, read place by place
  pub places_of-row : (read : ℕ) → ((sl : ℕ) → sl < sllen → bit read sl ≡ bit (slice_index v.table.second_level fl) sl)
      → ((sl : ℕ) → sllen ≤ sl → bit read sl ≡ false)
      → (sl : ℕ) → bit read sl ≡ list_any (has_class sllen (class_at fl sl)) s.free
  places_of-row read within past sl = grind (arith, cases_lt, past_row)
