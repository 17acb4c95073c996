-- The newest block of the first class that reaches a size is the one that an allocation takes.
use Rattle.std.proofs.Common.{◌≡◌, ℕ, ◌<◌, true≢false, List, [], ◌∷◌, Some, None, find, arith, refl, sym, ◌∙◌, subst}
use Rattle.rlsf_base.specs.declared.memory.range.Range.{Range}
use Rattle.rlsf_base.specs.SearchStart.{IsSearchStart, NoneReaches}
use Rattle.rlsf_model_sizes.specs.SizeClass.{class_of, IsAtMost, Reaches, class_at}
use Rattle.rlsf_base.specs.Space.{Space}
use Rattle.rlsf_base.proofs.SizeClasses.Reach.{division-lt}
use Rattle.rlsf_model.specs.Allocate.{has_class, choice}
use Rattle.rlsf_model.specs.Lists.{IsIn}
use Rattle.rlsf_model.specs.WellFormed.{IsFree}
use Rattle.rlsf_model.proofs.Choices.{choice-from, choice-from_none, has_class-from, has_class-true}
use Rattle.rlsf_model.proofs.Coverage.{find-some}
use Rattle.rlsf_table.specs.declared.table.ClassIndex.{ClassIndex}
use Rattle.rlsf_table.specs.FreeList.{Links}
use Rattle.rlsf_table.specs.FreeTable.{IsLeastFrom}
use Rattle.rlsf_table.specs.Table.{Table, head_at, of_class, HasLists}
use Rattle.rlsf_table.proofs.Tables.Tests.{list_any-true, list_any-filtered, find-filtered}

module _ (fllen sllen size : ℕ) (any : 0 < sllen) (free : List Range) (blocks : (f : Range) → IsIn f free → IsFree fllen sllen f) where
  -- the place of a free range is in its row
  in_row : (f : Range) → IsIn f free → (class_of sllen f.len).division < sllen
  in_row f i = division-lt sllen f.len (blocks f i).some any

  -- where no class of the rows reaches, none is chosen
  pub choice-past_rows : NoneReaches fllen sllen size → choice sllen size free ≡ None
  choice-past_rows none =
      choice-from_none sllen size free (λ g i reached. let valid = (blocks g i).valid in omega (arith, none (class_of sllen g.len) (in_row g i) reached))

  module _ (at : ℕ × ℕ) (is_at : IsSearchStart fllen sllen size at.0 at.1) where
    -- where no range has a class from where the search begins, none is chosen
    pub choice-none_from : IsLeastFrom fllen sllen at.0 at.1 free None → choice sllen size free ≡ None
    choice-none_from none = choice-from_none sllen size free (λ g i reached. none g i (is_at.first (class_of sllen g.len) (in_row g i) reached))

    -- and else the newest of the least class is chosen
    module _ (to : ClassIndex) (least : IsLeastFrom fllen sllen at.0 at.1 free (Some to)) where
      -- the class's list isn't empty, and its first range is found
      chosen : (m : Space) (head : ℕ) (xs : List Range) → of_class sllen to.fl to.sl free ≡ xs → Links m 0 xs head
          → (f : Range) × (choice sllen size free ≡ Some f) × (f.start ≡ head) × (class_of sllen f.len ≡ class_at to.fl to.sl)
      chosen m head [] none links =
          let (f, i, class) = least.3 in
          let c = class_at to.fl to.sl in
          absurd (true≢false (sym (list_any-true (has_class sllen c) free f i (has_class-from sllen c f class)) ∙ list_any-filtered (has_class sllen c) free none))
      chosen m head (f ∷ fs) some links =
          let c = class_at to.fl to.sl in
          let found : find (has_class sllen c) free ≡ Some f = find-filtered (has_class sllen c) free f fs some in
          let passes = find-some (has_class sllen c) f free found in
          let class : c ≡ class_of sllen f.len = sym (has_class-true sllen c f passes.1) in (
            f,
            choice-from sllen size free f (record {
              is_in = passes.0;
              found = subst (λ d. find (has_class sllen d) free ≡ Some f) class found;
              reached = subst (λ d. Reaches sllen d size) class (is_at.reached c least.1 least.2);
              least = λ g i reached. subst (λ d. IsAtMost d (class_of sllen g.len)) class (least.4 g i (is_at.first (class_of sllen g.len) (in_row g i) reached));
            }),
            sym links.0,
            sym class,
          )

      pub choice-head : (m : Space) (t : Table) → HasLists fllen sllen m t free
          → (f : Range) × (choice sllen size free ≡ Some f) × (f.start ≡ head_at t to.fl to.sl) × (class_of sllen f.len ≡ class_at to.fl to.sl)
      choice-head m t lists = chosen m (head_at t to.fl to.sl) (of_class sllen to.fl to.sl free) refl (lists.links to.fl to.sl least.0 least.1)
