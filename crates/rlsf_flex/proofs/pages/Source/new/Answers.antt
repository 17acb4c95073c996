use Rattle.std.proofs.Common.{◌≡◌, ◌<◌, min, arith, lit<, ap, sym, subst, ◌∙◌}
use Rattle.rlsf_base.specs.Range.{end_of}
use Rattle.rlsf_model_sizes.specs.Rounding.{round32}
use Rattle.rlsf_model_global.proofs.Cursors.{first_cursor}
use Rattle.rlsf_model_global.specs.Cursor.{first_page, page_cursor}
use Rattle.rlsf_model_global.specs.Pages.{IsPageCursor}
use Rattle.rlsf_flex.proofs.pages.Source.new.Given as given
use Rattle.rlsf_flex.proofs.pages.Source.new.Goals as goal
use Rattle.rlsf_flex.proofs.pages.Source.new.Goals.{in-Some, in-None}

-- the cursor begins at the first page
at_first : (g : given.Over) (c : goal.Joined-checked_next_multiple_of g) → c.match-checked_next_multiple_of.at ≡ first_page c.args.space
at_first g c = elim c.match-checked_next_multiple_of.branch [
  | in-Some w ↦ w.at-is ∙ w.min-at.ensures ∙ ap (λ n. min n (end_of c.args.space)) w.in-Some.ensures.1
  | in-None w ↦ omega (arith, w.at-is, λ (fits : round32 c.args.space.start < 18446744073709551616). w.in-None.ensures (lit< tt, fits), c.requires)
]

pub invariant_of-result : goal.invariant_of-result
invariant_of-result g c = subst (λ at. IsPageCursor (page_cursor c.args.space at g.Options.GlobalTlsfOptions.COALESCE_POOLS)) (sym (at_first g c))
    (first_cursor c.args.space g.Options.GlobalTlsfOptions.COALESCE_POOLS c.requires)

pub returns : goal.returns
returns g c = record {
  value = ap (λ at. page_cursor c.args.space at g.Options.GlobalTlsfOptions.COALESCE_POOLS) (at_first g c);
  owed = record { cursor = invariant_of-result g c; start = λ r i. absurd i; end = λ r i. absurd i; aligned = λ r i. absurd i; disjoint = λ a. omega arith };
}
