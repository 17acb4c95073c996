use Rattle.std.proofs.Common.{length, sym, subst}
use Rattle.rlsf_example_libraries.specs.Budgets.{AreFewStrings}
use Rattle.rlsf_example_libraries.specs.Strings.{IsShortWith}
use Rattle.rlsf_example_libraries.proofs.Rooms.{HasBudgetOf-strings}
use Rattle.rlsf_example_libraries.proofs.strings.Strings.append.Goals as goal

pub returns-clause-enough : goal.returns-clause-enough
returns-clause-enough c = λ count longest few short refused.
    let items = c.self.inside.items in
    c.append.ensures.enough count longest (HasBudgetOf-strings items items.next count longest c.self.invariant
    (subst (λ t. AreFewStrings t count longest) (sym c.self.view_is) few))
    (subst (λ t. IsShortWith t c.args.handle (length c.args.more.now) longest) (sym c.self.view_is) short) refused
