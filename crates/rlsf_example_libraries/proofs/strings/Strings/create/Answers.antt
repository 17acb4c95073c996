use Rattle.std.proofs.Common.{arith, sym, subst}
use Rattle.rlsf_example_libraries.specs.Budgets.{AreFewStrings}
use Rattle.rlsf_example_libraries.proofs.Rooms.{HasBudgetOf-strings}
use Rattle.rlsf_example_libraries.proofs.strings.Strings.create.Goals as goal

pub returns-clause-enough : goal.returns-clause-enough
returns-clause-enough c = λ count longest few refused.
    let items = c.self.inside.items in
    c.add.ensures.enough count longest (HasBudgetOf-strings items items.next count longest c.self.invariant
    (subst (λ t. AreFewStrings t count longest) (sym c.self.view_is) few)) (omega arith) refused
