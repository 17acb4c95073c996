use Rattle.std.proofs.Common.{◌<◌, sym, subst}
use Rattle.rlsf_example_libraries.specs.Handled.{AreBelow}
use Rattle.rlsf_example_libraries.proofs.Entries.{AllByRecursion-remove_entry}
use Rattle.rlsf_example_libraries.proofs.handles.Handles.remove.Goals as goal

pub invariant_of-self : goal.invariant_of-self
invariant_of-self c = subst (λ es. AreBelow es c.self.inside.next) (sym c.remove.ensures.entries)
    (AllByRecursion-remove_entry (λ e. e.0 < c.self.inside.next) _ _ c.self.invariant)
