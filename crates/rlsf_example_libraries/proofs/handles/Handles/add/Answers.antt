use Rattle.std.proofs.Common.{rules, ◌<◌, arith, ◌∙◌, sym, subst}
use Rattle.std.proofs.lemmas.Grind.{common_steps}
use Rattle.rlsf_example_libraries.specs.Handled.{AreBelow}
use Rattle.rlsf_example_libraries.proofs.Entries.{insert_entry-above, lookup-above, AreBelow-more}
use Rattle.rlsf_example_libraries.proofs.handles.Handles.add.Goals as goal

pub invariant_of-self-2 : goal.invariant_of-self-2
invariant_of-self-2 c =
    let less : c.self.inside.next < c.in_ok-next.next = grind (arith, common_steps) in
    subst (λ es. AreBelow es c.in_ok-next.next) (sym (c.in_ok-insert.ensures.entries ∙ insert_entry-above _ _ _ c.self.invariant))
    (AreBelow-more _ _ _ c.args.spot less c.self.invariant)

pub returns : goal.returns
returns c = record {
  added = rw (← c.self.view_is) (c.in_ok-insert.ensures.entries ∙ insert_entry-above _ _ _ c.self.invariant);
  new = rw (← c.self.view_is) (lookup-above _ _ c.self.invariant);
  counts = search rules;
  refused = search rules;
}
