use Rattle.std.proofs.Common.{rules, nat_eq, refl, sym, ap, subst, ◌∙◌}
use Rattle.std.specs.Map.{remove_entry}
use Rattle.rlsf_base.specs.Space.{range_of}
use Rattle.rlsf_example_libraries.specs.Handled.{handled, IsHandled, lists_in}
use Rattle.rlsf_example_libraries.proofs.HandledStores.{Shows, absent, stored_at}
use Rattle.rlsf_example_libraries.proofs.items.Items.remove.Goals as goal

pub invariant_of-self : goal.invariant_of-self
invariant_of-self c = subst (λ h. IsHandled c.self.inside.store c.self.inside.align h.rows) (sym c.in_default.ensures.absent) c.self.invariant

pub returns-in_default : goal.returns-in_default
returns-in_default c = record {
  removed = search rules;
  unknown =
      let none = absent c.self.inside.store c.self.inside.align c.self.inside.handles.rows c.args.handle (sym c.remove.ensures.spot ∙ c.in_default.is) in
      rw (← c.self.view_is) ((λ _. none), λ _. refl);
  uniform = search rules;
  refused = ap (λ h. handled (lists_in c.self.inside.store c.self.inside.align h.rows) h.next c.self.inside.align
      (range_of c.self.inside.store.heap.memory) c.self.inside.store.heap.state) c.in_default.ensures.absent ∙ c.self.view_is;
}

pub remove-requires-2 : goal.remove-requires-2
remove-requires-2 c =
    let a = stored_at c.self.inside.handles c.self.invariant c.args.handle c.in-Some.spot (sym c.remove.ensures.spot ∙ c.in-Some.is) in
    (a.before, a.after, _, a.has, refl, refl)

-- the store without the handle
less : (c : goal.After-remove-2) → Shows c.self.inside.store c.self.inside.align
    (remove_entry (nat_eq c.args.handle) (lists_in c.self.inside.store c.self.inside.align c.self.inside.handles.rows)) c.self.inside.handles.next c.remove-2.new.self
    c.remove.new.self
less c =
    let a = stored_at c.self.inside.handles c.self.invariant c.args.handle c.in-Some.spot (sym c.remove.ensures.spot ∙ c.in-Some.is) in
    a.removed c.remove-2.new.self c.remove.new.self c.remove-2.ensures.place (c.remove-2.ensures.removed a.before a.after _ a.has refl refl) c.remove.ensures.rows
    c.remove.ensures.next

pub invariant_of-self-2 : goal.invariant_of-self-2
invariant_of-self-2 c = (less c).0

pub returns : goal.returns
returns c = record {
  removed =
      let gone = absent c.remove-2.new.self c.self.inside.align c.remove.new.self.rows c.args.handle c.remove.ensures.gone in
      rw (← c.self.view_is) ((less c).1, gone);
  unknown =
      let there = (stored_at c.self.inside.handles c.self.invariant c.args.handle c.in-Some.spot (sym c.remove.ensures.spot ∙ c.in-Some.is)).bytes in
      rw (← c.self.view_is) ((λ e. cc), λ none. cc);
  uniform = rw (← c.self.view_is) (λ len. c.remove-2.ensures.uniform len);
  refused = search rules;
}
