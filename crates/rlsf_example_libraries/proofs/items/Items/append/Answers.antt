use Rattle.std.proofs.Common.{rules, ◌≡◌, ◌+◌, ◌≤◌, ◌++◌, length, IsSomeAnd, nat_eq, arith, refl, sym, ap, subst, ◌∙◌}
use Rattle.std.proofs.Math.Path.{ap₂}
use Rattle.std.specs.Int.NonZero.{non_zero_usize_get}
use Rattle.std.proofs.lemmas.Bool.{false≢true}
use Rattle.std.specs.Map.{lookup, set_value}
use Rattle.rlsf_example_libraries.specs.Handled.{lists_in, place_at, places_in}
use Rattle.rlsf_example_libraries.specs.Budgets.{HasBudgetFor, HasBudgetOf}
use Rattle.rlsf_example_libraries.specs.Stored.{HasAmong, bytes_at_place, place}
use Rattle.rlsf_example_libraries.proofs.HandledStores.{HasBudgetFor-handled, IsAt, IsSomeAnd-is, Shows, absent, same_items, stored_at}
use Rattle.rlsf_example_libraries.proofs.items.Items.append.Goals as goal

pub returns-in_default : goal.returns-in_default
returns-in_default c = record {
  appended = search rules;
  unknown =
      let none = absent c.self.inside.store c.self.inside.align c.self.inside.handles.rows c.args.handle (sym c.get.ensures ∙ c.in_default.is) in
      rw (← c.self.view_is) ((λ _. none), λ _. cc);
  enough = search rules;
  refused = search rules;
}

pub append-requires : goal.append-requires
append-requires c =
    let a = stored_at c.self.inside.handles c.self.invariant c.args.handle c.in-Some.spot (sym c.get.ensures ∙ c.in-Some.is) in
    (a.before, a.after, _, a.has, refl, ap (λ h. h.align) c.self.view_is ∙ c.requires, refl)

pub returns-in_default-checked_add : goal.returns-in_default-checked_add
returns-in_default-checked_add c = record {
  appended = search rules;
  unknown =
      let there = (stored_at c.self.inside.handles c.self.invariant c.args.handle c.in-Some.spot (sym c.get.ensures ∙ c.in-Some.is)).bytes in
      rw (← c.self.view_is) ((λ e. cc), λ none. cc);
  enough = λ live size budget short _.
      let a = stored_at c.self.inside.handles c.self.invariant c.args.handle c.in-Some.spot (sym c.get.ensures ∙ c.in-Some.is) in
      let there = ap (λ h. lookup (nat_eq c.args.handle) h.lists) (sym c.self.view_is) ∙ a.bytes in
      let few = subst (λ o. IsSomeAnd o (λ old. length old + length c.args.more.now ≤ size)) there short in
      absurd (omega (arith, few, a.len, budget.layout.fits, c.in_default-checked_add.ensures));
  refused = search rules;
}

pub invariant_of-self : goal.invariant_of-self
invariant_of-self c = (c.in_default-append.ensures.refused _ c.self.invariant).0

pub returns-in_default-append : goal.returns-in_default-append
returns-in_default-append c = record {
  appended = search rules;
  unknown =
      let there = (stored_at c.self.inside.handles c.self.invariant c.args.handle c.in-Some.spot (sym c.get.ensures ∙ c.in-Some.is)).bytes in
      rw (← c.self.view_is) ((λ e. cc), λ none. cc);
  enough = λ live size budget short _.
      let i = c.self.inside in
      let a = stored_at i.handles c.self.invariant c.args.handle c.in-Some.spot (sym c.get.ensures ∙ c.in-Some.is) in
      let there = ap (λ h. lookup (nat_eq c.args.handle) h.lists) (sym c.self.view_is) ∙ a.bytes in
      let few = subst (λ o. IsSomeAnd o (λ old. length old + length c.args.more.now ≤ size)) there short in
      let here = HasBudgetFor-handled i.store i.align i.handles live size c.self.invariant (subst (λ h. HasBudgetOf h live size) (sym c.self.view_is) budget) in
      let one = ap (λ h. h.align) c.self.view_is ∙ c.requires in
      absurd (false≢true (c.in_default-append.ensures.enough _ live size (subst (λ n. HasBudgetFor i.store (places_in i.align i.handles.rows) live size n) one here)
      (omega (arith, few, a.len))));
  refused = rw (← c.self.view_is) (same_items c.self.inside.handles c.self.invariant c.append.new.self c.self.inside.handles c.append.ensures.place
      (c.in_default-append.ensures.refused _ c.self.invariant) refl refl).1;
}

-- what is stored at the handle
found : (c : goal.After-set) → IsAt c.self.inside.store c.self.inside.align c.self.inside.handles c.args.handle c.in-Some.spot
found c = stored_at c.self.inside.handles c.self.invariant c.args.handle c.in-Some.spot (sym c.get.ensures ∙ c.in-Some.is)

-- the handle with more bytes
grown : (c : goal.After-set) → Shows c.self.inside.store c.self.inside.align
    (set_value (nat_eq c.args.handle) (lists_in c.self.inside.store c.self.inside.align c.self.inside.handles.rows)
    (bytes_at_place c.self.inside.store.heap.memory (place_at c.self.inside.align c.in-Some.spot) ++ c.args.more.now)) c.self.inside.handles.next c.append.new.self
    c.set.new.self
grown c =
    let a = found c in
    let one = ap (λ h. h.align) c.self.view_is ∙ c.requires in
    let bytes = bytes_at_place c.self.inside.store.heap.memory (place_at c.self.inside.align c.in-Some.spot) ++ c.args.more.now in
    let new = c.in-Some-append.ensures.stored a.before a.after _ a.has refl one refl in
    let long : c.in-Some.spot.len + length c.args.more.now ≡ c.in-Some-checked_add.len = omega (arith, c.in-Some-checked_add.ensures.1) in
    let there = ap₂ (place (non_zero_usize_get c.in-Some-append.addr)) (sym one) long in
    a.changed c.append.new.self c.set.new.self c.append.ensures.place (record { addr = c.in-Some-append.addr; len = c.in-Some-checked_add.len }) bytes
    (subst (λ p. HasAmong c.self.inside.store c.append.new.self a.before a.after p bytes) there new) c.set.ensures.rows c.set.ensures.next

pub invariant_of-self-2 : goal.invariant_of-self-2
invariant_of-self-2 c = (grown c).0

pub returns : goal.returns
returns c = record {
  appended = rw (← c.self.view_is) (IsSomeAnd-is _ _ _ (found c).bytes ((grown c).1));
  unknown =
      let there = (found c).bytes in
      rw (← c.self.view_is) ((λ e. cc), λ none. cc);
  enough = search rules;
  refused = search rules;
}
