use Rattle.std.proofs.Common.{rules, ◌≡◌, ◌+◌, ◌<◌, ◌≤◌, ℕ, List, length, Some, Ok, Err, nat_eq, arith, refl, sym, ap, ◌∙◌}
use Rattle.std.proofs.lemmas.Bool.Decides.{nat_tests}
use Rattle.std.proofs.lemmas.Map.Steps.{set_value_same}
use Rattle.std.specs.List.{splice}
use Rattle.std.specs.Map.{set_value}
use Rattle.rlsf_example_libraries.specs.Handled.{lists_in, place_at}
use Rattle.rlsf_example_libraries.specs.Objects.{set_answer}
use Rattle.rlsf_example_libraries.specs.Stored.{bytes_at_place}
use Rattle.rlsf_example_libraries.specs.declared.objects.SetError.TheVariants.{OutOfRange}
use Rattle.rlsf_example_libraries.proofs.HandledStores.{IsAt, IsSomeAnd-is, Shows, absent, stored_at}
use Rattle.rlsf_example_libraries.proofs.items.Items.write.Goals as goal
use Rattle.rlsf_example_libraries.proofs.items.Items.write.Goals.{then-offset-spot-via-then-offset-spot, then-offset-spot-via-else-offset-spot+then-bytes-spot}

set_answer-out : (old : List ℕ) (end : ℕ) → length old < end → set_answer (Some old) end ≡ Err OutOfRange
set_answer-out old end past = grind (arith, nat_tests)

set_answer-in : (old : List ℕ) (end : ℕ) → end ≤ length old → set_answer (Some old) end ≡ Ok tt
set_answer-in old end within = grind (arith, nat_tests)

pub returns-in_default : goal.returns-in_default
returns-in_default c = record {
  answer =
      let none = absent c.self.inside.store c.self.inside.align c.self.inside.handles.rows c.args.handle (sym c.get.ensures ∙ c.in_default.is) in
      rw (← c.self.view_is) (ap (λ o. set_answer o (c.args.offset + length c.args.bytes.now)) (sym none));
  written = search rules;
  uniform = search rules;
  refused = search rules;
}

pub returns-then-offset-spot : goal.returns-then-offset-spot
returns-then-offset-spot c = record {
  answer =
      let a = stored_at c.self.inside.handles c.self.invariant c.args.handle c.in-Some.spot (sym c.get.ensures ∙ c.in-Some.is) in
      let past : length (bytes_at_place c.self.inside.store.heap.memory (place_at c.self.inside.align c.in-Some.spot)) < c.args.offset + length c.args.bytes.now =
      elim c.then-offset-spot.branch [
        | then-offset-spot-via-then-offset-spot w ↦ omega (arith, a.len)
        | then-offset-spot-via-else-offset-spot+then-bytes-spot w ↦ omega (arith, a.len)
      ] in
      rw (← c.self.view_is) (sym (set_answer-out _ (c.args.offset + length c.args.bytes.now) past) ∙ ap (λ o. set_answer o (c.args.offset + length c.args.bytes.now))
      (sym a.bytes));
  written = search rules;
  uniform = search rules;
  refused = search rules;
}

pub write-requires : goal.write-requires
write-requires c =
    let a = stored_at c.self.inside.handles c.self.invariant c.args.handle c.in-Some.spot (sym c.get.ensures ∙ c.in-Some.is) in
    (a.before, a.after, _, a.has, refl, omega arith)

-- what is stored at the handle
found : (c : goal.After-write) → IsAt c.self.inside.store c.self.inside.align c.self.inside.handles c.args.handle c.in-Some.spot
found c = stored_at c.self.inside.handles c.self.invariant c.args.handle c.in-Some.spot (sym c.get.ensures ∙ c.in-Some.is)

-- the handle with other bytes
written : (c : goal.After-write) → Shows c.self.inside.store c.self.inside.align
    (set_value (nat_eq c.args.handle) (lists_in c.self.inside.store c.self.inside.align c.self.inside.handles.rows)
    (splice (bytes_at_place c.self.inside.store.heap.memory (place_at c.self.inside.align c.in-Some.spot)) c.args.offset
    (c.args.offset + length c.args.bytes.now) c.args.bytes.now)) c.self.inside.handles.next
    c.write.new.self c.self.inside.handles
written c =
    let a = found c in
    let new = c.write.ensures.stored a.before a.after _ a.has refl (omega arith) in
    a.changed c.write.new.self c.self.inside.handles c.write.ensures.place c.in-Some.spot _ new
    (sym (set_value_same (nat_eq c.args.handle) c.self.inside.handles.rows c.in-Some.spot (sym c.get.ensures ∙ c.in-Some.is))) refl

pub invariant_of-self : goal.invariant_of-self
invariant_of-self c = (written c).0

pub returns : goal.returns
returns c = record {
  answer =
      let a = found c in
      rw (← c.self.view_is) (sym (set_answer-in _ (c.args.offset + length c.args.bytes.now) (omega (arith, a.len)))
      ∙ ap (λ o. set_answer o (c.args.offset + length c.args.bytes.now)) (sym a.bytes));
  written = rw (← c.self.view_is) (IsSomeAnd-is _ _ _ (found c).bytes (written c).1);
  uniform = rw (← c.self.view_is) (λ len. c.write.ensures.uniform _ len c.self.invariant);
  refused = search rules;
}
