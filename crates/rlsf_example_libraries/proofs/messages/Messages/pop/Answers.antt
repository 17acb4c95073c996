use Rattle.std.proofs.Common.{rules, ◌≡◌, ◌-◌, ◌<◌, [], ◌++◌, length, drop, map, arith, refl, ◌∙◌, ap, sym, subst}
use Rattle.std.proofs.lemmas.List.{length-drop, length-take}
use Rattle.std.proofs.Math.Path.{ap₂}
use Rattle.std.specs.Option.{IsSomeAnd}
use Rattle.std.specs.VecDeque.{deque_capacity}
use Rattle.rlsf_base.specs.Range.{range_at}
use Rattle.rlsf_base.specs.Space.{range_of}
use Rattle.rlsf_example_libraries.specs.Queue.{oldest, place_of_entry}
use Rattle.rlsf_example_libraries.specs.Stored.{KeepsAt, HasSame, bytes_at_place}
use Rattle.rlsf_example_libraries.proofs.Queues.{KeepsLongest-less, KeepsLongest-same, Oldest, length-messages, oldest_stored, oldest_within}
use Rattle.rlsf_example_libraries.proofs.messages.Messages.pop.Goals as goal
use Rattle.rlsf_example_libraries.proofs.messages.Messages.pop.Goals.{After-remove, In-Some}

-- the oldest message, at the entry that was found
found : (c : In-Some) → Oldest c.self.inside.store c.self.inside.entries.items c.in-Some.field-0.now
found c =
    let entries = c.self.inside.entries in
    let here = c.in-Some.ensures in
    oldest_stored c.self.inside.store entries.items c.in-Some.field-0.now c.self.invariant.0 (omega (arith, entries.ok.0, here.variant.0 refl)) here.lookup

pub returns-then-into-entry-clause-refused : goal.returns-then-into-entry-clause-refused
returns-then-into-entry-clause-refused c = record {
  same = search rules;
  bytes = search rules;
  empty =
      let o = found (goal.at.returns-then-into-entry-clause-refused c).In-Some in
      rw (← c.self.view_is) (λ bad. absurd cc, λ none. absurd (omega (arith, ap length (sym o.messages ∙ none))));
  short =
      let o = found (goal.at.returns-then-into-entry-clause-refused c).In-Some in
      rw (← c.self.view_is) (λ _. subst (λ ms. IsSomeAnd (oldest ms) (λ m. length c.args.into.now < length m)) (sym o.messages) (omega (arith, o.len)), λ _. refl);
  enough =
      let i = c.self.inside in
      let here = c.in-Some.ensures in
      rw (← c.self.view_is) (λ within _. absurd (omega (
        arith,
        oldest_within i.longest (range_of i.store.heap.memory) (deque_capacity i.entries) (length c.args.into.now) i.entries.items c.in-Some.field-0.now c.self.invariant.1
            (omega (arith, i.entries.ok.0, here.variant.0 refl)) here.lookup within,
      )));
}

pub read-requires : goal.read-requires
read-requires c = ([], _, _, (found (goal.at.read-requires c).In-Some).places, refl, refl)

pub copy_from_slice-requires : goal.copy_from_slice-requires
copy_from_slice-requires c = omega (arith, c.read.ensures.len, length-take c.in-Some.field-0.now.len c.args.into.now)

pub remove-requires : goal.remove-requires
remove-requires c = ([], _, _, (found (goal.at.remove-requires c).In-Some).places, refl, refl)

-- the messages that are left
left : (c : After-remove) → Oldest c.self.inside.store c.self.inside.entries.items c.in-Some.field-0.now
    → HasSame c.self.inside.store c.remove.new.self (map place_of_entry (drop 1 c.self.inside.entries.items))
left c o = c.remove.ensures.removed [] _ _ o.places refl refl

pub invariant_of-self : goal.invariant_of-self
invariant_of-self c =
    let at = goal.at.invariant_of-self c in
    let rest : drop 1 c.self.inside.entries.items ≡ c.pop_front.new.self.items = cc in
    let place : range_of c.self.inside.store.heap.memory ≡ range_of c.remove.new.self.heap.memory = ap₂ range_at (sym c.remove.ensures.place.0)
    (sym c.remove.ensures.place.1) in
    let holds : deque_capacity c.self.inside.entries ≡ deque_capacity c.pop_front.new.self = omega arith in (
      subst (λ es. KeepsAt c.remove.new.self (map place_of_entry es)) rest (left at.After-remove (found at.In-Some)).0,
      KeepsLongest-same c.self.inside.longest place holds rest
          (KeepsLongest-less c.self.inside.longest (range_of c.self.inside.store.heap.memory) (deque_capacity c.self.inside.entries) c.self.inside.entries.items
          c.self.invariant.1),
    )

pub returns : goal.returns
returns c = record {
  result =
      let at = goal.at.returns c in
      let o = found at.In-Some in
      let rest = (left at.After-remove o).1 in
      let bytes = c.copy_from_slice.ensures.after ∙ c.read.ensures.bytes in
      rw (← c.self.view_is) (
        bytes_at_place c.self.inside.store.heap.memory (place_of_entry c.in-Some.field-0.now),
        cc (o.messages, rest),
        sym o.len,
        ap (λ bs. bs ++ drop c.in-Some.field-0.now.len c.args.into.now) bytes,
      );
  room =
      let entries = c.self.inside.entries in
      let rest : drop 1 entries.items ≡ c.pop_front.new.self.items = cc in
      let less : length c.pop_front.new.self.items ≡ length entries.items - 1 = ap length (sym rest) ∙ length-drop 1 entries.items in
      omega (arith, less, length-messages c.remove.new.self.heap.memory c.pop_front.new.self.items, entries.ok.0, c.in-Some.ensures.variant.0 refl);
  refused = search rules;
  frame = search rules;
  touches = search rules;
}
