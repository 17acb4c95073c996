use Rattle.std.proofs.Common.{rules, ◌≡◌, ◌<◌, ◌≤◌, ℕ, Option, None, Some, IfSome, IsSomeAnd, arith, refl, ap, length, sym, ◌∙◌}
use Rattle.std.proofs.Math.Path.{ap₂}
use Rattle.std.proofs.lemmas.Bool.{false≢true}
use Rattle.std.specs.VecDeque.{deque_capacity}
use Rattle.rlsf_base.specs.Range.{range_at}
use Rattle.rlsf_base.specs.Space.{range_of}
use Rattle.rlsf_example_libraries.proofs.Queues.{KeepsLongest-more, KeepsLongest-same, budget_for_message, length-messages, nothing_stored, pushed}
use Rattle.rlsf_example_libraries.proofs.messages.Messages.push.Goals as goal

pub invariant_of-self-2 : goal.invariant_of-self-2
invariant_of-self-2 c =
    let i = c.self.inside in
    let place : range_of i.store.heap.memory ≡ range_of c.add.new.self.heap.memory = ap₂ range_at (sym c.add.ensures.place.0) (sym c.add.ensures.place.1) in
    let holds : deque_capacity i.entries ≡ deque_capacity c.push_back_reserved.new.self = omega arith in
    let keeps = KeepsLongest-more i.longest (range_of i.store.heap.memory) (deque_capacity i.entries) i.entries.items
    (record { addr = c.in-Some.addr; len = length c.args.message.now })
    (λ longer. absurd (false≢true (sym c.if-is_longer.false ∙ c.is_longer.ensures.1 longer))) c.self.invariant.1 in (
      rw c.push_back_reserved.ensures.items (pushed c.self.inside.store c.add.new.self c.self.inside.entries.items _ c.args.message.now
          (c.in-Some.ensures.stored _ c.self.invariant.0)).0,
      KeepsLongest-same i.longest place holds (sym c.push_back_reserved.ensures.items) keeps,
    )

pub returns-then-len-capacity : goal.returns-then-len-capacity
returns-then-len-capacity c = record {
  result = search rules;
  room = record {
    first = rw (← c.self.view_is) (λ none some _. absurd (omega (arith, length-messages c.self.inside.store.heap.memory c.self.inside.entries.items, ap length none)));
    enough = rw (← c.self.view_is) (λ _ _. omega (arith, length-messages c.self.inside.store.heap.memory c.self.inside.entries.items));
  };
  refused = record {
    same = search rules;
    full = rw (← c.self.view_is) (λ _. omega (arith, length-messages c.self.inside.store.heap.memory c.self.inside.entries.items), λ _. refl);
    long = rw (← c.self.view_is) (λ bad. absurd cc, λ (few, _). absurd (omega (arith, few, length-messages c.self.inside.store.heap.memory c.self.inside.entries.items)));
  };
  frame = search rules;
  touches = search rules;
}

-- a length isn't both above the longest and not
both : {A : Type 0} (o : Option ℕ) (len : ℕ) → IsSomeAnd o (λ longest. longest < len) → IfSome o (λ longest. len ≤ longest) → A
both None len longer short = absurd longer
both (Some longest) len longer short = absurd (omega (arith, longer, short))

both_told : {A : Type 0} (o : Option ℕ) (len : ℕ) → IsSomeAnd o (λ longest. longest < len) → IsSomeAnd o (λ longest. len ≤ longest) → A
both_told None len longer short = absurd longer
both_told (Some longest) len longer short = absurd (omega (arith, longer, short))

pub returns-then-is_longer : goal.returns-then-is_longer
returns-then-is_longer c = record {
  result = search rules;
  room = record {
    first = rw (← c.self.view_is) (λ _ _ _ short. both c.self.inside.longest (length c.args.message.now) (c.is_longer.ensures.0 c.if-is_longer.true) short);
    enough = rw (← c.self.view_is) (λ short _. both_told c.self.inside.longest (length c.args.message.now) (c.is_longer.ensures.0 c.if-is_longer.true) short);
  };
  refused = record {
    same = search rules;
    full = rw (← c.self.view_is) (λ bad. absurd cc, λ full. absurd (omega (arith, length-messages c.self.inside.store.heap.memory c.self.inside.entries.items)));
    long = rw (← c.self.view_is) (
      λ _. (omega (arith, length-messages c.self.inside.store.heap.memory c.self.inside.entries.items), c.is_longer.ensures.0 c.if-is_longer.true),
      λ _. refl,
    );
  };
  frame = search rules;
  touches = search rules;
}

pub returns-in_default : goal.returns-in_default
returns-in_default c = record {
  result = search rules;
  room = record {
    first = rw (← c.self.view_is) (λ none _ fits _. c.in_default.ensures.room (nothing_stored c.self.inside.store c.self.inside.entries.items c.self.invariant.0 none) fits);
    enough = rw (← c.self.view_is) (λ short _.
        let i = c.self.inside in
        let few : length i.entries.items < deque_capacity i.entries = omega arith in
        let (n, budget, fits) = budget_for_message i.longest i.store i.entries.items (deque_capacity i.entries)
        (length c.args.message.now) c.self.invariant.0 c.self.invariant.1 few short in
        absurd (false≢true (c.in_default.ensures.enough _ _ _ budget fits)));
  };
  refused = record {
    same = rw (← c.self.view_is) (c.in_default.ensures.refused _ c.self.invariant.0).1;
    full = rw (← c.self.view_is) (λ bad. absurd cc, λ full. absurd (omega (arith, length-messages c.self.inside.store.heap.memory c.self.inside.entries.items)));
    long = rw (← c.self.view_is) (λ bad. absurd cc, λ (_, longer). absurd (false≢true (sym c.if-is_longer.false ∙ c.is_longer.ensures.1 longer)));
  };
  frame = search rules;
  touches = search rules;
}

pub returns : goal.returns
returns c = record {
  result = rw (← c.self.view_is, c.push_back_reserved.ensures.items)
      (pushed c.self.inside.store c.add.new.self c.self.inside.entries.items _ c.args.message.now (c.in-Some.ensures.stored _ c.self.invariant.0)).1;
  room = search rules;
  refused = record {
    same = search rules;
    full = rw (← c.self.view_is) (λ bad. absurd cc, λ full. absurd (omega (arith, length-messages c.self.inside.store.heap.memory c.self.inside.entries.items)));
    long = rw (← c.self.view_is) (λ bad. absurd cc, λ (_, longer). absurd (false≢true (sym c.if-is_longer.false ∙ c.is_longer.ensures.1 longer)));
  };
  frame = search rules;
  touches = search rules;
}
