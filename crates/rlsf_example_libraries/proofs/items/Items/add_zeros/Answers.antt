use Rattle.std.proofs.Common.{rules, ◌+◌, ◌∷◌, ◌++◌, [], replicate, refl, sym, ap, subst, ◌∙◌}
use Rattle.std.proofs.lemmas.Bool.{false≢true}
use Rattle.std.specs.Int.NonZero.{non_zero_usize_get}
use Rattle.rlsf_example_libraries.specs.Handled.{lists_in, places_in}
use Rattle.rlsf_example_libraries.specs.Budgets.{HasBudgetFor, HasBudgetOf}
use Rattle.rlsf_example_libraries.specs.Stored.{FitsPool, HasAmong, place}
use Rattle.rlsf_example_libraries.proofs.HandledStores.{HasBudgetFor-handled, SamePlace-then, Shows, absent, none_stored, one_more, same_given_back, same_items}
use Rattle.rlsf_example_libraries.proofs.items.Items.add_zeros.Goals as goal
use Rattle.rlsf_blocks.proofs.Refused.{err_always}

pub returns-in_default-clause-room : goal.returns-in_default-clause-room
returns-in_default-clause-room c = λ none fits _.
    let empty = none_stored c.self.inside.store c.self.inside.align c.self.inside.handles.rows c.self.invariant (ap (λ h. h.lists) c.self.view_is ∙ none) in
    absurd (false≢true (c.in_default.ensures.room empty (subst (λ h. FitsPool h.memory c.args.layout.size c.args.layout.align) (sym c.self.view_is) fits)))

pub returns-in_default-clause-enough : goal.returns-in_default-clause-enough
returns-in_default-clause-enough c = λ live size budget short _.
    let i = c.self.inside in
    let here = HasBudgetFor-handled i.store i.align i.handles live size c.self.invariant (subst (λ h. HasBudgetOf h live size) (sym c.self.view_is) budget) in
    let same = ap (λ h. h.align) c.self.view_is ∙ c.requires in
    absurd (false≢true (c.in_default.ensures.enough _ live size (subst (λ n. HasBudgetFor i.store (places_in i.align i.handles.rows) live size n) same here) short))

pub returns-in_default-clause-refused : goal.returns-in_default-clause-refused
returns-in_default-clause-refused c =
    let kept = same_items c.self.inside.handles c.self.invariant c.add_zeros.new.self c.self.inside.handles c.add_zeros.ensures.place
    (c.in_default.ensures.refused _ c.self.invariant) refl refl in
    rw (← c.self.view_is) kept.1

pub invariant_of-self : goal.invariant_of-self
invariant_of-self c = (c.in_default.ensures.refused _ c.self.invariant).0

pub keep-requires : goal.keep-requires
keep-requires c = (_, _, (c.in-Some.ensures.stored _ c.self.invariant).places, refl, refl)

-- the store after the payload was deallocated
kept : (c : goal.After-from_residual) → Shows c.self.inside.store c.self.inside.align (lists_in c.self.inside.store c.self.inside.align c.self.inside.handles.rows)
    c.self.inside.handles.next c.keep.new.store c.keep.new.handles
kept c =
    let added = c.in-Some.ensures.stored _ c.self.invariant in
    same_given_back c.self.inside.handles c.self.invariant c.add_zeros.new.self c.keep.new.store c.keep.new.handles c.add_zeros.ensures.place c.keep.ensures.place added
    (c.in_err-handle.ensures.given_back _ _ added.places refl refl) (ap (λ h. h.rows) c.in_err-handle.ensures.refused) (ap (λ h. h.next) c.in_err-handle.ensures.refused)

pub invariant_of-self-in_err-handle : goal.invariant_of-self-in_err-handle
invariant_of-self-in_err-handle c = (kept c).0

-- the store with one more
more : (c : goal.In_ok-handle) → Shows c.self.inside.store c.self.inside.align (lists_in c.self.inside.store c.self.inside.align c.self.inside.handles.rows
    ++ (c.in_ok-handle.handle, (replicate c.args.layout.size 0)) ∷ []) (c.in_ok-handle.handle + 1) c.keep.new.store c.keep.new.handles
more c =
    let v = c.self.inside.store in
    let places = places_in c.self.inside.align c.self.inside.handles.rows in
    let addr = non_zero_usize_get c.in-Some.addr in
    let added = c.in-Some.ensures.stored places c.self.invariant in
    let now = subst (λ w. HasAmong v w places [] (place addr c.args.layout.align c.args.layout.size) (replicate c.args.layout.size 0)) (sym c.in_ok-handle.ensures.kept.0) added in
    let there = subst (λ a. HasAmong v c.keep.new.store places [] (place addr a c.args.layout.size) (replicate c.args.layout.size 0))
    (sym (ap (λ h. h.align) c.self.view_is ∙ c.requires)) now in
    one_more c.self.inside.handles c.self.invariant c.keep.new.store c.keep.new.handles
    (SamePlace-then c.self.inside.store.heap.memory c.add_zeros.new.self.heap.memory c.keep.new.store.heap.memory c.add_zeros.ensures.place c.keep.ensures.place)
    c.in_ok-handle.handle _ (replicate c.args.layout.size 0) there
    (ap (λ h. h.rows) c.in_ok-handle.ensures.kept.2) (ap (λ h. h.next) c.in_ok-handle.ensures.kept.2)

pub invariant_of-self-2 : goal.invariant_of-self-2
invariant_of-self-2 c = (more c).0

pub returns-in_default-clause-uniform : goal.returns-in_default-clause-uniform
returns-in_default-clause-uniform c = rw (← c.self.view_is) (λ small. c.add_zeros.ensures.uniform _ c.self.invariant small)

pub returns-in_err-handle : goal.returns-in_err-handle
returns-in_err-handle c = record {
  added = search rules;
  new = search rules;
  room = search rules;
  enough = search rules;
  tiled = search rules;
  uniform = rw (← c.self.view_is) (λ small d is. c.keep.ensures.uniform _ d (c.add_zeros.ensures.uniform _ c.self.invariant small d is));
  refused = rw (← c.self.view_is) (err_always c.from_residual.result (kept c).1);
}

pub returns : goal.returns
returns c = record {
  added = rw (← c.self.view_is) (c.in_ok-handle.ensures.kept.1, (more c).1);
  new = rw (← c.self.view_is) (absent c.self.inside.store c.self.inside.align c.self.inside.handles.rows c.in_ok-handle.handle c.in_ok-handle.ensures.new);
  room = search rules;
  enough = search rules;
  tiled = search rules;
  uniform = rw (← c.self.view_is) (λ small d is. c.keep.ensures.uniform _ d (c.add_zeros.ensures.uniform _ c.self.invariant small d is));
  refused = search rules;
}
