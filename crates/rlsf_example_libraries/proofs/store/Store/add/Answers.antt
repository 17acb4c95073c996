use Rattle.std.proofs.Common.{rules, ◌≡◌, ℕ, [], List, Some, length, take, refl, sym, ◌∙◌, ap, subst, ◌+◌, ◌<◌, ◌≤◌, arith}
use Rattle.std.specs.Prelude.{IsSome}
use Rattle.std.specs.Int.NonZero.{non_zero_usize_get}
use Rattle.rlsf_model_sizes.specs.Sizes.{pool_size_to_contain_allocation}
use Rattle.rlsf_base.specs.Space.{range_of, SamePlace}
use Rattle.rlsf_tlsf.specs.Lending.{written}
use Rattle.rlsf_example_libraries.specs.Budgets.{HasBudgetFor}
use Rattle.rlsf_example_libraries.specs.Stored.{FitsPool, HasAmong, KeepsAt, Place, StoreContents, place, store_contents, stored}
use Rattle.rlsf_example_libraries.proofs.Fronts.{front-append}
use Rattle.rlsf_example_libraries.proofs.Places.{HasAmong-added, KeepsAll-refused, IsStore-none}
use Rattle.rlsf_example_libraries.proofs.Rooms.{budget_has_room}
use Rattle.rlsf_example_libraries.proofs.Stores.{IsStore-allocated, IsStore-filled, asked_at, empty_has_room}
use Rattle.rlsf_example_libraries.proofs.store.Store.add.Goals as goal

pub returns-in_err-addr : goal.returns-in_err-addr
returns-in_err-addr c = record {
  stored = search rules;
  refused =
      KeepsAll-refused c.self.view_is c.allocate.new.self _ c.in_err-addr.ensures.step c.in_err-addr.ensures.refused.same c.in_err-addr.ensures.frame.place
      c.from_residual.result c.from_residual.ensures;
  room =
      let layout = c.in-Ok.layout in
      subst (λ (old : StoreContents). KeepsAt old [] → FitsPool (range_of old.heap.memory) (length c.args.bytes.now) 1 → IsSome c.from_residual.result) c.self.view_is
      (λ has (e, told, long).
      let (size, align) = c.in-Ok.ensures.layout in
      let fits : FitsPool (range_of c.self.inside.heap.memory) layout.size layout.align = (
        e,
        subst (λ n. pool_size_to_contain_allocation 59 8 n layout.align ≡ Some e) (sym size)
            (subst (λ n. pool_size_to_contain_allocation 59 8 (length c.args.bytes.now) n ≡ Some e) (sym align) told),
        long,
      ) in
      absurd (empty_has_room c.allocate.new.self layout.size layout.align fits c.in_err-addr.ensures.step (IsStore-none has)));
  enough =
      let layout = c.in-Ok.layout in
      let (long, aligned) = c.in-Ok.ensures.layout in
      subst (λ (old : StoreContents). (places : List Place) (live size : ℕ) → HasBudgetFor old places live size 1 → length c.args.bytes.now ≤ size
      → IsSome c.from_residual.result) c.self.view_is
      (λ places live size budget short.
      let same = subst (λ n. HasBudgetFor (store_contents c.self.inside.heap c.self.inside.pool) places live size n) (sym aligned) budget in
      absurd (budget_has_room same c.allocate.new.self layout.size (omega (arith, short, long)) c.in_err-addr.ensures.step));
  place = search rules;
  touches = search rules;
}

pub returns : goal.returns
returns c = record {
  stored =
      let layout = c.in-Ok.layout in
      let addr = non_zero_usize_get c.in_ok-addr.addr in
      let lent = c.payload_mut.result.now in
      let w = c.write_at.new.payload in
      let front = c.args.bytes.now in
      let new = store_contents (written c.allocate.new.self addr (length lent) w) c.self.inside.pool in
      subst (λ (old : StoreContents). (places : List Place) → KeepsAt old places → HasAmong old new places [] (place addr 1 (length front)) front) c.self.view_is
      (λ places has. subst (λ n. HasAmong (store_contents c.self.inside.heap c.self.inside.pool) new places [] (place addr n (length front)) front) c.in-Ok.ensures.layout.1
      (HasAmong-added places addr layout.align front (length front) refl has (λ before after store.
      let allocated = IsStore-allocated c.allocate.new.self layout.size layout.align addr layout.valid.aligned before after c.in_ok-addr.ensures.step
      c.in_ok-addr.ensures.frame.place
      store in
      let writes : take (length front) w ≡ front = ap (take (length front)) c.write_at.ensures.bytes ∙ front-append [] lent front 0 refl refl in
      let few : length w < length front + 32 = omega (
        arith,
        c.write_at.ensures.len,
        ap length c.payload_mut.ensures.value,
        c.in_ok-addr.ensures.result.few,
        c.in-Ok.ensures.layout.0,
      ) in
      IsStore-filled before after (stored addr layout.align (asked_at c.allocate.new.self addr layout.size)) refl allocated
      (written c.allocate.new.self addr (length lent) w) w front writes few (c.payload_mut.ensures.meaning w c.write_at.ensures.len) (c.payload_mut.ensures.rest w).1)));
  refused = search rules;
  room = search rules;
  enough = search rules;
  place =
      let first = c.in_ok-addr.ensures.frame.place in
      let then = (c.payload_mut.ensures.rest c.write_at.new.payload).1 in
      subst (λ (old : StoreContents). SamePlace old.heap.memory
      (written c.allocate.new.self (non_zero_usize_get c.in_ok-addr.addr) (length c.payload_mut.result.now) c.write_at.new.payload).memory) c.self.view_is
      (then.0 ∙ first.0, then.1 ∙ first.1, then.2 ∙ first.2, λ none. then.3 (first.3 none));
  touches =
      subst (λ (old : StoreContents). (written c.allocate.new.self (non_zero_usize_get c.in_ok-addr.addr)
      (length c.payload_mut.result.now) c.write_at.new.payload).memory.touches ≤ old.heap.memory.touches + 30) c.self.view_is
      (omega (arith, c.in_ok-addr.ensures.touches, (c.payload_mut.ensures.rest c.write_at.new.payload).3));
}

pub write_at-requires : goal.write_at-requires
write_at-requires c = omega (arith, ap length c.payload_mut.ensures.value, c.in_ok-addr.ensures.result.sized, c.in-Ok.ensures.layout.0)
