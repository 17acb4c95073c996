use Rattle.std.proofs.Common.{rules, ◌≡◌, ◌++◌, ◌∷◌, ◌≤◌, ℕ, [], List, Some, length, replicate, take, sym, ◌∙◌, ap, subst, ◌+◌}
use Rattle.std.proofs.lemmas.List.{length-map, length-replicate, take-replicate}
use Rattle.std.specs.Prelude.{IsSome}
use Rattle.std.specs.Int.NonZero.{non_zero_usize_get}
use Rattle.rlsf_base.specs.Space.{range_of, SamePlace}
use Rattle.rlsf_example_libraries.specs.Budgets.{HasBudgetFor}
use Rattle.rlsf_model_sizes.specs.Sizes.{request_size}
use Rattle.rlsf_base.specs.declared.memory.range.Range.{Range}
use Rattle.rlsf_model.specs.Callers.{bytes_at}
use Rattle.rlsf_example_libraries.specs.Tiles.{HasTileFor, KeepsUniform}
use Rattle.rlsf_example_libraries.proofs.Tilings.{KeepsUniform-allocated, tile_has_room}
use Rattle.rlsf_example_libraries.specs.Stored.{IsStore, place_of, FitsPool, HasAmong, KeepsAt, Place, StoreContents, place, store_contents, stored}
use Rattle.rlsf_example_libraries.proofs.Places.{HasAmong-added, KeepsAll-refused, IsStore-none}
use Rattle.rlsf_example_libraries.proofs.Rooms.{budget_has_room}
use Rattle.rlsf_example_libraries.proofs.Stores.{IsStore-allocated, asked_at, empty_has_room}
use Rattle.rlsf_example_libraries.proofs.store.Store.add_zeros.Goals as goal

pub returns-in_err-addr : goal.returns-in_err-addr
returns-in_err-addr c = record {
  stored = search rules;
  refused =
      KeepsAll-refused c.self.view_is c.allocate_zeroed.new.self _ c.in_err-addr.ensures.step c.in_err-addr.ensures.refused.same c.in_err-addr.ensures.frame.place
      c.from_residual.result c.from_residual.ensures;
  room =
      let layout = c.args.layout in
      subst (λ (old : StoreContents). KeepsAt old [] → FitsPool (range_of old.heap.memory) layout.size layout.align → IsSome c.from_residual.result) c.self.view_is
      (λ has fits. absurd (empty_has_room c.allocate_zeroed.new.self layout.size layout.align fits c.in_err-addr.ensures.step (IsStore-none has)));
  enough =
      let layout = c.args.layout in
      subst (λ (old : StoreContents). (places : List Place) (live size : ℕ) → HasBudgetFor old places live size layout.align → layout.size ≤ size
      → IsSome c.from_residual.result) c.self.view_is
      (λ places live size budget short. absurd (budget_has_room budget c.allocate_zeroed.new.self layout.size short c.in_err-addr.ensures.step));
  tiled =
      let layout = c.args.layout in
      subst (λ (old : StoreContents). (places : List Place) (d : Range) → KeepsAt old places → HasTileFor old.heap.state d layout.size layout.align (length places)
      → IsSome c.from_residual.result) c.self.view_is
      (λ places d (all, store, at) tile.
      let same = subst (HasTileFor c.self.inside.heap.state d layout.size layout.align) (sym (ap length at) ∙ length-map all place_of) tile in
      absurd (tile_has_room store c.allocate_zeroed.new.self d layout.size layout.align same c.in_err-addr.ensures.step));
  uniform = search rules;
  place = search rules;
  touches = search rules;
}

pub returns : goal.returns
returns c = record {
  stored =
      let layout = c.args.layout in
      let addr = non_zero_usize_get c.in_ok-addr.addr in
      let w = c.allocate_zeroed.new.self in
      let did = c.in_ok-addr.ensures in
      let front : List ℕ = replicate layout.size 0 in
      let zeros : asked_at w addr layout.size ≡ front = ap (take layout.size) did.result.zeros
      ∙ take-replicate layout.size (length (bytes_at w.state addr)) 0 did.result.made.sized in
      subst (λ (old : StoreContents). (places : List Place) → KeepsAt old places
      → HasAmong old (store_contents w c.self.inside.pool) places [] (place addr layout.align layout.size) front) c.self.view_is
      (λ places has. HasAmong-added places addr layout.align front layout.size (length-replicate layout.size 0) has
      (λ before after store. subst (λ (bs : List ℕ). IsStore (store_contents w c.self.inside.pool) (before ++ stored addr layout.align bs ∷ after)) zeros
      (IsStore-allocated w layout.size layout.align addr layout.valid.aligned before after did.step did.frame.place store)));
  refused = search rules;
  room = search rules;
  enough = search rules;
  tiled = search rules;
  uniform =
      let layout = c.args.layout in
      let w = c.allocate_zeroed.new.self in
      let did = c.in_ok-addr.ensures in
      subst (λ (old : StoreContents). (places : List Place) → KeepsAt old places → layout.align ≤ 32
      → KeepsUniform old.heap.state w.state (request_size layout.size layout.align)) c.self.view_is
      (λ places (all, store, at) small d is.
      KeepsUniform-allocated c.self.inside.heap store.stands w layout.size layout.align (Some (non_zero_usize_get c.in_ok-addr.addr)) layout.valid.aligned small did.step d is);
  place = subst (λ (old : StoreContents). SamePlace old.heap.memory c.allocate_zeroed.new.self.memory) c.self.view_is c.in_ok-addr.ensures.frame.place;
  touches =
      subst (λ (old : StoreContents). c.allocate_zeroed.new.self.memory.touches ≤ old.heap.memory.touches + 30) c.self.view_is c.in_ok-addr.ensures.touches;
}
