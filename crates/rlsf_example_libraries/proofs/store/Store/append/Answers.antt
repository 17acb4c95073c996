use Rattle.std.proofs.Common.{rules, ◌≡◌, ◌+◌, ◌<◌, ◌≤◌, ◌∷◌, ◌++◌, ℕ, List, length, length-append, take, IsSome, Some, lit<, arith, refl, sym}
use Rattle.std.proofs.Common.{◌∙◌, ap, subst}
use Rattle.std.specs.Int.NonZero.{non_zero_usize_get}
use Rattle.rlsf_base.specs.Space.{SamePlace}
use Rattle.rlsf_tlsf.specs.Lending.{written}
use Rattle.rlsf_example_libraries.specs.Budgets.{HasBudgetFor}
use Rattle.rlsf_example_libraries.specs.Stored.{HasAmong, KeepsAt, Place, StoreContents, bytes_at_place, place, store_contents, stored}
use Rattle.rlsf_example_libraries.proofs.Fronts.{front-append}
use Rattle.rlsf_example_libraries.proofs.Places.{HasAmong-changed, KeepsAll-refused, among}
use Rattle.rlsf_example_libraries.proofs.Rooms.{budget_has_room_again}
use Rattle.rlsf_example_libraries.proofs.Stores.{IsStore-filled, IsStore-resized, asked_at, front-resized, live_stored}
use Rattle.rlsf_example_libraries.proofs.store.Store.append.Goals as goal

pub reallocate-requires : goal.reallocate-requires
reallocate-requires c =
    let (before, after, p, has, at, aligned, long) = subst (λ (old : StoreContents). (before after : List Place) × (p : Place) × KeepsAt old (before ++ p ∷ after)
    × (p.addr ≡ non_zero_usize_get c.args.addr) × (p.align ≡ 1) × (p.len ≡ c.args.len)) (sym c.self.view_is) c.requires in
    let a = among before after p has in
    (lit< tt, live_stored a.front a.back a.here (ap (λ q. q.addr) a.here_at ∙ at) a.is ∙ ap Some (ap (λ q. q.align) a.here_at ∙ aligned ∙ sym c.in-Ok.ensures.layout.1))

pub returns-in_err-to : goal.returns-in_err-to
returns-in_err-to c = record {
  stored = search rules;
  refused =
      KeepsAll-refused c.self.view_is c.reallocate.new.self _ c.in_err-to.ensures.step c.in_err-to.ensures.refused.same c.in_err-to.ensures.frame.place
      c.from_residual-in_err-to.result c.from_residual-in_err-to.ensures;
  enough =
      let (before, after, p, has, at, aligned, long) = subst (λ (old : StoreContents). (before after : List Place) × (p : Place) × KeepsAt old (before ++ p ∷ after)
      × (p.addr ≡ non_zero_usize_get c.args.addr) × (p.align ≡ 1) × (p.len ≡ c.args.len)) (sym c.self.view_is) c.requires in
      let a = among before after p has in
      let live_here = live_stored a.front a.back a.here (ap (λ q. q.addr) a.here_at ∙ at) a.is ∙ ap Some (ap (λ q. q.align) a.here_at ∙ aligned) in
      let size_is : c.in-Ok.layout.size ≡ c.args.len + length c.args.more.now = omega (arith, c.in-Ok.ensures.layout.0, c.in_ok-size.ensures) in
      subst (λ (old : StoreContents). (places : List Place) (live size : ℕ) → HasBudgetFor old places live size 1 → c.args.len + length c.args.more.now ≤ size
      → IsSome c.from_residual-in_err-to.result) c.self.view_is
      (λ places live size budget short. absurd (budget_has_room_again budget c.reallocate.new.self (non_zero_usize_get c.args.addr) c.in-Ok.layout.size live_here
      (omega (arith, short, size_is)) c.in_err-to.ensures.step));
  place = search rules;
  touches = search rules;
}

pub returns : goal.returns
returns c = record {
  stored =
      let layout = c.in-Ok.layout in
      let to = non_zero_usize_get c.in_ok-to.to in
      let more = c.args.more.now in
      let lent = c.payload_mut.result.now in
      let w = c.write_at.new.payload in
      subst (λ (old : StoreContents). (before after : List Place) (p : Place) → KeepsAt old (before ++ p ∷ after) → p.addr ≡ non_zero_usize_get c.args.addr
      → p.align ≡ 1 → p.len ≡ c.args.len
      → HasAmong old (store_contents (written c.reallocate.new.self to (length lent) w) c.self.inside.pool) before after (place to 1 (c.args.len + length more))
      (bytes_at_place old.heap.memory p ++ more)) c.self.view_is
      (λ before after p has at one p_len. HasAmong-changed before after p (place to 1 (c.args.len + length more)) (bytes_at_place c.self.inside.heap.memory p ++ more) has
      (λ front back k store there are.
      let aligned = ap (λ q. q.align) there ∙ one in
      let long : length k.bytes ≡ c.args.len = ap (λ q. q.len) there ∙ p_len in
      let room : length k.bytes ≤ layout.size = omega (arith, long, c.in-Ok.ensures.layout.0, c.in_ok-size.ensures) in
      let k_at = ap (λ q. q.addr) there ∙ at in
      let resized = IsStore-resized front back k k_at store c.reallocate.new.self layout.size to c.in_ok-to.ensures.step c.in_ok-to.ensures.frame.place in
      let moved = stored to k.align (asked_at c.reallocate.new.self to layout.size) in
      let begins : take (length k.bytes) lent ≡ k.bytes =
      ap (take (length k.bytes)) c.payload_mut.ensures.value ∙ front-resized front back k k_at store c.reallocate.new.self layout.size to room c.in_ok-to.ensures.step in
      let writes : take (length (k.bytes ++ more)) w ≡ k.bytes ++ more =
      ap (take (length (k.bytes ++ more))) c.write_at.ensures.bytes ∙ front-append k.bytes lent more c.args.len long (ap (λ n. take n lent) (sym long) ∙ begins) in
      let new_len : length (k.bytes ++ more) ≡ c.args.len + length more = length-append k.bytes more ∙ ap (λ n. n + length more) long in
      let few : length w < length (k.bytes ++ more) + 32 =
      omega (arith, c.write_at.ensures.len, ap length c.payload_mut.ensures.value, c.in_ok-to.ensures.result.few, c.in-Ok.ensures.layout.0, c.in_ok-size.ensures, new_len) in
      let stores = IsStore-filled front back moved refl resized (written c.reallocate.new.self to (length lent) w) w (k.bytes ++ more) writes few
      (c.payload_mut.ensures.meaning w c.write_at.ensures.len) (c.payload_mut.ensures.rest w).1 in
      (stored to k.align (k.bytes ++ more), stores, ap (λ n. place to n (length (k.bytes ++ more))) aligned ∙ ap (place to 1) new_len, ap (λ bs. bs ++ more) are)));
  refused = search rules;
  enough = search rules;
  place =
      let first = c.in_ok-to.ensures.frame.place in
      let then = (c.payload_mut.ensures.rest c.write_at.new.payload).1 in
      subst (λ (old : StoreContents). SamePlace old.heap.memory
      (written c.reallocate.new.self (non_zero_usize_get c.in_ok-to.to) (length c.payload_mut.result.now) c.write_at.new.payload).memory) c.self.view_is
      (then.0 ∙ first.0, then.1 ∙ first.1, then.2 ∙ first.2, λ none. then.3 (first.3 none));
  touches =
      subst (λ (old : StoreContents). (written c.reallocate.new.self (non_zero_usize_get c.in_ok-to.to)
      (length c.payload_mut.result.now) c.write_at.new.payload).memory.touches ≤ old.heap.memory.touches + 69) c.self.view_is
      (omega (arith, c.in_ok-to.ensures.touches, (c.payload_mut.ensures.rest c.write_at.new.payload).3));
}

pub write_at-requires : goal.write_at-requires
write_at-requires c = omega (arith, ap length c.payload_mut.ensures.value, c.in_ok-to.ensures.result.sized, c.in-Ok.ensures.layout.0, c.in_ok-size.ensures)
