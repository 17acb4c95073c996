use Rattle.std.proofs.Common.{rules, ◌≡◌, ◌↔◌, ℕ, nat_eq, None, Result, Ok, Err, IsErr, OnOk, OnErr, refl, ap, ◌∙◌}
use Rattle.std.specs.Map.{lookup, remove_entry}
use Rattle.rlsf_model.specs.State.{State}
use Rattle.rlsf_example_libraries.specs.Handled.{Handled}
use Rattle.rlsf_example_libraries.proofs.Capacities.{IsObjectPool-given_back, room_given_back, shown}
use Rattle.rlsf_example_libraries.proofs.objects.Objects.give_back.Goals as goal

pub invariant_of-self : goal.invariant_of-self
invariant_of-self c =
    let i = c.self.inside in
    IsObjectPool-given_back c.remove.result i.items c.remove.new.self i.layout.size i.layout.align i.capacity _ _ c.self.invariant c.remove.ensures.removed
    c.remove.ensures.refused c.remove.ensures.uniform

without : {E : Type 0} (r : Result Unit E) (o n : Handled) (size align capacity handle : ℕ) (s : State) (P : Type 0)
    → OnOk r ((n ≡ record o { lists = remove_entry (nat_eq handle) o.lists; state = s }) × P)
    → OnOk r (shown size align capacity n ≡ record (shown size align capacity o) { objects = remove_entry (nat_eq handle) o.lists })
without (Ok _) o n size align capacity handle s P removed = ap (shown size align capacity) removed.0
without (Err e) o n size align capacity handle s P removed = tt

gone : {E : Type 0} (r : Result Unit E) (o n : Handled) (handle : ℕ) (P : Type 0) → OnOk r (P × (lookup (nat_eq handle) n.lists ≡ None)) → IsErr r
    ↔ (lookup (nat_eq handle) o.lists ≡ None) → OnErr r (n ≡ o)
    → lookup (nat_eq handle) n.lists ≡ None
gone (Ok _) o n handle P removed unknown refused = removed.1
gone (Err e) o n handle P removed unknown refused = ap (λ h. lookup (nat_eq handle) h.lists) refused ∙ unknown.0 refl

pub returns : goal.returns
returns c = record {
  given_back =
      let i = c.self.inside in
      rw (← c.self.view_is) (without c.remove.result i.items c.remove.new.self i.layout.size i.layout.align i.capacity c.args.handle _ _ c.remove.ensures.removed);
  gone = gone c.remove.result c.self.inside.items c.remove.new.self c.args.handle _ c.remove.ensures.removed c.remove.ensures.unknown c.remove.ensures.refused;
  room =
      let i = c.self.inside in
      room_given_back c.remove.result i.items c.remove.new.self i.layout.size i.layout.align i.capacity c.args.handle _ c.self.invariant c.remove.ensures.removed
      c.remove.ensures.unknown;
  unknown = rw (← c.self.view_is) c.remove.ensures.unknown;
  refused = search rules;
}
