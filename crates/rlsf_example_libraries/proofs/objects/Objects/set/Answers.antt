use Rattle.std.proofs.Common.{rules, ◌≡◌, ◌+◌, ◌≤◌, ℕ, List, length, nat_eq, Option, None, Some, Result, Ok, Err, OnOk, OnErr, IsSomeAnd, arith, refl, sym, ap}
use Rattle.std.proofs.Common.{subst, ◌∙◌}
use Rattle.std.proofs.lemmas.Bool.Decides.{nat_tests}
use Rattle.std.specs.List.{splice}
use Rattle.std.specs.Map.{lookup, set_value}
use Rattle.rlsf_base.proofs.Words.Splices.{length-splice}
use Rattle.rlsf_model.specs.State.{State}
use Rattle.rlsf_example_libraries.specs.Handled.{Handled}
use Rattle.rlsf_example_libraries.specs.Capacities.{IsObjectPool}
use Rattle.rlsf_example_libraries.specs.Objects.{Writes, set_answer}
use Rattle.rlsf_example_libraries.specs.Tiles.{KeepsUniform}
use Rattle.rlsf_example_libraries.specs.declared.objects.SetError.{SetError}
use Rattle.rlsf_example_libraries.proofs.Capacities.{IsObjectPool-set, shown}
use Rattle.rlsf_example_libraries.proofs.Entries.{AllByRecursion-lookup}
use Rattle.rlsf_example_libraries.proofs.objects.Objects.set.Goals as goal

some_of : {A : Type 0} (o : Option A) (P : A → Type 0) → IsSomeAnd o P → (x : A) × (o ≡ Some x) × P x
some_of None P p = absurd p
some_of (Some x) P p = (x, refl, p)

within : (old : List ℕ) (end : ℕ) → Ok tt ≡ set_answer (Some old) end → end ≤ length old
within old end answer = grind (arith, nat_tests)

kept : (r : Result Unit SetError) (o n : Handled) (size align capacity handle offset : ℕ) (bytes : List ℕ) → IsObjectPool o size align capacity
    → r ≡ set_answer (lookup (nat_eq handle) o.lists) (offset + length bytes)
    → OnOk r (IsSomeAnd (lookup (nat_eq handle) o.lists) (λ old. n ≡ record o {
      lists = set_value (nat_eq handle) o.lists (splice old offset (offset + length bytes) bytes);
      state = n.state;
    }))
    → OnErr r (n ≡ o) → ((len : ℕ) → KeepsUniform o.state n.state len) → IsObjectPool n size align capacity
kept (Ok tt) o n size align capacity handle offset bytes pool answer written refused keeps =
    let (old, there, new) = some_of (lookup (nat_eq handle) o.lists) _ written in
    let room = within old (offset + length bytes) (answer ∙ ap (λ l. set_answer l (offset + length bytes)) there) in
    let same = length-splice old bytes offset (length bytes) room refl ∙ AllByRecursion-lookup (λ x. length x ≡ size) _ _ old pool.sized there in
    IsObjectPool-set o n size align capacity handle (splice old offset (offset + length bytes) bytes) same pool new keeps
kept (Err e) o n size align capacity handle offset bytes pool answer written refused keeps = subst (λ h. IsObjectPool h size align capacity) (sym refused) pool

pub invariant_of-self : goal.invariant_of-self
invariant_of-self c =
    let i = c.self.inside in
    kept c.write.result i.items c.write.new.self i.layout.size i.layout.align i.capacity _ _ _ c.self.invariant c.write.ensures.answer c.write.ensures.written
    c.write.ensures.refused c.write.ensures.uniform

written : (r : Result Unit SetError) (o n : Handled) (size align capacity handle offset : ℕ) (bytes : List ℕ) (s : State)
    → OnOk r (IsSomeAnd (lookup (nat_eq handle) o.lists) (λ old. n ≡ record o {
      lists = set_value (nat_eq handle) o.lists (splice old offset (offset + length bytes) bytes);
      state = s;
    }))
    → OnOk r (Writes (shown size align capacity o) handle offset bytes (shown size align capacity n))
written (Ok _) o n size align capacity handle offset bytes s did = seen (lookup (nat_eq handle) o.lists) did
  where
    seen : (old : Option (List ℕ)) → IsSomeAnd old (λ l. n ≡ record o {
      lists = set_value (nat_eq handle) o.lists (splice l offset (offset + length bytes) bytes);
      state = s;
    })
        → IsSomeAnd old (λ l. shown size align capacity n ≡ record
        (shown size align capacity o) { objects = set_value (nat_eq handle) o.lists (splice l offset (offset + length bytes) bytes) })
    seen None did = did
    seen (Some l) did = ap (shown size align capacity) did
written (Err e) o n size align capacity handle offset bytes s did = tt

pub returns : goal.returns
returns c = record {
  answer = rw (← c.self.view_is) c.write.ensures.answer;
  written =
      let i = c.self.inside in
      rw (← c.self.view_is) (written c.write.result i.items c.write.new.self i.layout.size i.layout.align i.capacity c.args.handle c.args.offset c.args.bytes.now _
      c.write.ensures.written);
  refused = search rules;
}
