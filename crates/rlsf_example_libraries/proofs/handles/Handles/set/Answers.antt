use Rattle.std.proofs.Common.{rules, ◌≡◌, ◌<◌, None, nat_eq, sym, ap, subst, ◌∙◌}
use Rattle.std.specs.Map.{lookup, set_value}
use Rattle.rlsf_example_libraries.specs.Handled.{AreBelow}
use Rattle.rlsf_example_libraries.proofs.Entries.{AllByRecursion-set_value, is_at-nat_cmp, set_value-absent}
use Rattle.rlsf_example_libraries.proofs.handles.Handles.set.Goals as goal
use Rattle.rlsf_example_libraries.proofs.handles.Handles.set.Goals.{in-Some, in_default}

changed : (c : goal.Joined-get_mut) → c.match-get_mut.self-inside.rows.entries ≡ set_value (nat_eq c.args.handle) c.self.inside.rows.entries c.args.spot
changed c = elim c.match-get_mut.branch [
  | in-Some w ↦ ap (λ h. h.rows.entries) w.self-inside-is ∙ (c.get_mut.follows.holds c.args.spot).0 ∙ ap (λ t. set_value t c.self.inside.rows.entries c.args.spot)
      (is_at-nat_cmp c.args.handle)
  | in_default w ↦ ap (λ h. h.rows.entries) w.self-inside-is ∙ ap (λ m. m.entries) c.get_mut.follows.holds-at-none
      ∙ sym (set_value-absent _ _ _ (subst (λ t. lookup t c.self.inside.rows.entries ≡ None) (is_at-nat_cmp c.args.handle) (sym w.in_default.ensures.value)))
]

same_next : (c : goal.Joined-get_mut) → c.match-get_mut.self-inside.next ≡ c.self.inside.next
same_next c = elim c.match-get_mut.branch [ in-Some w ↦ ap (λ h. h.next) w.self-inside-is | in_default w ↦ ap (λ h. h.next) w.self-inside-is ]

pub invariant_of-self : goal.invariant_of-self
invariant_of-self c =
    let below : AreBelow c.match-get_mut.self-inside.rows.entries c.match-get_mut.self-inside.next =
    rw (changed c, same_next c) (AllByRecursion-set_value (λ e. e.0 < c.self.inside.next) _ _ _ (λ _ _ below. below) c.self.invariant) in
    below

pub returns : goal.returns
returns c = record {
  rows = rw (← c.self.view_is) (changed c);
  next = search rules;
}
