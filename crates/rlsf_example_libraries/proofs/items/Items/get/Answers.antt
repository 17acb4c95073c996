use Rattle.std.proofs.Common.{rules, ℕ, List, Some, nat_eq, refl, sym, ap, ◌∙◌}
use Rattle.std.specs.Option.{option_map}
use Rattle.rlsf_example_libraries.specs.Handled.{place_at}
use Rattle.rlsf_example_libraries.specs.declared.handles.Spot.{Spot}
use Rattle.rlsf_example_libraries.specs.Stored.{bytes_at_place}
use Rattle.rlsf_example_libraries.proofs.Entries.{lookup-map_values}
use Rattle.rlsf_example_libraries.proofs.HandledStores.{absent, stored_at}
use Rattle.rlsf_example_libraries.proofs.items.Items.get.Goals as goal

pub returns-in_default : goal.returns-in_default
returns-in_default c = record {
  known = search rules;
  unknown = rw (← c.self.view_is) (absent c.self.inside.store c.self.inside.align c.self.inside.handles.rows c.args.handle (sym c.get.ensures ∙ c.in_default.is));
}

pub read-requires : goal.read-requires
read-requires c =
    let a = stored_at c.self.inside.handles c.self.invariant c.args.handle c.in-Some.spot (sym c.get.ensures ∙ c.in-Some.is) in
    (a.before, a.after, _, a.has, refl, refl)

pub returns : goal.returns
returns c = record {
  known =
      let here : Spot → List ℕ = λ s. bytes_at_place c.self.inside.store.heap.memory (place_at c.self.inside.align s) in
      rw (← c.self.view_is) (lookup-map_values here (nat_eq c.args.handle) c.self.inside.handles.rows ∙ ap (option_map here) (sym c.get.ensures ∙ c.in-Some.is)
      ∙ ap Some (sym c.read.ensures.bytes));
  unknown = search rules;
}
