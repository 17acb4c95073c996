use Rattle.std.proofs.Common.{rules, map, sym, ◌∙◌}
use Rattle.std.proofs.lemmas.List.{length-map}
use Rattle.rlsf_example_libraries.specs.Queue.{place_of_entry}
use Rattle.rlsf_example_libraries.specs.Stored.{bytes_at_place}
use Rattle.rlsf_example_libraries.proofs.messages.Messages.blocks.Goals as goal

pub returns : goal.returns
returns c = record {
  used = rw (← c.self.view_is) (c.blocks-2.ensures.used _ c.self.invariant.0
      ∙ sym (length-map (map place_of_entry c.self.inside.entries.items) (bytes_at_place c.self.inside.store.heap.memory)));
  order = search rules;
  runs = search rules;
}
