use Rattle.std.proofs.Common.{rules, ◌∙◌}
use Rattle.rlsf_example_libraries.proofs.HandledStores.{length-lists_in}
use Rattle.rlsf_example_libraries.proofs.items.Items.blocks.Goals as goal

pub returns : goal.returns
returns c = record {
  used = rw (← c.self.view_is) (c.blocks-2.ensures.used _ c.self.invariant ∙ length-lists_in c.self.inside.store c.self.inside.align c.self.inside.handles.rows);
  order = search rules;
  runs = search rules;
}
