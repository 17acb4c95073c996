use Rattle.std.proofs.Common.{rules, ◌≡◌, List, length, lit<, sym, subst, ap, ◌∙◌}
use Rattle.std.proofs.lemmas.List.{length-map}
use Rattle.rlsf_example_libraries.specs.Stored.{KeepsAt, Place, StoreContents, place_of, used_count}
use Rattle.rlsf_example_libraries.proofs.UsedBlocks.{used_count-stored}
use Rattle.rlsf_example_libraries.proofs.store.Store.blocks.Goals as goal

pub iter_blocks-requires : goal.iter_blocks-requires
iter_blocks-requires c =
    let (places, (all, store, at)) = subst (λ (now : StoreContents). (places : List Place) × KeepsAt now places) (sym c.self.view_is) c.requires in
    (lit< tt, store.row)

pub returns : goal.returns
returns c = record {
  used =
      subst (λ (now : StoreContents). (places : List Place) → KeepsAt now places → used_count c.iter_blocks.result ≡ length places) c.self.view_is
      (λ places (all, store, at). used_count-stored store c.iter_blocks.result c.iter_blocks.ensures.blocks ∙ sym (length-map all place_of) ∙ ap length at);
  order = c.iter_blocks.ensures.blocks.in_order;
  runs = search rules;
}
