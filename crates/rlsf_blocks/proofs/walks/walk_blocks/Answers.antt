use Rattle.std_collections.proofs.IterRuns.{gives_in_order}
use Rattle.rlsf_blocks.specs.Blocks.{walked}
use Rattle.rlsf_blocks.proofs.Walking.Rows.{AreBlocks-span, IsAtBlock-span}
use Rattle.rlsf_blocks.proofs.walks.walk_blocks.Goals as goal

pub invariant_of-result : goal.invariant_of-result
invariant_of-result c =
    let (fllen, sllen, t, s, v, row) = c.requires in
    (fllen, sllen, t, s, v, IsAtBlock-span v (walked c.args.range) _ _ (c.span-start.ensures fllen sllen _ t s v row) row)

pub returns : goal.returns
returns c = record {
  blocks = λ fllen sllen t s v row. AreBlocks-span v (walked c.args.range) _ _ (c.span-start.ensures fllen sllen _ t s v row) row;
  runs = gives_in_order;
}
