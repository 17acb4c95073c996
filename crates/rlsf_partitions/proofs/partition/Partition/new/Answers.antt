use Rattle.std.proofs.Common.{sym, subst, ◌∙◌}
use Rattle.rlsf_partitions.specs.Tiled.{IsPartition}
use Rattle.rlsf_partitions.proofs.Tiles.{IsPartition-new}
use Rattle.rlsf_partitions.proofs.partition.Partition.new.Goals as goal

pub invariant_of-result : goal.invariant_of-result
invariant_of-result c =
    let w = c.insert_free_block_ptr.new.self in
    let layout = c.in-Ok.layout in
    let made = IsPartition-new c.new-heap.result w c.args.count c.args.size c.in-Some.len c.in-Some.asked layout.align _ (sym c.in-Some.ensures)
    c.in-Ok.ensures.layout.1 c.new-heap.ensures.state c.insert_free_block_ptr.ensures.step (c.insert_free_block_ptr.ensures.frame.count ∙ c.new-heap.ensures.count) in
    subst (λ n. IsPartition w n layout.align c.args.size c.args.count) (sym c.in-Ok.ensures.layout.0) made
