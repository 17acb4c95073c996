use Rattle.std.proofs.Common.{arith, refl, sym, ◌∙◌}
use Rattle.rlsf_blocks.specs.Blocks.{walked}
use Rattle.rlsf_heap.specs.Heap.{Stands, Steps}
use Rattle.rlsf_tlsf.proofs.IdleRows.{idle_if, used_if}
use Rattle.rlsf_heap.proofs.Kept.{payloads_same}
use Rattle.rlsf_heap.proofs.heap.Heap.try_remove_pool.Goals as goal

pub returns-then-any_used-clause-step : goal.returns-then-any_used-clause-step
unfolding Steps Stands
returns-then-any_used-clause-step g c =
    let stands = c.memory_ref.ensures.stands in
    ((used_if stands (walked c.args.range) c.requires c.iter_blocks.result c.iter_blocks.ensures.blocks (sym c.any_used.ensures ∙ c.if-any_used.true), refl), stands)

pub remove_pool-requires : goal.remove_pool-requires
unfolding Stands
remove_pool-requires g c =
    let none = sym c.any_used.ensures ∙ c.if-any_used.false in
    (omega arith, (c.requires, idle_if c.memory_ref.ensures.stands (walked c.args.range) c.requires c.iter_blocks.result c.iter_blocks.ensures.blocks none))

pub returns-clause-step : goal.returns-clause-step
unfolding Steps Stands
returns-clause-step g c =
    let none = sym c.any_used.ensures ∙ c.if-any_used.false in
    let idle = idle_if c.memory_ref.ensures.stands (walked c.args.range) c.requires c.iter_blocks.result c.iter_blocks.ensures.blocks none in
    ((idle, c.remove_pool.ensures.step.0), c.remove_pool.ensures.step.1)

pub returns-then-any_used-clause-frame : goal.returns-then-any_used-clause-frame
returns-then-any_used-clause-frame g c = payloads_same c.args.self.now
