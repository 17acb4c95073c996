use Rattle.std.proofs.Common.{rules, ◌-◌, arith, ap, refl, ◌∙◌}
use Rattle.rlsf_base.specs.Space.{Space}
use Rattle.rlsf_blocks.proofs.Deallocate.Loaded.{IsReadable-loaded, word_at-touched}
use Rattle.rlsf_blocks.proofs.Payloads.UnknownAlignment.{IsPayloadOf-holds, IsReadable-block, live_payload, sized, usable-sized}
use Rattle.rlsf_blocks.proofs.payload.load_usable_bytes.Goals as goal

pub load-requires : goal.load-requires
load-requires c =
    let (u, is, begins) = live_payload c.requires c.load_block_of-block.ensures.block in
    let touched = c.load_block_of-block.ensures.memory in
    IsReadable-loaded c.args.memory.now c.load_block_of-block.new.memory (ap (λ (m : Space). m.start) touched) (ap (λ (m : Space). m.bytes) touched)
    (ap (λ (m : Space). m.out) touched) (IsReadable-block is c.load_block_of-block.result begins)

pub used_end-end-requires : goal.used_end-end-requires
used_end-end-requires c =
    let (u, is, begins) = live_payload c.requires c.load_block_of-block.ensures.block in
    let size = c.load.ensures.word ∙ word_at-touched c.args.memory.now c.load_block_of-block.new.memory 2 c.load_block_of-block.ensures.memory c.load_block_of-block.result in
    let word = sized is c.load_block_of-block.result begins c.load.result size in
    record { used = omega (arith, word, is.in_block, is.within); fits = omega (arith, word, is.ends) }

pub overflow_sub-result : goal.overflow_sub-result
overflow_sub-result c =
    let (u, is, begins) = live_payload c.requires c.load_block_of-block.ensures.block in
    let size = c.load.ensures.word ∙ word_at-touched c.args.memory.now c.load_block_of-block.new.memory 2 c.load_block_of-block.ensures.memory c.load_block_of-block.result in
    omega (arith, sized is c.load_block_of-block.result begins c.load.result size, is.within, c.used_end-end.ensures)

pub returns : goal.returns
returns c = record {
  range = λ fllen sllen v s u same stands holds.
      let size = c.load.ensures.word ∙ word_at-touched c.args.memory.now c.load_block_of-block.new.memory 2 c.load_block_of-block.ensures.memory c.load_block_of-block.result in
      usable-sized (IsPayloadOf-holds u same stands holds) c.load_block_of-block.result (c.load_block_of-block.ensures.block fllen sllen v s u same stands holds) c.load.result size
      _ refl (ap (λ e. e - c.args.payload) c.used_end-end.ensures);
  memory = search rules;
}
