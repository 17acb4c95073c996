use Rattle.std.proofs.Common.{◌-◌, arith, refl, ap}
use Rattle.rlsf_blocks.proofs.Payloads.UnknownAlignment.{IsPayloadOf-holds, IsReadable-block, live_payload, sized, usable-sized}
use Rattle.rlsf_blocks.proofs.payload.usable_bytes.Goals as goal

pub word-requires : goal.word-requires
word-requires c =
    let (u, is, begins) = live_payload c.requires c.block_of-block.ensures in
    IsReadable-block is c.block_of-block.result begins

pub used_end-end-requires : goal.used_end-end-requires
used_end-end-requires c =
    let (u, is, begins) = live_payload c.requires c.block_of-block.ensures in
    let word = sized is c.block_of-block.result begins c.word.result c.word.ensures in
    record { used = omega (arith, word, is.in_block, is.within); fits = omega (arith, word, is.ends) }

pub overflow_sub-result : goal.overflow_sub-result
overflow_sub-result c =
    let (u, is, begins) = live_payload c.requires c.block_of-block.ensures in
    omega (arith, sized is c.block_of-block.result begins c.word.result c.word.ensures, is.within, c.used_end-end.ensures)

pub returns : goal.returns
returns c = λ fllen sllen v s u same stands holds.
    usable-sized (IsPayloadOf-holds u same stands holds) c.block_of-block.result (c.block_of-block.ensures fllen sllen v s u same stands holds) c.word.result c.word.ensures _ refl
    (ap (λ e. e - c.args.payload) c.used_end-end.ensures)
