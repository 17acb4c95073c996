use Rattle.std.proofs.Common.{arith}
use Rattle.rlsf_blocks.proofs.Payloads.UnknownAlignment.{IsPayloadOf-holds, IsReadable-named, fits_named, begins_first, begins_behind, begins_there, live_one}
use Rattle.rlsf_blocks.proofs.payload.block_of.Goals as goal

pub overflow_sub-payload : goal.overflow_sub-payload
overflow_sub-payload c = omega (arith, (live_one c.requires).1.in_block)

pub word-named-requires : goal.word-named-requires
word-named-requires c = (live_one c.requires).1.word

pub overflow_sub-nearest : goal.overflow_sub-nearest
overflow_sub-nearest c = omega (arith, (live_one c.requires).1.in_block)

pub returns-then-named-eq0 : goal.returns-then-named-eq0
returns-then-named-eq0 c = λ fllen sllen v s u same stands holds.
    begins_first (IsPayloadOf-holds u same stands holds) c.word-named.result c.word-named.ensures c.if-named-eq0.true

pub word-requires : goal.word-requires
word-requires c =
    IsReadable-named (live_one c.requires).1 c.word-named.result c.word-named.ensures c.if-named-eq0.false

pub overflow_add-end : goal.overflow_add-end
overflow_add-end c =
    omega (arith, fits_named (live_one c.requires).1 c.word-named.result c.word-named.ensures c.word.result c.if-named-eq0.false c.word.ensures)

pub returns-then-payload-end : goal.returns-then-payload-end
returns-then-payload-end c = λ fllen sllen v s u same stands holds.
    begins_behind (IsPayloadOf-holds u same stands holds) c.word-named.result c.word-named.ensures c.word.result c.word.ensures c.if-payload-end.true

pub returns-else-payload-end : goal.returns-else-payload-end
returns-else-payload-end c = λ fllen sllen v s u same stands holds.
    begins_there (IsPayloadOf-holds u same stands holds) c.word-named.result c.word-named.ensures c.word.result c.if-named-eq0.false c.word.ensures c.if-payload-end.false
