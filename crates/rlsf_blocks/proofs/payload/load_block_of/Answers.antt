use Rattle.std.proofs.Common.{rules, arith, ◌∙◌}
use Rattle.rlsf_table.proofs.FreeLists.Counted.{word_at-counted}
use Rattle.rlsf_blocks.proofs.Deallocate.Loaded.{IsReadable-loaded}
use Rattle.rlsf_blocks.proofs.Payloads.UnknownAlignment.{IsPayloadOf-holds, IsReadable-named, fits_named, begins_first, begins_behind, begins_there, live_one}
use Rattle.rlsf_blocks.proofs.payload.load_block_of.Goals as goal

pub overflow_sub-payload : goal.overflow_sub-payload
overflow_sub-payload c = omega (arith, (live_one c.requires).1.in_block)

pub load-named-requires : goal.load-named-requires
load-named-requires c = (live_one c.requires).1.word

pub overflow_sub-nearest : goal.overflow_sub-nearest
overflow_sub-nearest c = omega (arith, (live_one c.requires).1.in_block)

pub returns-then-named-eq0 : goal.returns-then-named-eq0
returns-then-named-eq0 c = record {
  block = λ fllen sllen v s u same stands holds.
      begins_first (IsPayloadOf-holds u same stands holds) c.load-named.result c.load-named.ensures.word c.if-named-eq0.true;
  memory = search rules;
}

pub load-requires : goal.load-requires
load-requires c =
    IsReadable-loaded c.args.memory.now c.load-named.new.self c.load-named.ensures.start c.load-named.ensures.bytes c.load-named.ensures.out
    (IsReadable-named (live_one c.requires).1 c.load-named.result c.load-named.ensures.word c.if-named-eq0.false)

pub overflow_add-end : goal.overflow_add-end
overflow_add-end c =
    let size =
    c.load.ensures.word ∙ word_at-counted c.args.memory.now c.load-named.new.self c.load-named.ensures.start c.load-named.ensures.bytes c.load-named.ensures.out
    c.load-named.result in
    record { fits = omega (arith, fits_named (live_one c.requires).1 c.load-named.result c.load-named.ensures.word c.load.result c.if-named-eq0.false size) }

pub returns-then-payload-end : goal.returns-then-payload-end
returns-then-payload-end c = record {
  block = λ fllen sllen v s u same stands holds.
      let size =
      c.load.ensures.word ∙ word_at-counted c.args.memory.now c.load-named.new.self c.load-named.ensures.start c.load-named.ensures.bytes c.load-named.ensures.out
      c.load-named.result in
      begins_behind (IsPayloadOf-holds u same stands holds) c.load-named.result c.load-named.ensures.word c.load.result size c.if-payload-end.true;
  memory = search rules;
}

pub returns-else-payload-end : goal.returns-else-payload-end
returns-else-payload-end c = record {
  block = λ fllen sllen v s u same stands holds.
      let size =
      c.load.ensures.word ∙ word_at-counted c.args.memory.now c.load-named.new.self c.load-named.ensures.start c.load-named.ensures.bytes c.load-named.ensures.out
      c.load-named.result in
      begins_there (IsPayloadOf-holds u same stands holds) c.load-named.result c.load-named.ensures.word c.load.result c.if-named-eq0.false size c.if-payload-end.false;
  memory = search rules;
}
