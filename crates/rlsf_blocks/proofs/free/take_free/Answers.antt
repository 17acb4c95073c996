use Rattle.std.proofs.Common.{arith, rules}
use Rattle.rlsf_table.proofs.FreeLists.Counted.{IsFreeTable-counted}
use Rattle.rlsf_blocks.proofs.Deallocate.Loaded.{IsMarked-loaded, IsNextOut-loaded, word_at-loaded}
use Rattle.rlsf_blocks.proofs.Deallocate.TakenIfFree.{block_there, IsNextOut-none, IsNextOut-unlinked, odd_from}
use Rattle.rlsf_table.proofs.Costs.{Costs-loaded, Costs-then, Costs-within}
use Rattle.rlsf_blocks.proofs.free.take_free.Goals as goal

pub unlink_free_block-requires : goal.unlink_free_block-requires
unlink_free_block-requires g c =
    let (free, list, marked) = c.requires.marked in
    let (r, i, at, long) = block_there list marked c.load_at-size.ensures.word (c.is_free.ensures.0 c.if-is_free.true) in
    let listed = IsFreeTable-counted c.args.memory.now c.load_at-size.new.self c.load_at-size.ensures.start c.load_at-size.ensures.bytes c.load_at-size.ensures.out list in
    (omega arith, (c.requires.parameters, ((r, free, at, long, i, listed), search rules)))

pub returns-else-is_free : goal.returns-else-is_free
returns-else-is_free g c =
    let n = c.load_at-size.new.self in
    let read = c.load_at-size.ensures in
    record {
      step = λ free list marked.
          IsNextOut-none list marked n read.start read.bytes read.out read.word (odd_from c.load_at-size.result c.is_free.ensures c.if-is_free.false);
      some = tt;
      costs = Costs-within (omega arith) (Costs-loaded c.args.memory.now n read.start read.bytes read.touches read.copied read.view read.out);
    }

pub returns-then-is_free : goal.returns-then-is_free
returns-then-is_free g c =
    let m = c.args.memory.now in
    let n = c.load_at-size.new.self in
    let read = c.load_at-size.ensures in
    record {
      step = λ free list marked.
          let size = word_at-loaded m n read.start read.bytes read.out c.args.block c.load_at-size.result read.word in
          IsNextOut-loaded m n read.start read.bytes read.out
          (IsNextOut-unlinked (IsFreeTable-counted m n read.start read.bytes read.out list) (IsMarked-loaded m n read.start read.bytes read.out marked) size
          (c.is_free.ensures.0 c.if-is_free.true) c.unlink_free_block.ensures.step);
      some =
          let (free, list, marked) = c.requires.marked in
          let (r, i, at, long) = block_there list marked read.word (c.is_free.ensures.0 c.if-is_free.true) in
          omega (arith, long, (list.blocks r i).some);
      costs = Costs-then (Costs-loaded m n read.start read.bytes read.touches read.copied read.view read.out) c.unlink_free_block.ensures.costs;
    }
