use Rattle.std.proofs.Common.{◌∙◌, rules, arith, refl}
use Rattle.rlsf_blocks.proofs.Deallocate.Loaded.{IsMarked-loaded}
use Rattle.rlsf_blocks.proofs.Deallocate.Marks.{IsMarked-previous, IsPreviousOut-none, length_before, previous_word}
use Rattle.rlsf_blocks.proofs.Deallocate.TakenIfFree.{block_there, odd_from}
use Rattle.rlsf_blocks.proofs.Reallocate.Lengths.{end_free, end_used}
use Rattle.rlsf_table.proofs.FreeLists.Counted.{IsFreeTable-counted}
use Rattle.rlsf_blocks.proofs.RepresentedStates.FreeBlocks.{IsFreeTable-free}
use Rattle.rlsf_blocks.proofs.Words.Apart.{used_in_memory}
use Rattle.rlsf_blocks.proofs.reallocation.previous.start_before.Goals as goal

pub overflow_add-block : goal.overflow_add-block
overflow_add-block c =
    let (fllen, sllen, t, s, u, v, i, at) = c.requires.used in
    record { fits = omega (arith, at, used_in_memory v.well_formed u i, v.well_formed.addressable) }

pub load_at-previous-requires-clause-place : goal.load_at-previous-requires-clause-place
load_at-previous-requires-clause-place c =
    let (fllen, sllen, t, s, u, v, i, at) = c.requires.used in
    previous_word v u i at refl

pub load_at-size-requires-clause-place : goal.load_at-size-requires-clause-place
load_at-size-requires-clause-place c =
    let (fllen, sllen, t, s, u, v, i, at) = c.requires.used in
    let m = c.args.memory.now in
    let read = c.load_at-previous.ensures in
    let marked = IsMarked-loaded m c.load_at-previous.new.self read.start read.bytes read.out (IsMarked-previous v u i at read.word c.if-previous-eq0.false) in
    marked.word

pub overflow_sub-result : goal.overflow_sub-result
overflow_sub-result c =
    let (fllen, sllen, t, s, u, v, i, at) = c.requires.used in
    let m = c.args.memory.now in
    let read = c.load_at-previous.ensures in
    let marked = IsMarked-loaded m c.load_at-previous.new.self read.start read.bytes read.out (IsMarked-previous v u i at read.word c.if-previous-eq0.false) in
    let list = IsFreeTable-counted m c.load_at-previous.new.self read.start read.bytes read.out (IsFreeTable-free v) in
    let long = end_free list marked c.load_at-size.ensures.word (c.is_free.ensures.0 c.if-not-is_free.false) in
    (length_before v u i at read.word c.if-previous-eq0.false long).within

pub returns-then-previous-eq0 : goal.returns-then-previous-eq0
returns-then-previous-eq0 c = record {
  start = λ fllen sllen t s u v i at. tt;
  none = λ fllen sllen t s u v i at.
      (IsPreviousOut-none v u i at c.load_at-previous.ensures.word c.load_at-previous.new.self c.load_at-previous.ensures.start c.load_at-previous.ensures.bytes
      c.load_at-previous.ensures.out c.if-previous-eq0.true).begins;
  counts = search rules;
}

pub returns-then-not-is_free : goal.returns-then-not-is_free
returns-then-not-is_free c = record {
  start = λ fllen sllen t s u v i at. tt;
  none = λ fllen sllen t s u v i at.
      let m = c.args.memory.now in
      let read = c.load_at-previous.ensures in
      let marked = IsMarked-loaded m c.load_at-previous.new.self read.start read.bytes read.out (IsMarked-previous v u i at read.word c.if-previous-eq0.false) in
      let list = IsFreeTable-counted m c.load_at-previous.new.self read.start read.bytes read.out (IsFreeTable-free v) in
      let long = end_used list marked c.load_at-size.ensures.word (odd_from c.load_at-size.result c.is_free.ensures c.if-not-is_free.true) in
      omega arith ∙ (length_before v u i at read.word c.if-previous-eq0.false long).begins;
  counts = search rules;
}

-- a free block isn't empty, so it begins at another address
pub returns : goal.returns
returns c = record {
  start = λ fllen sllen t s u v i at.
      let m = c.args.memory.now in
      let read = c.load_at-previous.ensures in
      let marked = IsMarked-loaded m c.load_at-previous.new.self read.start read.bytes read.out (IsMarked-previous v u i at read.word c.if-previous-eq0.false) in
      let list = IsFreeTable-counted m c.load_at-previous.new.self read.start read.bytes read.out (IsFreeTable-free v) in
      let free = c.is_free.ensures.0 c.if-not-is_free.false in
      let before = length_before v u i at read.word c.if-previous-eq0.false (end_free list marked c.load_at-size.ensures.word free) in
      let (f, j, begins, long) = block_there list marked c.load_at-size.ensures.word free in
      let placed = list.placed f j in (before.begins, λ same. omega (arith, placed.room, long, before.within, same));
  none = λ fllen sllen t s u v i at. tt;
  counts = search rules;
}
