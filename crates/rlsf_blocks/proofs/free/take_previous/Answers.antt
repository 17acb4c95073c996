use Rattle.std.proofs.Common.{arith, refl, rules}
use Rattle.rlsf_table.proofs.FreeLists.Counted.{IsFreeTable-counted}
use Rattle.rlsf_blocks.proofs.Deallocate.Loaded.{IsMarked-loaded, IsNextOut-loaded}
use Rattle.rlsf_blocks.proofs.Deallocate.Marks.{IsMarked-previous, IsPreviousOut-none, length_before, previous_out, previous_word}
use Rattle.rlsf_blocks.proofs.RepresentedStates.FreeBlocks.{IsFreeTable-free}
use Rattle.rlsf_blocks.proofs.Words.Apart.{used_in_memory}
use Rattle.rlsf_table.proofs.Costs.{Costs-loaded, Costs-then, Costs-within}
use Rattle.rlsf_blocks.proofs.free.take_previous.Goals as goal

pub overflow_add-block : goal.overflow_add-block
overflow_add-block g c =
    let (s, u, v, i, at) = c.requires.used in
    record { fits = omega (arith, at, used_in_memory v.well_formed u i, v.well_formed.addressable) }

pub load_at-previous-requires-clause-place : goal.load_at-previous-requires-clause-place
load_at-previous-requires-clause-place g c =
    let (s, u, v, i, at) = c.requires.used in
    previous_word v u i at refl

pub take_free-requires : goal.take_free-requires
take_free-requires g c =
    let (s, u, v, i, at) = c.requires.used in
    let n = c.load_at-previous.new.self in
    let read = c.load_at-previous.ensures in
    let marked = IsMarked-loaded c.args.memory.now n read.start read.bytes read.out (IsMarked-previous v u i at read.word c.if-previous-eq0.false) in
    (omega arith, (c.requires.parameters, ((s.free, IsFreeTable-counted c.args.memory.now n read.start read.bytes read.out (IsFreeTable-free v), marked), search rules)))

pub returns-then-previous-eq0 : goal.returns-then-previous-eq0
returns-then-previous-eq0 g c =
    let read = c.load_at-previous.ensures in
    record {
      step = λ s u v i at. IsPreviousOut-none v u i at read.word c.load_at-previous.new.self read.start read.bytes read.out c.if-previous-eq0.true;
      costs = Costs-within (omega arith) (Costs-loaded c.args.memory.now c.load_at-previous.new.self read.start read.bytes read.touches read.copied read.view read.out);
    }

pub returns-in-Some : goal.returns-in-Some
returns-in-Some g c =
    let m = c.args.memory.now in
    let n = c.load_at-previous.new.self in
    let read = c.load_at-previous.ensures in
    record {
      step = λ s u v i at.
          let some = c.if-previous-eq0.false in
          let marked = IsMarked-loaded m n read.start read.bytes read.out (IsMarked-previous v u i at read.word some) in
          let list = IsFreeTable-counted m n read.start read.bytes read.out (IsFreeTable-free v) in
          let next = IsNextOut-loaded m n read.start read.bytes read.out (c.in-Some.ensures.step s.free list marked) in
          previous_out v u i at read.word some next (omega (arith, (length_before v u i at read.word some next.end).ends c.in-Some.ensures.some));
      costs = Costs-then (Costs-loaded m n read.start read.bytes read.touches read.copied read.view read.out) c.in-Some.ensures.costs;
    }

pub returns-in-None : goal.returns-in-None
returns-in-None g c =
    let m = c.args.memory.now in
    let n = c.load_at-previous.new.self in
    let read = c.load_at-previous.ensures in
    record {
      step = λ s u v i at.
          let marked = IsMarked-loaded m n read.start read.bytes read.out (IsMarked-previous v u i at read.word c.if-previous-eq0.false) in
          let list = IsFreeTable-counted m n read.start read.bytes read.out (IsFreeTable-free v) in
          let next = IsNextOut-loaded m n read.start read.bytes read.out (c.in-None.ensures.step s.free list marked) in
          previous_out v u i at read.word c.if-previous-eq0.false next (omega arith);
      costs = Costs-then (Costs-loaded m n read.start read.bytes read.touches read.copied read.view read.out) c.in-None.ensures.costs;
    }
