use Rattle.std.proofs.Common.{rules, arith, refl, subst, sym}
use Rattle.rlsf_blocks.specs.Steps.Previous.{IsPlaceBefore}
use Rattle.rlsf_blocks.proofs.RepresentedStates.Counted.{StandsFor-counted}
use Rattle.rlsf_blocks.proofs.RepresentedStates.FreeBlocks.{IsFreeTable-free}
use Rattle.rlsf_blocks.proofs.Deallocate.Marks.{IsMarked-end}
use Rattle.rlsf_blocks.proofs.Reallocate.Previous.{FitsBefore-computed, block-le, end-in_memory, into_previous-refused, none_before, payload-le, previous-le, room_behind}
use Rattle.rlsf_blocks.proofs.reallocation.previous.place_before.Goals as goal

pub returns-in_err-start : goal.returns-in_err-start
returns-in_err-start c = record {
  place = λ fllen sllen t s u v is.
      subst (IsPlaceBefore s u c.args.layout.size) (sym c.from_residual.ensures)
      (none_before v.well_formed u is (c.in_err-start.ensures.none fllen sllen t s u v is.is_used is.start) c.args.layout.size refl);
  counts = search rules;
}

pub overflow_add-start : goal.overflow_add-start
overflow_add-start c =
    let (fllen, sllen, t, s, u, v, is) = c.requires.used in
    let begins = (c.in_ok-start.ensures.start fllen sllen t s u v is.is_used is.start).0 in
    record { fits = omega (arith, previous-le v.well_formed u is begins, block-le v.well_formed u is begins, end-in_memory v.well_formed u is begins, v.well_formed.addressable) }

pub align_up-payload-requires : goal.align_up-payload-requires
align_up-payload-requires c =
    let (fllen, sllen, t, s, u, v, is) = c.requires.used in
    let begins = (c.in_ok-start.ensures.start fllen sllen t s u v is.is_used is.start).0 in
    record { fits = omega (arith, payload-le v.well_formed u is begins, end-in_memory v.well_formed u is begins, v.well_formed.addressable) }

pub overflow_sub-room : goal.overflow_sub-room
overflow_sub-room c =
    let (fllen, sllen, t, s, u, v, is) = c.requires.used in
    let begins = (c.in_ok-start.ensures.start fllen sllen t s u v is.is_used is.start).0 in
    omega (arith, previous-le v.well_formed u is begins, block-le v.well_formed u is begins)

pub free_length-requires-clause-marked : goal.free_length-requires-clause-marked
free_length-requires-clause-marked c =
    let (fllen, sllen, t, s, u, v, is) = c.requires.used in
    let counts = c.in_ok-start.ensures.counts in
    let v0 = StandsFor-counted c.args.memory.now c.start_before.new.memory counts.start counts.bytes counts.out v in
    (fllen, sllen, t, s.free, IsFreeTable-free v0, IsMarked-end v0 u is.is_used c.args.end is.end_is)

pub overflow_add-room : goal.overflow_add-room
overflow_add-room c =
    let (fllen, sllen, t, s, u, v, is) = c.requires.used in
    let begins = (c.in_ok-start.ensures.start fllen sllen t s u v is.is_used is.start).0 in
    let counts = c.in_ok-start.ensures.counts in
    let v0 = StandsFor-counted c.args.memory.now c.start_before.new.memory counts.start counts.bytes counts.out v in
    let long = c.free_length.ensures.length fllen sllen t s.free (IsFreeTable-free v0) (IsMarked-end v0 u is.is_used c.args.end is.end_is) in
    record { fits = omega (arith, room_behind v.well_formed u is begins c.free_length.result long, v.well_formed.addressable) }

pub returns-then-taken-room : goal.returns-then-taken-room
returns-then-taken-room c = record {
  place = λ fllen sllen t s u v is.
      let begins = (c.in_ok-start.ensures.start fllen sllen t s u v is.is_used is.start).0 in
      let counts = c.in_ok-start.ensures.counts in
      let v0 = StandsFor-counted c.args.memory.now c.start_before.new.memory counts.start counts.bytes counts.out v in
      let long = c.free_length.ensures.length fllen sllen t s.free (IsFreeTable-free v0) (IsMarked-end v0 u is.is_used c.args.end is.end_is) in
      into_previous-refused v.well_formed u is begins (c.in_ok-start.ensures.start fllen sllen t s u v is.is_used is.start).1 c.free_length.result long
      refl c.size.ensures.value c.align_up-payload.ensures.value c.next_multiple_of_32-taken.ensures.value c.if-taken-room.true;
  counts = search rules;
}

pub returns : goal.returns
returns c = record {
  place = λ fllen sllen t s u v is.
      let begins = (c.in_ok-start.ensures.start fllen sllen t s u v is.is_used is.start).0 in
      let counts = c.in_ok-start.ensures.counts in
      let v0 = StandsFor-counted c.args.memory.now c.start_before.new.memory counts.start counts.bytes counts.out v in
      let long = c.free_length.ensures.length fllen sllen t s.free (IsFreeTable-free v0) (IsMarked-end v0 u is.is_used c.args.end is.end_is) in
      FitsBefore-computed v.well_formed u is begins (c.in_ok-start.ensures.start fllen sllen t s u v is.is_used is.start).1 c.free_length.result long
      refl c.size.ensures.value c.align_up-payload.ensures.value c.next_multiple_of_32-taken.ensures.value (omega (arith, c.if-taken-room.false));
  counts = search rules;
}
