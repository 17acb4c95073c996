use Rattle.std.proofs.Common.{◌≡◌, ◌+◌, ◌-◌, arith, ◌∙◌, ap, subst, refl}
use Rattle.std.specs.Int.{next_multiple_of}
use Rattle.rlsf_base.specs.Range.{end_of}
use Rattle.rlsf_base.specs.Space.{word_at}
use Rattle.rlsf_base.proofs.Lending.Present.{owned-same}
use Rattle.rlsf_model.proofs.Payloads.{IsUsed-after_start}
use Rattle.rlsf_model.proofs.Names.{resized}
use Rattle.rlsf_model.specs.State.{State, Used, between}
use Rattle.rlsf_blocks.specs.StandsFor.{contents, StandsFor}
use Rattle.rlsf_blocks.specs.Steps.Resize.{HasRoomBehind, IsUsedAt}
use Rattle.rlsf_base.proofs.Numbers.Roundings.{next_multiple_of-lt}
use Rattle.rlsf_table.proofs.FreeLists.Counted.{IsFreeTable-counted, word_at-counted}
use Rattle.rlsf_blocks.proofs.Words.Apart.{used_in_memory}
use Rattle.rlsf_blocks.proofs.Words.NeverOut.{used_word}
use Rattle.rlsf_blocks.proofs.RepresentedStates.Counted.{KeepsSpare-counted_first, StandsFor-counted}
use Rattle.rlsf_blocks.proofs.RepresentedStates.FreeBlocks.{IsFreeTable-free}
use Rattle.rlsf_blocks.proofs.Reallocate.Computations.{end_is, IsMarked-loaded_end, reach_is, taken_computed}
use Rattle.rlsf_blocks.proofs.Reallocate.NextPlans.{kept_whole, no_plan, or_else-kept}
use Rattle.rlsf_blocks.proofs.Reallocate.Resized.{IsCarriedOut-kept}
use Rattle.rlsf_blocks.proofs.Reallocate.Spans.{reach, span_in_memory}
use Rattle.rlsf_table.specs.Counts.{Counts}
use Rattle.rlsf_table.proofs.Costs.{Costs-counted, Costs-loaded, Costs-then, Costs-within}
use Rattle.rlsf_blocks.proofs.Counting.{Counts-counted_first, Counts-loaded}
use Rattle.rlsf_blocks.proofs.Words.Stays.{Stays, Stays-same, Stays-then}
use Rattle.rlsf_blocks.proofs.reallocation.resize.resize_kept_block.Given as given
use Rattle.rlsf_blocks.proofs.reallocation.resize.resize_kept_block.Goals as goal
use Rattle.rlsf_blocks.proofs.reallocation.resize.resize_kept_block.Goals.{After-free_length}

pub load_at-requires-clause-place : goal.load_at-requires-clause-place
load_at-requires-clause-place g c = let (s, u, v, at, own) = c.requires.used in used_word v u at.is_used c.args.block at.start

pub overflow_add-front : goal.overflow_add-front
overflow_add-front g c = record { fits = omega (arith, c.requires.fits, c.size.ensures.value) }

pub next_multiple_of_32-taken-requires : goal.next_multiple_of_32-taken-requires
next_multiple_of_32-taken-requires g c =
    let rounded = next_multiple_of-lt (c.args.payload - c.args.block + c.size.result) 32 (omega arith) in
    record { fits = omega (arith, rounded, c.requires.fits, c.size.ensures.value) }

pub overflow_add-end : goal.overflow_add-end
overflow_add-end g c =
    let (s, u, v, at, own) = c.requires.used in
    record { fits = omega (arith, end_is v u at c.load_at.ensures.word c.len_of_used-len.ensures, used_in_memory v.well_formed u at.is_used, v.well_formed.addressable) }

pub free_length-requires-clause-marked : goal.free_length-requires-clause-marked
free_length-requires-clause-marked g c =
    let (s, u, v, at, own) = c.requires.used in
    let read = c.load_at.ensures in
    let list = IsFreeTable-counted c.args.memory.now c.load_at.new.self read.start read.bytes read.out (IsFreeTable-free v) in
    (g.row.FLLEN, g.row.SLLEN, c.args.table.now, s.free, list, IsMarked-loaded_end v u at read.word c.len_of_used-len.ensures read.start read.bytes read.out)

-- where the block ends with its new size, and where a free block behind it ends, or the block itself
ends : (g : given.Over) (c : After-free_length g) {s : State} (v : StandsFor g.row.FLLEN g.row.SLLEN (contents c.args.memory.now c.args.table.now) s) (u : Used)
    → IsUsedAt s u c.args.block c.args.payload u.align → (end_of (resized u c.args.layout.size) ≡ c.args.block + c.next_multiple_of_32-taken.result)
    × (reach s u ≡ c.args.block + c.len_of_used-len.result + c.free_length.result)
ends g c {s} v u at =
    let read = c.load_at.ensures in
    let list = IsFreeTable-counted c.args.memory.now c.load_at.new.self read.start read.bytes read.out (IsFreeTable-free v) in
    let marked = IsMarked-loaded_end v u at read.word c.len_of_used-len.ensures read.start read.bytes read.out in
    let reached =
    reach_is v u at read.word c.len_of_used-len.ensures c.free_length.result
    (c.free_length.ensures.length g.row.FLLEN g.row.SLLEN c.args.table.now s.free list marked) in
    let start = at.start in (
      omega (arith, taken_computed v u at c.args.layout.size c.size.ensures.value c.next_multiple_of_32-taken.ensures.value),
      omega (arith, reached, end_is v u at read.word c.len_of_used-len.ensures),
    )

pub overflow_add-len : goal.overflow_add-len
overflow_add-len g c =
    let (s, u, v, at, own) = c.requires.used in
    record { fits = omega (arith, (ends g (goal.at.overflow_add-len g c).After-free_length v u at).1, span_in_memory v u at.is_used, v.well_formed.addressable) }

-- two words were read
read : (g : given.Over) (c : After-free_length g) → Counts c.args.memory.now c.free_length.new.memory 2
read g c =
    let first = c.load_at.ensures in
    Counts-counted_first c.args.memory.now c.load_at.new.self c.free_length.new.memory 1 1
    (Counts-loaded c.args.memory.now c.load_at.new.self first.start first.bytes first.touches first.copied first.view first.out) c.free_length.ensures.counts

pub stretch-requires : goal.stretch-requires
stretch-requires g c =
    let (s, u, v, at, own) = c.requires.used in
    let here = goal.at.stretch-requires g c in
    let m = c.args.memory.now in
    let n = c.free_length.new.memory in
    let counts = read g here.After-free_length in
    let far = ends g here.After-free_length v u at in
    let same = word_at-counted m n counts.start counts.bytes counts.out c.args.block in
    let word = subst (λ a. word_at m a ≡ u.block.len + 1) at.start (v.sizes.used u at.is_used) in
    let wanted = c.next_multiple_of_32-taken.ensures.value ∙ ap (λ w. next_multiple_of (c.args.payload - c.args.block + w) 32) c.size.ensures.value in
    let owned = owned-same m n (between (end_of (resized u c.args.layout.size)) (end_of u.block)) counts.start counts.out own in (
      omega arith,
      (
        c.requires.parameters,
        (
          (s, u, StandsFor-counted m n counts.start counts.bytes counts.out v, at, owned, omega (arith, far.0, far.1, c.if-taken-len-2.false)),
          (
            record { own = omega (arith, same, word, c.load_at.ensures.word, c.len_of_used-len.ensures); wanted = wanted; other = c.if-taken-len.false },
            omega (arith, IsUsed-after_start u (v.well_formed.used u at.is_used), at.start, at.caller),
          ),
        ),
      ),
    )

-- ---- the block has that length already

pub returns-then-taken-len : goal.returns-then-taken-len
returns-then-taken-len g c =
    let read = c.load_at.ensures in
    let stays = Stays-same c.args.memory.now c.load_at.new.self read.start read.out in
    record {
      done = λ s u v at own.
          let size = c.args.layout.size in
          let taken = taken_computed v u at size c.size.ensures.value c.next_multiple_of_32-taken.ensures.value in
          let same : end_of (resized u size) ≡ end_of u.block = omega (arith, taken, at.start, end_is v u at read.word c.len_of_used-len.ensures, c.if-taken-len.true) in (
            refl,
            (
              kept_whole s u size,
              or_else-kept s u size v.well_formed at.is_used same,
              at.caller,
              IsCarriedOut-kept v u at.is_used size own read.start read.bytes read.out same,
            ),
          );
      refused = λ s u v at. tt;
      unchanged = tt;
      costs = Costs-within (omega arith) (Costs-loaded c.args.memory.now c.load_at.new.self read.start read.bytes read.touches read.copied read.view read.out);
      own = stays.own;
      here = stays.here;
    }

-- ---- the bytes don't suffice

pub returns-then-taken-len-2 : goal.returns-then-taken-len-2
returns-then-taken-len-2 g c =
    let here = (goal.at.returns-then-taken-len-2 g c).After-free_length in
    let counts = read g here in
    let stays = Stays-same c.args.memory.now c.free_length.new.memory counts.start counts.out in
    record {
      done = λ s u v at own. tt;
      refused = λ s u v at.
          let far = ends g here v u at in
          let end = end_is v u at c.load_at.ensures.word c.len_of_used-len.ensures in
          no_plan s u c.args.layout.size (omega (arith, far.0, end, c.if-taken-len-2.true)) (omega (arith, far.0, far.1, c.if-taken-len-2.true));
      unchanged = (counts, refl);
      costs = Costs-within (omega arith) (Costs-counted counts);
      own = stays.own;
      here = stays.here;
    }

-- ---- it gets another length

pub returns : goal.returns
returns g c =
    let here = (goal.at.returns g c).After-free_length in
    let m = c.args.memory.now in
    let n = c.free_length.new.memory in
    let counts = read g here in
    let stretched : Stays n c.stretch.new.memory = record { start = c.stretch.ensures.costs.start; own = c.stretch.ensures.own; here = c.stretch.ensures.here } in
    let stays = Stays-then (Stays-same m n counts.start counts.out) stretched in
    record {
      done = λ s u v at own.
          let size = c.args.layout.size in
          let far = ends g here v u at in
          let room : HasRoomBehind s u size = omega (arith, far.0, far.1, c.if-taken-len-2.false) in
          let owned = owned-same m n (between (end_of (resized u size)) (end_of u.block)) counts.start counts.out own in
          let (p, first, there, (t, replans, stands, spare)) = c.stretch.ensures.done s u (StandsFor-counted m n counts.start counts.bytes counts.out v) at owned room in (
            c.stretch.ensures.address,
            (p, first, there, (t, replans, stands, KeepsSpare-counted_first m n counts.start counts.bytes counts.out s t c.stretch.new.memory spare)),
          );
      refused = λ s u v at. tt;
      unchanged = tt;
      costs = Costs-then (Costs-counted counts) c.stretch.ensures.costs;
      own = stays.own;
      here = stays.here;
    }
