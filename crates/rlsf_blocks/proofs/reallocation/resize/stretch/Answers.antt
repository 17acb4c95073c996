use Rattle.std.proofs.Common.{◌≡◌, ◌≢◌, ◌+◌, ◌≤◌, arith, rules, sym, subst, refl}
use mathlib.Core.Path.{ap₂}
use Rattle.rlsf_base.specs.Range.{end_of, range_at}
use Rattle.rlsf_model.specs.State.{State, Used}
use Rattle.rlsf_blocks.specs.StandsFor.{contents, StandsFor}
use Rattle.rlsf_blocks.specs.Steps.Join.{IsMarked, IsNextOut}
use Rattle.rlsf_blocks.specs.Steps.Resize.{HasRoomBehind, IsOccupied, IsOwnedBehind, IsSpanRoom, IsUsedAt}
use Rattle.rlsf_blocks.proofs.Words.Apart.{used_in_memory}
use Rattle.rlsf_blocks.proofs.RepresentedStates.FreeBlocks.{IsFreeTable-free}
use Rattle.rlsf_blocks.proofs.Reallocate.Computations.{end_is, IsMarked-loaded_end, IsNextOut-end, IsTaken-len, taken_computed}
use Rattle.rlsf_blocks.proofs.Reallocate.NextPlans.{or_else-stretched, stretched}
use Rattle.rlsf_blocks.proofs.Reallocate.Resized.{IsCarriedOut-stretched}
use Rattle.rlsf_blocks.proofs.Reallocate.Spans.{IsSpanRoom-span, reach-le, span_in_memory, span_len, span_of, staying}
use Rattle.rlsf_table.proofs.Costs.{Costs-then}
use Rattle.rlsf_blocks.proofs.Words.Stays.{Stays-rewrites, Stays-then}
use Rattle.rlsf_blocks.proofs.reallocation.resize.stretch.Given as given
use Rattle.rlsf_blocks.proofs.reallocation.resize.stretch.Goals as goal
use Rattle.rlsf_blocks.proofs.reallocation.resize.stretch.Goals.{Start, After-take_if_free-next}
use Rattle.rlsf_model.proofs.Names.{resized}

-- the free block behind it
marked : (g : given.Over) (c : Start g) {s : State} (v : StandsFor g.row.FLLEN g.row.SLLEN (contents c.args.memory.now c.args.table.now) s) (u : Used)
    → IsUsedAt s u c.args.block c.args.payload u.align → IsMarked c.args.memory.now s.free (c.args.block + c.args.len)
marked g c v u at = IsMarked-loaded_end v u at c.requires.numbers.own (omega arith) refl refl refl

pub overflow_add-block : goal.overflow_add-block
overflow_add-block g c =
    let (s, u, v, at, own, room) = c.requires.used in
    record { fits = omega (arith, end_is v u at {len = c.args.len} c.requires.numbers.own (omega arith), used_in_memory v.well_formed u at.is_used, v.well_formed.addressable) }

pub take_if_free-next-requires : goal.take_if_free-next-requires
take_if_free-next-requires g c =
    let (s, u, v, at, own, room) = c.requires.used in
    (omega arith, (c.requires.parameters, ((s.free, IsFreeTable-free v, marked g (goal.at.take_if_free-next-requires g c).Start v u at), search rules)))

-- it was taken out, and the block can be made of the bytes of both
spanned : (g : given.Over) (c : After-take_if_free-next g) {s : State} (v : StandsFor g.row.FLLEN g.row.SLLEN (contents c.args.memory.now c.args.table.now) s) (u : Used)
    → IsUsedAt s u c.args.block c.args.payload u.align → IsOwnedBehind c.args.memory.now u c.args.layout.size → HasRoomBehind s u c.args.layout.size
    → IsNextOut g.row.FLLEN g.row.SLLEN c.args.memory.now c.take_if_free-next.new.memory c.take_if_free-next.new.table s.free (end_of u.block) c.take_if_free-next.result
    × ((span_of s u).len ≡ c.args.len + c.take_if_free-next.result) × (c.args.taken ≤ c.args.len + c.take_if_free-next.result)
    × IsSpanRoom g.row.FLLEN g.row.SLLEN c.take_if_free-next.new.memory c.take_if_free-next.new.table (staying s u) (span_of s u) c.args.taken
spanned g c {s} v u at own room =
    let word = c.requires.numbers.own in
    let gone =
    IsNextOut-end v u at word (omega arith) refl refl refl
    (c.take_if_free-next.ensures.step s.free (IsFreeTable-free v) (IsMarked-loaded_end v u at word (omega arith) refl refl refl)) in
    let taken = taken_computed v u at c.args.layout.size refl c.requires.numbers.wanted in
    let ends = end_is v u at {len = c.args.len} word (omega arith) in
    let long : (span_of s u).len ≡ c.args.len + c.take_if_free-next.result = omega (arith, span_len v u at.is_used gone, at.start, ends) in
    let fits : c.args.taken ≤ c.args.len + c.take_if_free-next.result = omega (arith, gone.end, room, taken, at.start, ends) in (
      gone,
      long,
      fits,
      IsSpanRoom-span v u at.is_used gone c.args.taken (λ a lo hi. own a (omega (arith, taken, lo)) (omega (arith, taken, lo, hi))) (omega (arith, fits, long, at.start)),
    )

pub overflow_add-len : goal.overflow_add-len
overflow_add-len g c =
    let (s, u, v, at, own, room) = c.requires.used in
    let (gone, long, fits, inner) = spanned g (goal.at.overflow_add-len g c).After-take_if_free-next v u at own room in
    record { fits = omega (arith, gone.end, end_is v u at {len = c.args.len} c.requires.numbers.own (omega arith), span_in_memory v u at.is_used, v.well_formed.addressable) }

pub occupy-requires : goal.occupy-requires
occupy-requires g c =
    let (s, u, v, at, own, room) = c.requires.used in
    let (gone, long, fits, inner) = spanned g (goal.at.occupy-requires g c).After-take_if_free-next v u at own room in
    let taken = taken_computed v u at c.args.layout.size refl c.requires.numbers.wanted in
    let parts = IsTaken-len v u at c.args.layout.size in
    let start = at.start in
    (omega arith, (c.requires.parameters, ((staying s u, span_of s u, start, long, inner), ((omega (arith, parts.0, taken), omega (arith, parts.1, taken), fits), search rules))))

pub returns : goal.returns
returns g c =
    let here = (goal.at.returns g c).After-take_if_free-next in
    let (s, u, v, at, own, room) = c.requires.used in
    let (gone, long, fits, inner) = spanned g here v u at own room in
    let stays = Stays-then (Stays-rewrites gone.rewrites) (Stays-rewrites (c.occupy.ensures.step (staying s u) (span_of s u) at.start long inner).rewrites) in
    record {
      address = c.requires.front;
      done = λ s u v at own room.
          let size = c.args.layout.size in
          let (gone, long, fits, inner) = spanned g here v u at own room in
          let taken = taken_computed v u at size refl c.requires.numbers.wanted in
          let front : range_at c.args.block c.args.taken ≡ resized u size = ap₂ (λ b l. range_at b l) (sym at.start) taken in
          let occupied =
          subst (IsOccupied g.row.FLLEN g.row.SLLEN c.take_if_free-next.new.memory c.occupy.new.memory c.occupy.new.table (staying s u) (span_of s u)) front
          (c.occupy.ensures.step (staying s u) (span_of s u) at.start long inner) in
          let ends = end_is v u at {len = c.args.len} c.requires.numbers.own (omega arith) in
          let other : end_of (resized u size) ≢ end_of u.block = omega (arith, c.requires.numbers.other, taken, at.start, ends) in (
            stretched s u size,
            or_else-stretched s u size v.well_formed at.is_used other (reach-le v u at.is_used) room,
            at.caller,
            IsCarriedOut-stretched v u at.is_used size own room gone occupied,
          );
      costs = Costs-then c.take_if_free-next.ensures.costs c.occupy.ensures.costs;
      own = stays.own;
      here = stays.here;
    }
