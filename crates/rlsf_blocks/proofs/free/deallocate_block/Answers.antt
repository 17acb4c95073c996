use Rattle.std.proofs.Common.{◌≡◌, ◌+◌, ◌-◌, arith, rules, sym, ◌∙◌}
use Rattle.rlsf_base.proofs.Lending.Present.{owned-same}
use Rattle.rlsf_base.specs.Range.{end_of}
use Rattle.rlsf_model.specs.State.{State, Used, usable}
use Rattle.rlsf_blocks.proofs.Words.NeverOut.{used_word}
use Rattle.rlsf_blocks.specs.StandsFor.{contents, StandsFor}
use Rattle.rlsf_blocks.specs.Steps.Join.{IsNextOut, IsPreviousOut, union, untouched}
use Rattle.rlsf_model.specs.Join.{ends_at}
use Rattle.rlsf_model.specs.Lists.{IsIn, without}
use Rattle.rlsf_model.specs.Release.{released}
use Rattle.rlsf_blocks.proofs.Deallocate.Marks.{IsMarked-behind}
use Rattle.rlsf_blocks.proofs.Deallocate.Releases.{before_at, behind_at, end_computed, gone, IsInnerRoom-union, released_stands, start_before, union_end, union_len, union_start}
use Rattle.rlsf_blocks.proofs.Deallocate.Releases.{word_computed}
use Rattle.rlsf_blocks.proofs.RepresentedStates.Counted.{KeepsSpare-counted_first, StandsFor-counted}
use Rattle.rlsf_blocks.proofs.Words.Apart.{used_in_memory}
use Rattle.rlsf_table.proofs.Costs.{Costs-loaded, Costs-then}
use Rattle.rlsf_blocks.proofs.Words.Stays.{Stays-rewrites, Stays-same, Stays-then}
use Rattle.rlsf_blocks.proofs.free.deallocate_block.Given as given
use Rattle.rlsf_blocks.proofs.free.deallocate_block.Goals as goal
use Rattle.rlsf_blocks.proofs.free.deallocate_block.Goals.{After-take_if_free-next}

pub load_at-requires-clause-place : goal.load_at-requires-clause-place
load_at-requires-clause-place g c =
    let (s, u, v, i, at, own) = c.requires.used in
    used_word v u i c.args.block at

pub used_end-end-requires : goal.used_end-end-requires
used_end-end-requires g c =
    let (s, u, v, i, at, own) = c.requires.used in
    record {
      used = omega (arith, word_computed v u i at c.load_at.ensures.word);
      fits = omega (arith, end_computed v u i at c.load_at.ensures.word, used_in_memory v.well_formed u i, v.well_formed.addressable);
    }

pub take_previous-start-requires : goal.take_previous-start-requires
take_previous-start-requires g c =
    let (s, u, v, i, at, own) = c.requires.used in (
      omega arith,
      (
        c.requires.parameters,
        ((s, u, StandsFor-counted c.args.memory.now c.load_at.new.self c.load_at.ensures.start c.load_at.ensures.bytes c.load_at.ensures.out v, i, at), search rules),
      ),
    )

pub take_if_free-next-requires : goal.take_if_free-next-requires
take_if_free-next-requires g c =
    let (s, u, v, i, at, own) = c.requires.used in
    let v0 = StandsFor-counted c.args.memory.now c.load_at.new.self c.load_at.ensures.start c.load_at.ensures.bytes c.load_at.ensures.out v in
    let previous = c.take_previous-start.ensures.step s u v0 i at in
    let end = end_computed v u i at c.load_at.ensures.word ∙ sym c.used_end-end.ensures in
    (omega arith, (c.requires.parameters, ((without (ends_at c.args.block) s.free, previous.list, IsMarked-behind v0 u i at previous _ end), search rules)))

-- the free blocks before it and behind it are taken out
outs : (g : given.Over) (c : After-take_if_free-next g) {s : State} (v : StandsFor g.row.FLLEN g.row.SLLEN (contents c.args.memory.now c.args.table.now) s) (u : Used)
    → IsIn u s.used → u.block.start ≡ c.args.block → StandsFor g.row.FLLEN g.row.SLLEN (contents c.load_at.new.self c.args.table.now) s
    × IsPreviousOut g.row.FLLEN g.row.SLLEN c.load_at.new.self c.take_previous-start.new.memory c.take_previous-start.new.table s.free u.block.start c.take_previous-start.result
    × IsNextOut g.row.FLLEN g.row.SLLEN c.take_previous-start.new.memory c.take_if_free-next.new.memory c.take_if_free-next.new.table (without (ends_at u.block.start) s.free)
    (end_of u.block) c.take_if_free-next.result × (end_of u.block ≡ c.used_end-end.result)
outs g c {s} v u i at =
    let v0 = StandsFor-counted c.args.memory.now c.load_at.new.self c.load_at.ensures.start c.load_at.ensures.bytes c.load_at.ensures.out v in
    let previous = c.take_previous-start.ensures.step s u v0 i at in
    let end = end_computed v u i at c.load_at.ensures.word ∙ sym c.used_end-end.ensures in
    let next = c.take_if_free-next.ensures.step (without (ends_at c.args.block) s.free) previous.list (IsMarked-behind v0 u i at previous _ end) in
    (v0, before_at v0 u i at previous, behind_at v0 u i at end next, end)

pub overflow_sub-end : goal.overflow_sub-end
overflow_sub-end g c =
    let (s, u, v, i, at, own) = c.requires.used in
    let (v0, before, behind, end) = outs g (goal.at.overflow_sub-end g c).After-take_if_free-next v u i at in
    omega (arith, end, start_before v0 u i before behind)

pub overflow_add-end : goal.overflow_add-end
overflow_add-end g c =
    let (s, u, v, i, at, own) = c.requires.used in
    let (v0, before, behind, end) = outs g (goal.at.overflow_add-end g c).After-take_if_free-next v u i at in
    record { fits = omega (arith, end, union_end v0 u i before behind, v0.well_formed.addressable) }

pub put-requires : goal.put-requires
put-requires g c =
    let (s, u, v, i, at, own) = c.requires.used in
    let (v0, before, behind, end) = outs g (goal.at.put-requires g c).After-take_if_free-next v u i at in
    let own0 = owned-same c.args.memory.now c.load_at.new.self (usable u) c.load_at.ensures.start c.load_at.ensures.out own in
    let inner = IsInnerRoom-union v0 u i before behind own0 in
    let long : (union u.block s.free).len ≡ c.used_end-end.result - c.take_previous-start.result + c.take_if_free-next.result =
    omega (arith, end, union_len v0 u i before behind) in
    (omega arith, (c.requires.parameters, ((untouched u.block s.free, union u.block s.free, union_start v0 u i before behind, long, inner), search rules)))

pub returns : goal.returns
returns g c =
    let here = (goal.at.returns g c).After-take_if_free-next in
    let m = c.args.memory.now in
    let n = c.load_at.new.self in
    let read = c.load_at.ensures in
    let (s, u, v, i, at, own) = c.requires.used in
    let (v0, before, behind, end) = outs g here v u i at in
    let inner = IsInnerRoom-union v0 u i before behind (owned-same m n (usable u) read.start read.out own) in
    let put =
    c.put.ensures.step (untouched u.block s.free) (union u.block s.free) (union_start v0 u i before behind) (omega (arith, end, union_len v0 u i before behind)) inner in
    let stays = Stays-then (Stays-same m n read.start read.out) (Stays-then (Stays-rewrites (gone v0 u i before behind)) (Stays-rewrites put.rewrites)) in
    record {
      step = λ s u v i at own.
          let (v0, before, behind, end) = outs g here v u i at in
          let own0 = owned-same m n (usable u) read.start read.out own in
          let inner = IsInnerRoom-union v0 u i before behind own0 in
          let put =
          c.put.ensures.step (untouched u.block s.free) (union u.block s.free) (union_start v0 u i before behind) (omega (arith, end, union_len v0 u i before behind)) inner in
          let (stands, spare) = released_stands v0 u i before behind put own0 in
          (stands, KeepsSpare-counted_first m n read.start read.bytes read.out s (released s u) c.put.new.memory spare);
      costs =
          let loaded = Costs-loaded m n read.start read.bytes read.touches read.copied read.view read.out in
          Costs-then (Costs-then (Costs-then loaded c.take_previous-start.ensures.costs) c.take_if_free-next.ensures.costs) c.put.ensures.costs;
      own = stays.own;
      here = stays.here;
    }
