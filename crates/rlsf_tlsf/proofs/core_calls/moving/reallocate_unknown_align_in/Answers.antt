use Rattle.std.proofs.Common.{◌≡◌, Bool, false, IsSome, Some, None, arith, rules, refl, sym, ◌∙◌, ap, subst}
use Rattle.rlsf_base.specs.declared.memory.range.Range.{Range}
use Rattle.rlsf_base.specs.OpenSpace.{IsHere}
use Rattle.rlsf_base.proofs.Lending.Present.{here-none, own-none}
use Rattle.rlsf_model.specs.Callers.{align_at}
use Rattle.rlsf_model.specs.NoMove.{ReallocatesWithoutMove, unmoved_plan}
use Rattle.rlsf_model.specs.Reallocate.{in_place}
use Rattle.rlsf_model.specs.Sized.{IsSizedFor, live_count}
use Rattle.rlsf_model.specs.State.{State, Used, usable}
use Rattle.rlsf_model.proofs.CallerWords.{align_at-held}
use Rattle.rlsf_model.proofs.Payloads.{IsUsed-after_start}
use Rattle.rlsf_model.proofs.SizedWords.{never_refused}
use Rattle.rlsf_table.proofs.Costs.{SamePlace-costs, copied_none}
use Rattle.rlsf_blocks.specs.Laws.{read_from}
use Rattle.rlsf_blocks.specs.Steps.Resize.{IsUsedAt}
use Rattle.rlsf_blocks.proofs.Counting.{Counts-counted_first}
use Rattle.rlsf_blocks.proofs.Reallocate.FirstPlan.{in_place-none}
use Rattle.rlsf_tlsf.specs.CoreResizes.{KeepsBoundsThere, KeepsPayloadsResizing, stayed_if}
use Rattle.rlsf_tlsf.specs.Results.{IsResized}
use Rattle.rlsf_tlsf.specs.Steps.Moves.{allocated, bare, deallocated}
use Rattle.rlsf_tlsf.specs.UnknownAlign.{ResizesBy}
use Rattle.rlsf_tlsf.proofs.Reached.{IsCore-counted, LeavesCore-counted, LeavesCore-counted_first, LeavesCore-moved, LeavesCore-within, bare-core, read_from-counted, reads}
use Rattle.rlsf_tlsf.proofs.Relocated.{span_held}
use Rattle.rlsf_tlsf.proofs.ResizedInPlace.{IsDenied, denied_after, fits_found, own_found}
use Rattle.rlsf_tlsf.proofs.UnknownAlign.{IsMoved, moved, moved-bare, stayed}
use Rattle.rlsf_tlsf.proofs.core_calls.moving.reallocate_unknown_align_in.Given as given
use Rattle.rlsf_tlsf.proofs.core_calls.moving.reallocate_unknown_align_in.Goals as goal
use Rattle.rlsf_tlsf.proofs.core_calls.moving.reallocate_unknown_align_in.Goals.{After-resize_block_in}

pub find_block-block-requires : goal.find_block-block-requires
find_block-block-requires g c =
    let (u, holds) = c.requires.live in
    (g.row.FLLEN, g.row.SLLEN, c.args.table.now, read_from c.args.memory.now c.args.state.now.state, u, c.requires.core.stands, (holds, tt))

pub resize_block_in-requires : goal.resize_block_in-requires
resize_block_in-requires g c =
    let (u, holds) = c.requires.live in
    let v = c.requires.core.stands in
    let counts = c.find_block-block.ensures.counts in
    let start = c.find_block-block.ensures.block g.row.FLLEN g.row.SLLEN c.args.table.now (read_from c.args.memory.now c.args.state.now.state) u v (holds, tt) in (
      omega arith,
      (
        IsCore-counted counts c.requires.core,
        (
          own_found c.args.state.now.state v counts c.args.layout.size u holds start (own-none c.args.memory.now (usable u) c.requires.whole),
          fits_found c.args.state.now.state v counts c.args.layout.size u holds start c.args.layout.valid c.is_below_limit.ensures,
        ),
      ),
    )

-- ---- it stays

pub returns-then-resize_block_in : goal.returns-then-resize_block_in
returns-then-resize_block_in g c =
    let (u, holds) = c.requires.live in
    let addr = c.args.addr in
    let size = c.args.layout.size in
    let s = read_from c.args.memory.now c.args.state.now.state in
    let t = read_from c.resize_block_in.new.memory c.resize_block_in.new.state.state in
    let same = read_from-counted c.find_block-block.ensures.counts c.args.state.now.state in
    let e = c.resize_block_in.ensures in
    let left = LeavesCore-counted_first c.find_block-block.ensures.counts e.left in
    let did : ReallocatesWithoutMove s addr size (Some addr) t =
    subst (λ (x : State × Bool). ReallocatesWithoutMove x.0 addr size (stayed_if x.1 addr) t) (λ i. (same i, c.if-resize_block_in.true i)) e.step in
    let is = subst (λ (x : State). IsResized x t addr size addr) same (e.result c.if-resize_block_in.true) in
    let kept = subst (λ (x : State). KeepsPayloadsResizing x t addr) same e.kept in
    let bounds = subst (λ (x : State). KeepsBoundsThere g.row.SLLEN x t addr size) same e.bounds in
    let still : align_at t addr ≡ align_at s addr = ap (λ f. f addr) kept.aligns in
    record {
      left = LeavesCore-within (omega arith) (omega (arith, left.costs.copied)) left;
      step = stayed g.row.SLLEN c.args.layout.align did;
      result = (
        omega (arith, IsUsed-after_start u (c.requires.core.stands.well_formed.used u holds.0), holds.1),
        record {
          live = subst IsSome (sym (still ∙ align_at-held c.requires.core.stands.well_formed addr u holds)) refl;
          there = λ same. still;
          moved = λ apart. absurd (apart refl);
          gone = λ apart. absurd (apart refl);
          sized = is.sized;
          few = is.few;
          kept = is.kept;
          new = λ apart. absurd (apart refl);
          aligns = λ a off _. ap (λ f. f a) kept.aligns;
          bytes = λ a off _. kept.bytes a off;
        },
      );
      room = λ count most widest sized few short fits. refl;
      bounds = λ count most widest was sized live within short fits. bounds count most widest was sized live short within;
      refused = tt;
      frame = record {
        count = kept.count;
        chunks = kept.chunks;
        place = SamePlace-costs left.costs;
        grow = left.costs.grow;
        copied = omega (arith, left.costs.copied);
        grow_copied = omega (arith, left.costs.copied);
        stays = λ room. copied_none left.costs;
      };
    }

-- ---- it can't stay

module _ (g : given.Over) (c : After-resize_block_in g) (no : c.resize_block_in.result ≡ false) where
  abbrev state : State
  state = read_from c.args.memory.now c.args.state.now.state

  abbrev u : Used
  u = c.requires.live.0

  moves : IsDenied g.row.FLLEN g.row.SLLEN c.args.memory.now c.resize_block_in.new.memory c.resize_block_in.new.table state c.args.addr c.args.layout.size 4
  moves =
      let e = c.resize_block_in.ensures in
      denied_after c.args.state.now.state c.requires.core.stands c.find_block-block.ensures.counts c.args.layout.size no e.step (e.refused no)

  none : unmoved_plan state u c.args.layout.size ≡ None
  none = moves.plan u c.requires.live.1

  short : in_place state u c.args.layout.size ≡ None
  short = in_place-none state u c.args.layout.size none

  used_at : IsUsedAt state u c.find_block-block.result c.args.addr u.align
  used_at =
      let (_, holds) = c.requires.live in
      let start = c.find_block-block.ensures.block g.row.FLLEN g.row.SLLEN c.args.table.now state u c.requires.core.stands (holds, tt) in
      record { is_used = holds.0; start = sym start; caller = holds.1; alignment = refl }

  here : IsHere c.resize_block_in.new.memory (usable u)
  here = here-none c.resize_block_in.new.memory (usable u) (moves.counts.out ∙ c.requires.whole)

pub move_elsewhere-requires : goal.move_elsewhere-requires
move_elsewhere-requires g c =
    let d = (goal.at.move_elsewhere-requires g c).After-resize_block_in in
    let no = c.if-resize_block_in.false in
    let is = moves g d no in (
      omega arith,
      (
        c.requires.core.valid,
        (search rules, ((state g d no, u g d no, is.stands, used_at g d no, short g d no, here g d no), λ whole. is.counts.out ∙ c.requires.whole)),
      ),
    )

-- ---- it is refused

pub returns-in-None : goal.returns-in-None
returns-in-None g c =
    let d = (goal.at.returns-in-None g c).After-resize_block_in in
    let no = c.if-resize_block_in.false in
    let (u, holds) = c.requires.live in
    let s = state g d no in
    let is = moves g d no in
    let size = c.args.layout.size in
    let align = c.args.layout.align in
    let p = c.move_elsewhere.new.memory in
    let e = c.in-None.ensures in
    let kept = c.resize_block_in.ensures.refused no in
    let k = c.resize_block_in.new.state.state in
    let counts = Counts-counted_first c.args.memory.now c.resize_block_in.new.memory p 4 5 is.counts e.unchanged.0 in
    let same : read_from p k ≡ s = ap (read_from p) kept.state ∙ read_from-counted counts c.args.state.now.state in
    let full = e.step s u is.stands (used_at g d no) (short g d no) (here g d no) in
    let left = LeavesCore-counted counts (e.unchanged.1 ∙ kept.table) kept.state c.requires.core in
    record {
      left = LeavesCore-within (omega arith) (omega (arith, counts.copied)) left;
      step = record { block = u; holds = holds; step = subst (λ o. ResizesBy g.row.SLLEN s u size align o None (read_from p k)) (sym (none g d no)) (full.0, same) };
      result = tt;
      room = λ count most widest sized few short fits.
          absurd (never_refused c.requires.core.stands.well_formed s count most widest sized size align few short fits full);
      bounds = λ count most widest was sized live within short fits. subst (IsSizedFor g.row.SLLEN count most widest) (sym same) sized;
      refused = record { same = same; bytes = counts.bytes };
      frame = record {
        count = ap live_count same;
        chunks = ap (λ (x : State). x.chunks) same;
        place = SamePlace-costs left.costs;
        grow = counts.grow;
        copied = omega (arith, counts.copied);
        grow_copied = omega (arith, counts.copied);
        stays = λ room. counts.copied;
      };
    }

-- ---- it moves

pub returns-in-Some : goal.returns-in-Some
returns-in-Some g c =
    let d = (goal.at.returns-in-Some g c).After-resize_block_in in
    let no = c.if-resize_block_in.false in
    let (u, holds) = c.requires.live in
    let s = state g d no in
    let there = moves g d no in
    let addr = c.args.addr in
    let align = c.args.layout.align in
    let to = c.in-Some.moved in
    let well = c.requires.core.stands.well_formed in
    let e = c.in-Some.ensures in
    let (t, by, now, spare) = e.step s u there.stands (used_at g d no) (short g d no) (here g d no) in
    let k = c.deallocate.new.self.state in
    let was : c.resize_block_in.new.state.state ≡ bare s = (c.resize_block_in.ensures.refused no).state ∙ sym (bare-core c.requires.core) in
    let kept : k ≡ bare t =
    c.deallocate.ensures
    ∙ ap (deallocated addr) (c.allocate.ensures ∙ (λ i. allocated g.row.SLLEN (c.size.ensures.value i) (c.align.ensures.value i) (was i)))
    ∙ moved-bare well u holds c.args.layout.valid.aligned (none g d no) by in
    let is = reads now k kept (λ (x : State). IsMoved g.row.SLLEN s x addr c.args.layout.size align to) (moved well u holds c.args.layout.valid.aligned (none g d no) by) in
    let left = LeavesCore-moved there.counts now k kept c.requires.core.valid spare e.costs e.own e.here in
    record {
      left = left;
      step = is.step;
      result = (is.some, is.result);
      room = λ count most widest sized few short fits. refl;
      bounds = is.bounds;
      refused = tt;
      frame = record {
        count = is.count;
        chunks = is.chunks;
        place = SamePlace-costs left.costs;
        grow = left.costs.grow;
        copied =
            let long = ap (λ (r : Range). r.len) (span_held c.requires.core.stands addr u holds) in
            omega (arith, e.copied s u there.stands (used_at g d no), there.counts.copied, long);
        grow_copied = omega (arith, left.costs.copied);
        stays = λ room. absurd (there.room room);
      };
    }
