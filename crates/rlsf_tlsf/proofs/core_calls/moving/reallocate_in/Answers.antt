use Rattle.std.proofs.Common.{◌≡◌, ◌-◌, ◌+◌, ◌≤◌, ℕ, false, IfNone, Option, Some, None, arith, refl, sym, ◌∙◌, ap, subst}
use Rattle.rlsf_base.specs.Addr.{reply_of}
use Rattle.rlsf_base.specs.declared.memory.range.Range.{Range}
use Rattle.rlsf_base.specs.OpenSpace.{IsHere}
use Rattle.rlsf_base.specs.Range.{range_at}
use Rattle.rlsf_base.specs.Space.{Space}
use Rattle.rlsf_base.proofs.Lending.Present.{here-same, own-here}
use Rattle.rlsf_model.specs.NoMove.{ReallocatesWithoutMove}
use Rattle.rlsf_model.specs.Reallocate.{HasRoomToStay, Reallocates, ReallocatesBy, plan}
use Rattle.rlsf_model.specs.Run.{reallocate}
use Rattle.rlsf_model.specs.State.{Holds, State, Used, usable}
use Rattle.rlsf_model.proofs.CallerWords.{align_at-held}
use Rattle.rlsf_model.proofs.Chunks.{chunks-reallocated}
use Rattle.rlsf_model.proofs.Determined.{refusal_changes_nothing}
use Rattle.rlsf_model.proofs.NoMove.{unmoved_is_reallocated}
use Rattle.rlsf_model.proofs.Payloads.{IsUsed-after_start}
use Rattle.rlsf_model.proofs.SizedWords.{count_resized, never_refused_again, sized_resized}
use Rattle.rlsf_table.specs.Table.{Table}
use Rattle.rlsf_table.proofs.Costs.{SamePlace-costs, copied_none}
use Rattle.rlsf_blocks.specs.Laws.{read_from}
use Rattle.rlsf_blocks.specs.Steps.Resize.{IsHereStill, IsUsedAt}
use Rattle.rlsf_blocks.proofs.Reallocate.Addresses.{some_reply}
use Rattle.rlsf_blocks.proofs.Words.Apart.{used_in_memory}
use Rattle.rlsf_tlsf.specs.Allocator.{allocator}
use Rattle.rlsf_tlsf.specs.Bounds.{KeepsBounds}
use Rattle.rlsf_tlsf.specs.Cores.{IsCore, LeavesCoreCopying}
use Rattle.rlsf_tlsf.specs.Results.{KeepsFrameMoving}
use Rattle.rlsf_tlsf.specs.Steps.Moves.{bare, reallocated}
use Rattle.rlsf_tlsf.proofs.Moved.{reallocated-bare}
use Rattle.rlsf_tlsf.proofs.Reached.{IsCore-counted, LeavesCore-counted_first, LeavesCore-moved, LeavesCore-within, bare-core, read_from-counted, reads}
use Rattle.rlsf_tlsf.proofs.Relocated.{IsRelocated-at, span_held}
use Rattle.rlsf_tlsf.proofs.ResizedInPlace.{IsDenied, denied_after, fits_found, own_found}
use Rattle.rlsf_tlsf.proofs.core_calls.moving.reallocate_in.Given as given
use Rattle.rlsf_tlsf.proofs.core_calls.moving.reallocate_in.Goals as goal
use Rattle.rlsf_tlsf.proofs.core_calls.moving.reallocate_in.Goals.{In_default}

-- what a step of the model says of bounds, and of what is kept
module _ {fllen sllen : ℕ} {m p : Space} {x y : Table} {j k : State} {most addr size align : ℕ} (are : IsCore fllen sllen m x j)
    (left : LeavesCoreCopying fllen sllen m p y j k most (p.copied - m.copied)) (u : Used) (holds : Holds (read_from m j) addr u) (wide : u.align ≡ align)
    {reply : Option ℕ} (step : Reallocates sllen (read_from m j) addr size reply (read_from p k)) where
  bounded : KeepsBounds sllen (read_from m j) (read_from p k) size align
  bounded count most widest sized short fits =
      let w = are.stands.well_formed in
      sized_resized w (read_from p k) count most widest sized addr size align reply (align_at-held w addr u holds ∙ ap Some wide) short fits step

  framed : p.copied ≤ m.copied + (usable u).len → (HasRoomToStay (read_from m j) addr size → p.copied ≡ m.copied)
      → KeepsFrameMoving addr size (allocator m x j) (allocator p y k)
  framed copied stays = record {
    count = count_resized are.stands.well_formed (read_from p k) addr size reply (u, holds) step;
    chunks = chunks-reallocated sllen (read_from m j) (read_from p k) addr size reply step;
    place = SamePlace-costs left.costs;
    grow = left.costs.grow;
    copied = omega (arith, copied, ap (λ (r : Range). r.len) (span_held are.stands addr u holds));
    grow_copied = omega (arith, left.costs.copied);
    stays = stays;
  }

pub find_block-block-requires : goal.find_block-block-requires
find_block-block-requires g c =
    let (u, holds, wide, _) = c.requires.here in
    (g.row.FLLEN, g.row.SLLEN, c.args.table.now, read_from c.args.memory.now c.args.state.now.state, u, c.requires.core.stands, (holds, wide ∙ sym c.align.ensures.value))

pub resize_block_to-requires : goal.resize_block_to-requires
resize_block_to-requires g c =
    let (u, holds, wide, is_here) = c.requires.here in
    let v = c.requires.core.stands in
    let counts = c.find_block-block.ensures.counts in
    let s = read_from c.args.memory.now c.args.state.now.state in
    let start = c.find_block-block.ensures.block g.row.FLLEN g.row.SLLEN c.args.table.now s u v (holds, wide ∙ sym c.align.ensures.value) in (
      omega arith,
      (
        IsCore-counted counts c.requires.core,
        (
          own_found c.args.state.now.state v counts c.args.layout.size u holds start (own-here c.args.memory.now (usable u) is_here),
          fits_found c.args.state.now.state v counts c.args.layout.size u holds start c.args.layout.valid c.is_below_limit.ensures,
        ),
      ),
    )

-- ---- it stays

pub returns-in-Some : goal.returns-in-Some
returns-in-Some g c =
    let (u, holds, wide, is_here) = c.requires.here in
    let v = c.requires.core.stands in
    let addr = c.args.addr in
    let size = c.args.layout.size in
    let m = c.args.memory.now in
    let p = c.resize_block_to.new.memory in
    let s = read_from m c.args.state.now.state in
    let t = read_from p c.resize_block_to.new.state.state in
    let same = read_from-counted c.find_block-block.ensures.counts c.args.state.now.state in
    let e = c.in-Some.ensures in
    let to = c.in-Some.to in
    let did : ReallocatesWithoutMove s addr size (Some to) t = subst (λ (x : State). ReallocatesWithoutMove x addr size (Some to) t) same e.step in
    let step : Reallocates g.row.SLLEN s addr size (Some to) t = (unmoved_is_reallocated g.row.SLLEN s t addr size (Some to) did).0.1 in
    let first = LeavesCore-counted_first c.find_block-block.ensures.counts e.left in
    let left = LeavesCore-within {b = 66} (omega arith) (let e : 0 ≡ p.copied - m.copied = omega (arith, first.costs.copied) in e) first in
    let from : m.start ≤ addr = omega (arith, holds.1, (used_in_memory v.well_formed u holds.0).0, IsUsed-after_start u (v.well_formed.used u holds.0)) in
    let there = e.result.0 in
    let still : IsHere p (range_at to (usable u).len) =
    λ a lo hi. left.here a (omega (arith, lo, from, there)) (is_here a (omega (arith, lo, holds.1, there)) (omega (arith, hi, holds.1, there))) in
    assumption (
      left,
      step,
      IsRelocated-at v u holds wide step left.core.stands left.costs.start left.own is_here still,
      bounded c.requires.core left u holds wide step,
      framed c.requires.core left u holds wide step (omega (arith, first.costs.copied)) (λ room. copied_none first.costs),
    )

-- ---- it can't stay

module _ (g : given.Over) (c : In_default g) where
  abbrev state : State
  state = read_from c.args.memory.now c.args.state.now.state

  abbrev u : Used
  u = c.requires.here.0

  moves : IsDenied g.row.FLLEN g.row.SLLEN c.args.memory.now c.resize_block_to.new.memory c.resize_block_to.new.table state c.args.addr c.args.layout.size 3
  moves =
      let e = c.in_default.ensures in
      denied_after c.args.state.now.state c.requires.core.stands c.find_block-block.ensures.counts c.args.layout.size {stays = false} refl e.step e.refused

  used_at : IsUsedAt state u c.find_block-block.result c.args.addr c.args.layout.align
  used_at =
      let (_, holds, wide, _) = c.requires.here in
      let start = c.find_block-block.ensures.block g.row.FLLEN g.row.SLLEN c.args.table.now state u c.requires.core.stands (holds, wide ∙ sym c.align.ensures.value) in
      record { is_used = holds.0; start = sym start; caller = holds.1; alignment = wide }

  here : IsHere c.resize_block_to.new.memory (usable u)
  here = here-same c.args.memory.now c.resize_block_to.new.memory (usable u) moves.counts.start moves.counts.out c.requires.here.3

  was : c.resize_block_to.new.state.state ≡ bare state
  was = c.in_default.ensures.refused.state ∙ sym (bare-core c.requires.core)

pub move_block-to-requires : goal.move_block-to-requires
move_block-to-requires g c =
    let d = (goal.at.move_block-to-requires g c).In_default in
    let is = moves g d in (
      omega arith,
      (
        c.requires.core.valid,
        ((state g d, u g d, is.stands, used_at g d, is.plan (u g d) c.requires.here.1, here g d), λ one. is.counts.out ∙ c.requires.whole one),
      ),
    )

-- ---- it is refused

pub returns-then-to-eq0 : goal.returns-then-to-eq0
returns-then-to-eq0 g c =
    let d = (goal.at.returns-then-to-eq0 g c).In_default in
    let (u, holds, wide, _) = c.requires.here in
    let w = c.requires.core.stands.well_formed in
    let s = state g d in
    let addr = c.args.addr in
    let size = c.args.layout.size in
    let is = moves g d in
    let e = c.move_block-to.ensures in
    let reply : reply_of c.move_block-to.result ≡ None = ap reply_of c.if-to-eq0.true in
    let (t, by, now, spare) = e.step s u is.stands (used_at g d) (is.plan u holds) (here g d) in
    let told : Reallocates g.row.SLLEN s addr size None t =
    record { block = u; holds = holds; step = subst (λ r. ReallocatesBy g.row.SLLEN s u size (plan s u size) r t) reply by } in
    let same : t ≡ s = refusal_changes_nothing g.row.FLLEN g.row.SLLEN s t (reallocate addr size None) told refl in
    let k = c.resize_block_to.new.state.state in
    let kept : k ≡ bare t = was g d ∙ ap bare (sym same) in
    let step = reads now k kept (Reallocates g.row.SLLEN s addr size None) told in
    let left = LeavesCore-moved is.counts now k kept c.requires.core.valid spare e.costs e.own e.here in
    record {
      left = left;
      step = step;
      result = tt;
      room = λ count most widest sized few short fits.
          absurd (never_refused_again w t count most widest sized addr size c.args.layout.align (align_at-held w addr u holds ∙ ap Some wide) few short fits told);
      bounds = bounded c.requires.core left u holds wide step;
      refused = record {
        same = reads now k kept (λ (x : State). x ≡ s) same;
        bytes = subst (λ r. IfNone r (c.move_block-to.new.memory.bytes ≡ c.resize_block_to.new.memory.bytes)) reply e.refused ∙ is.counts.bytes;
      };
      frame =
          framed c.requires.core left u holds wide step (omega (arith, e.copied s u is.stands (used_at g d), is.counts.copied)) (λ room. absurd (is.room room));
    }

-- ---- it moves

pub returns : goal.returns
returns g c =
    let d = (goal.at.returns g c).In_default in
    let (u, holds, wide, is_here) = c.requires.here in
    let s = state g d in
    let addr = c.args.addr in
    let size = c.args.layout.size in
    let to = c.move_block-to.result in
    let is = moves g d in
    let e = c.move_block-to.ensures in
    let reply : reply_of to ≡ Some to = sym (some_reply to c.if-to-eq0.false) in
    let (t, by, now, spare) = e.step s u is.stands (used_at g d) (is.plan u holds) (here g d) in
    let told : Reallocates g.row.SLLEN s addr size (Some to) t =
    record { block = u; holds = holds; step = subst (λ r. ReallocatesBy g.row.SLLEN s u size (plan s u size) r t) reply by } in
    let k = c.reallocate.new.self.state in
    let kept : k ≡ bare t =
    c.reallocate.ensures ∙ (λ i. reallocated g.row.SLLEN addr (c.size.ensures.value i) (was g d i))
    ∙ reallocated-bare c.requires.core.stands.well_formed t addr size to told in
    let step = reads now k kept (Reallocates g.row.SLLEN s addr size (Some to)) told in
    let left = LeavesCore-moved is.counts now k kept c.requires.core.valid spare e.costs e.own e.here in
    let still = subst (IsHereStill c.resize_block_to.new.memory c.move_block-to.new.memory u) reply (e.kept_here s u is.stands (used_at g d) (is.plan u holds)) (here g d) in
    assumption (
      left,
      step,
      IsRelocated-at c.requires.core.stands u holds wide step left.core.stands left.costs.start left.own is_here still,
      bounded c.requires.core left u holds wide step,
      framed c.requires.core left u holds wide step (omega (arith, e.copied s u is.stands (used_at g d), is.counts.copied)) (λ room. absurd (is.room room)),
    )
