use Rattle.std.proofs.Common.{◌<◌, arith, ap, subst, sym}
use Rattle.rlsf_base.specs.declared.memory.range.Range.{Range}
use Rattle.rlsf_base.specs.Space.{range_of}
use Rattle.rlsf_blocks.specs.Laws.{read_from}
use Rattle.rlsf_model.specs.Insert.{IsNext}
use Rattle.rlsf_model.proofs.Chunks.{used-appended, used-inserted}
use Rattle.rlsf_offsets.proofs.Frees.{no_chunk, shadow_chunk}
use Rattle.rlsf_offsets.proofs.Growths.{AreWhole-used, IsNext-shadow, few_chunks, longer_shadow}
use Rattle.rlsf_offsets.proofs.Kept.{IsCore-kept, IsUnitAllocator-longer}
use Rattle.rlsf_offsets.proofs.units.lengthen.Goals as goal

-- ---- the first units

pub returns-then-from-eq0 : goal.returns-then-from-eq0
returns-then-from-eq0 c =
    let kept = c.requires.kept in
    let e = c.insert_in.ensures in
    let r = c.first_units.result in
    let s = read_from c.args.memory.now c.args.state.now.state in
    let t = read_from c.insert_in.new.memory c.insert_in.new.state.state in
    let none = kept.shadow.none c.if-from-eq0.true in
    record {
      kept = IsUnitAllocator-longer kept e.left c.requires.room (AreWhole-used s t (used-inserted 59 s t r _ e.step) kept.shadow.whole)
          (shadow_chunk c.args.to r s t _ c.first_units.ensures none e.step) (no_chunk c.args.to r s t _ c.first_units.ensures none e.step);
      bounds = e.bounds;
      frame = e.frame;
      touches = omega (arith, e.left.costs.touches, few_chunks r);
    }

-- ---- those behind others

pub append_in-requires : goal.append_in-requires
append_in-requires c =
    let shadow = c.requires.kept.shadow in
    let s = read_from c.args.memory.now c.args.state.now.state in
    let at = c.units_behind.ensures in
    let start = ap (λ (r : Range). r.start) at in
    let len = ap (λ (r : Range). r.len) at in
    let next = IsNext-shadow shadow c.args.to (omega (arith, c.if-from-eq0.false)) c.requires.longer c.requires.room in
    let longer = c.requires.longer in (
      omega arith,
      (
        IsCore-kept c.requires.kept,
        (
          subst (λ (r : Range). IsNext (range_of c.args.memory.now) s r) (sym at) next,
          λ p low high. shadow.own p (omega (arith, low, start, shadow.start)) (omega (arith, high, start, len, shadow.start, c.requires.room, longer)),
        ),
      ),
    )

pub returns : goal.returns
returns c =
    let kept = c.requires.kept in
    let e = c.append_in.ensures in
    let r = c.units_behind.result in
    let s = read_from c.args.memory.now c.args.state.now.state in
    let t = read_from c.append_in.new.memory c.append_in.new.state.state in
    let some : 0 < c.args.from = omega (arith, c.if-from-eq0.false) in
    let start = ap (λ (r : Range). r.start) c.units_behind.ensures in
    let len = ap (λ (r : Range). r.len) c.units_behind.ensures in
    record {
      kept = IsUnitAllocator-longer kept e.left c.requires.room (AreWhole-used s t (used-appended 59 s t r _ e.step) kept.shadow.whole)
          (λ more. longer_shadow c.args.from c.args.to s t r _ some c.requires.longer (kept.shadow.chunks some) start len e.step)
          (λ zero. absurd (omega (arith, zero, some, c.requires.longer)));
      bounds = e.bounds;
      frame = e.frame;
      touches = e.left.costs.touches;
    }
