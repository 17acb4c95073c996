use Rattle.std.proofs.Common.{rules, ◌≡◌, ℕ, ◌+◌, ◌-◌, ◌<◌, ◌∙◌, ap, arith, drop, length, length-drop, length-take, sym}
use Rattle.rlsf_base.specs.declared.memory.view.View.{View}
use Rattle.rlsf_base.specs.Piece.{HasStatesOf}
use Rattle.rlsf_base.specs.Space.{Space, out_at}
use Rattle.rlsf_base.specs.Steps.Block.{start_of, view_of}
use Rattle.rlsf_base.specs.Steps.Ownership.{units_in}
use Rattle.rlsf_base.specs.OpenSpace.{out_without}
use Rattle.rlsf_base.specs.Out.{is_own, kept_at, out as gone}
use Rattle.rlsf_base.proofs.Changes.{shifted-at, shifted-own}
use Rattle.rlsf_base.proofs.Lending.BytesBeside.{changed-own_stays, changed-stays}
use Rattle.rlsf_base.proofs.Lending.Present.{own-in}
use Rattle.rlsf_base.proofs.Lending.Memories.{with_contents}
use Rattle.rlsf_base.proofs.Lending.Placed.{can_write}
use Rattle.rlsf_base.proofs.memory.open_memory.OpenMemory.take_out.Goals as goal

pub take_out-bytes-requires : goal.take_out-bytes-requires
take_out-bytes-requires c =
    (can_write c.self.invariant c.self.view_is c.view-view.ensures (omega arith) c.args.range c.requires.place c.place.ensures c.requires.own).1

pub invariant_of-result : goal.invariant_of-result
invariant_of-result c =
    let m = c.self.inside in
    let view : c.view-view.result ≡ view_of m.base m.shift = c.view-view.ensures ∙ sym (ap (λ (s : Space). s.view) c.self.view_is) in
    let shift : c.view-view.result.shift ≡ m.shift = ap (λ (v : View). v.shift) view in
    let start : start_of m.shift m.len_and_skip ≡ c.args.self.now.start = ap (λ (s : Space). s.start) c.self.view_is in
    let long : length m.bytes.bytes ≡ length c.args.self.now.bytes = ap (λ (s : Space). length s.bytes) c.self.view_is in
    let b = c.take_out-bytes.result in let e = c.take_out-bytes.ensures.0 in
    let i = c.place.result - m.bytes.skip in let place : i ≡ c.args.range.start - c.args.self.now.start = omega arith in
    let taken : length b.bytes ≡ c.args.range.len = ap length e.0.2 ∙ omega (arith, length-take c.args.range.len (drop i m.bytes.bytes), length-drop i m.bytes.bytes) in
    let own = own-in m.bytes.out c.args.self.now c.args.range i (ap (λ (s : Space). s.out) c.self.view_is) c.requires.place.0 place c.requires.own in
    let skip : b.of.0 ≡ m.bytes.skip = ap (λ (u : ℕ × ℕ). u.0) e.1 in let size : b.of.1 ≡ length m.bytes.bytes = ap (λ (u : ℕ × ℕ). u.1) e.1 in
    record {
      lies = (omega arith, omega arith);
      first = omega arith;
      place = (
        ap (λ (v : View). v.base.ptr) view ∙ c.self.invariant.lies.0 ∙ sym e.0.0,
        e.0.1 ∙ c.place.ensures,
        e.0.4 ∙ c.self.invariant.lies.2 ∙ (λ i. units_in (sym shift i) (sym (skip ∙ c.self.invariant.lies.1) i) (sym (size ∙ c.self.invariant.whole) i)),
      );
      whole = (taken, λ k lo hi. ap (λ cs. is_own (kept_at cs k)) e.0.3 ∙ shifted-own i m.bytes.out c.args.range.len own k lo (omega (arith, hi, taken)));
      small = omega arith;
    }

pub returns-clause-part : goal.returns-clause-part
unfolding HasStatesOf
returns-clause-part c =
    let m = c.self.inside in let now = c.args.self.now in let i = c.place.result - m.bytes.skip in
    let start : start_of m.shift m.len_and_skip ≡ now.start = ap (λ (s : Space). s.start) c.self.view_is in
    let shift : c.view-view.result.shift ≡ m.shift = ap (λ (v : View). v.shift) (c.view-view.ensures ∙ sym (ap (λ (s : Space). s.view) c.self.view_is)) in
    let long : length m.bytes.bytes ≡ length now.bytes = ap (λ (s : Space). length s.bytes) c.self.view_is in
    let taken : length c.take_out-bytes.result.bytes ≡ c.args.range.len =
    ap length c.take_out-bytes.ensures.0.0.2 ∙ omega (arith, length-take c.args.range.len (drop i m.bytes.bytes), length-drop i m.bytes.bytes) in
    let kept : (k : ℕ) → k < c.args.range.len → kept_at c.take_out-bytes.result.out k ≡ out_at now (c.args.range.start + k) =
    λ k lo. let place : i + k ≡ c.args.range.start + k - now.start = omega arith in
    ap (λ cs. kept_at cs k) c.take_out-bytes.ensures.0.0.3 ∙ shifted-at i m.bytes.out k ∙ (λ j. kept_at (c.self.view_is j).out (place j)) in
    record {
      home = search rules;
      start = search rules;
      bytes = search rules;
      len = taken;
      kept = kept;
      full = λ here k lo hi. kept k (omega (arith, hi, taken)) ∙ here (c.args.range.start + k) (omega arith) (omega (arith, hi, taken));
    }

pub returns-clause-beside : goal.returns-clause-beside
returns-clause-beside c =
    let m = c.self.inside in let now = c.args.self.now in let new = c.take_out-bytes.new.self in
    let n : Space = with_contents now (start_of m.shift m.len_and_skip) new.bytes new.out in
    let start : n.start ≡ now.start = ap (λ (s : Space). s.start) c.self.view_is in
    let out : n.out ≡ out_without now c.args.range = search rules in
    record {
      here = changed-stays gone now n c.args.range c.requires.place.0 start out;
      own = changed-own_stays gone now n c.args.range c.requires.place.0 start out;
    }
