use Rattle.std.proofs.Common.{rules, ◌≡◌, List, ◌/◌, ◌%◌, ◌∙◌, ap, arith, inl, inr, length, refl, sym}
use Rattle.rlsf_base.specs.declared.memory.view.View.{View}
use Rattle.rlsf_base.specs.Out.{Change, is_own, kept_at}
use Rattle.rlsf_base.specs.Piece.{piece_range}
use Rattle.rlsf_base.specs.Range.{LiesIn}
use Rattle.rlsf_base.specs.Space.{Space, with_bytes}
use Rattle.rlsf_base.proofs.Lending.BytesBeside.{with-here, with-own, with-stays}
use Rattle.rlsf_base.proofs.Lending.Replaced.{bytes_in-there, bytes_in-with, length-with}
use Rattle.rlsf_base.specs.OpenSpace.{Home, out_with}
use Rattle.rlsf_base.specs.Steps.Block.{start_of, view_of}
use Rattle.rlsf_base.specs.Steps.Ownership.{units_in}
use Rattle.rlsf_base.proofs.Lending.Memories.{with_contents}
use Rattle.rlsf_base.proofs.memory.open_memory.OpenMemory.put_thin_back.Goals as goal

pub put_back-requires : goal.put_back-requires
put_back-requires c =
    let m = c.self.inside in let p = c.args.bytes.piece in let b = c.into_bytes.result in let now = c.args.self.now in
    let (is, of, bytes, out) = c.into_bytes.ensures in
    let view : p.home.view ≡ view_of m.base m.shift = ap (λ (h : Home). h.view) c.requires.home ∙ sym (ap (λ (s : Space). s.view) c.self.view_is) in
    let shift : p.home.view.shift ≡ m.shift = ap (λ (v : View). v.shift) view in
    let start : start_of m.shift m.len_and_skip ≡ now.start = ap (λ (s : Space). s.start) c.self.view_is in
    let long : length m.bytes.bytes ≡ length now.bytes = ap (λ (s : Space). length s.bytes) c.self.view_is in
    let home : start_of p.home.view.shift b.of.0 ≡ now.start = ap (λ (h : Home). h.start) (of ∙ c.requires.home) in
    let size : b.of.1 ≡ length now.bytes = ap (λ (h : Home). h.len) (of ∙ c.requires.home) in
    let skip : b.of.0 ≡ m.len_and_skip % 16 = omega (arith, home, start, shift, is.first) in let all : b.of.1 ≡ m.len_and_skip / 32 =
    size ∙ sym long ∙ c.self.invariant.whole in
    let units : b.units ≡ m.bytes.units = is.place.2 ∙ (λ i. units_in (shift i) (skip i) (all i)) ∙ sym c.self.invariant.lies.2 in (
      sym is.place.0 ∙ ap (λ (v : View). v.base.ptr) view ∙ c.self.invariant.lies.0,
      (
        omega (arith, is.place, is.lies, home, size, start, long, shift, is.whole, c.self.invariant.lies, c.self.invariant.whole, is.first, is.small),
        omega (arith, is.place, is.lies, home, size, start, long, shift, is.whole, c.self.invariant.lies, c.self.invariant.whole, is.first, is.small),
      ),
      λ k lo hi. ap (λ (cs : List Change). kept_at cs k) out ∙ c.requires.full k lo (omega (arith, hi, ap length bytes)),
      units,
    )

pub returns-clause-back : goal.returns-clause-back
returns-clause-back c =
    let m = c.self.inside in let p = c.args.bytes.piece in let now = c.args.self.now in
    let n : Space = with_contents now (start_of m.shift m.len_and_skip) c.put_back.new.self.bytes c.put_back.new.self.out in
    let start : n.start ≡ now.start = ap (λ (s : Space). s.start) c.self.view_is in
    let out : n.out ≡ out_with now (piece_range p) = search rules in
    let lies : LiesIn (piece_range p) now.start (length now.bytes) = search rules in
    let bytes : n.bytes ≡ with_bytes now p.start p.bytes = search rules in
    let here = with-here now n (piece_range p) lies.0 start out in
    record {
      len = length-with now n (piece_range p) p.bytes lies refl start bytes;
      here = here;
      own = λ a lo hi. ap is_own (here a lo hi);
      values = bytes_in-there now n (piece_range p) p.bytes lies refl start bytes;
      others = λ q from side. bytes_in-with now n (piece_range p) p.bytes lies refl start bytes q from
          (elim side [ inl before ↦ inr before | inr behind ↦ inl behind ]);
      stays = with-stays now n (piece_range p) lies.0 start out;
      own_beside = λ a from side. with-own now n (piece_range p) lies.0 start out a from;
    }
