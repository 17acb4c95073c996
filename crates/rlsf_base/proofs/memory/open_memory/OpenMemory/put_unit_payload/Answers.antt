use Rattle.std.proofs.Common.{◌≡◌, ℕ, ◌+◌, ◌-◌, ◌*◌, ◌%◌, ◌^◌, ◌≤◌, ◌∙◌, ap, arith, length, set, sym, subst, w64, false}
use Rattle.std.specs.Int.{from_le_bytes}
use denote.RawPtr.{◌+ₚ◌}
use Rattle.rlsf_base.specs.Changes.{came_raw}
use Rattle.rlsf_base.specs.Ledger.{IsIssued, entry_of, extent}
use Rattle.rlsf_base.specs.Out.{kept_at}
use Rattle.rlsf_base.specs.declared.memory.view.View.{View}
use Rattle.rlsf_base.specs.OpenSpace.{Home, IsReadable}
use Rattle.rlsf_base.specs.Space.{Space, word_range}
use Rattle.rlsf_base.specs.Steps.Block.{start_of, view_of}
use Rattle.rlsf_base.proofs.Lending.WordIsHere.{word_at-is}
use Rattle.rlsf_base.proofs.Lending.Placed.{bytes_there}
use Rattle.rlsf_base.proofs.Lending.Present.{here-in}
use Rattle.rlsf_base.proofs.memory.open_memory.OpenMemory.put_unit_payload.Goals as goal
use Rattle.rlsf_base.proofs.memory.open_memory.OpenMemory.put_unit_payload.Goals.{After-self}

-- the address of the word
abbrev addr : After-self → ℕ
addr c = c.args.payload.start + (c.args.payload.len + c.args.behind)

-- the ticket is live, so the word can be read
readable : (c : After-self) → IsReadable c.args.self.now (addr c)
readable c =
    let e = c.into_parts-units.ensures in
    c.requires.readable (subst (λ (u : ℕ × (ℕ × ℕ × ℕ)). IsIssued c.args.ledger.now.entries u.0 (extent u.1.0 u.1.1 u.1.2)) (λ i. (e.2.1 i, (e.2.2 i, e.2.3 i, e.2.4 i)))
    c.redeem.ensures.issued)

-- where the units begin in the block, and the word behind them in the memory
starts : (c : After-self) → c.into_parts-units.result.1.first * 16 ≡ (c.self.inside.shift + c.args.payload.start) % 2 ^ 64 + c.args.payload.kept
starts c =
    let shift : c.args.payload.home.view.shift ≡ c.self.inside.shift =
    ap (λ (h : Home). h.view.shift) c.requires.home ∙ sym (ap (λ (s : Space). s.view.shift) c.self.view_is) in
    c.into_parts-units.ensures.1.1 ∙ ap (λ k. (k + c.args.payload.start) % 2 ^ 64 + c.args.payload.kept) shift

record Lies (c : After-self) : Type 0 where
  from : c.self.inside.bytes.skip ≤ c.into_parts-units.result.1.first * 16 + (c.into_parts-units.result.0.len - c.args.kept + c.args.behind)
  to : c.into_parts-units.result.1.first * 16 + (c.into_parts-units.result.0.len - c.args.kept + c.args.behind) + 8 ≤ c.self.inside.bytes.skip + length c.self.inside.bytes.bytes
  at : c.into_parts-units.result.1.first * 16 + (c.into_parts-units.result.0.len - c.args.kept + c.args.behind) - c.self.inside.bytes.skip ≡ addr c - c.args.self.now.start

word_lies : (c : After-self) → Lies c
word_lies c =
    let m = c.self.inside in let now = c.args.self.now in
    let start : start_of m.shift m.len_and_skip ≡ now.start = ap (λ (s : Space). s.start) c.self.view_is in
    let long : length m.bytes.bytes ≡ length now.bytes = ap (λ (s : Space). length s.bytes) c.self.view_is in
    let home : c.args.payload.home.start ≡ now.start = ap (λ (h : Home). h.start) c.requires.home in
    let whole : c.args.payload.home.len ≡ length now.bytes = ap (λ (h : Home). h.len) c.requires.home in
    let len : c.into_parts-units.result.0.len ≡ c.args.payload.len = c.into_parts-units.ensures.0.1 in
    let kept : c.args.kept ≡ c.args.payload.kept = c.requires.kept in let within = c.args.payload.within in
    let first = starts c in let lies = c.args.payload.placed.lies in let word = (readable c).1 in let skip = c.self.invariant.lies.1 in let bounds = c.self.invariant.bounds in
    record { from = omega arith; to = omega arith; at = omega arith }

pub slice_ahead-requires : goal.slice_ahead-requires
slice_ahead-requires c =
    let d = (goal.at.slice_ahead-requires c).After-self in
    let m = c.self.inside in let e = c.into_parts-units.ensures in let l = word_lies d in
    let base : c.args.payload.home.view.base.ptr ≡ m.bytes.at =
    ap (λ (h : Home). h.view.base.ptr) c.requires.home ∙ ap (λ (s : Space). s.view.base.ptr) (sym c.self.view_is) ∙ c.self.invariant.lies.0 in (
      c.at-from.ensures ∙ e.0.0 ∙ (λ i. (e.1.0 ∙ base) i +ₚ c.into_parts-units.result.1.first * 16),
      ((l.from, l.to), here-in m.bytes.out c.args.self.now (word_range (addr d)) _ (ap (λ (s : Space). s.out) c.self.view_is) (readable d).1.0 l.at (readable d).2),
    )

pub returns : goal.returns
returns c =
    let d = (goal.at.returns c).After-self in
    let now = c.args.self.now in let p = c.args.payload in let e = c.into_parts-units.ensures in let t = c.touch.ensures in let back = c.put_units.ensures in
    let was = c.self.view_is in let is = c.self-2.view_is in let m = c.self-2.inside in let run = c.into_parts-units.result.1 in
    let read = c.slice_ahead.ensures ∙ bytes_there was (word_range (addr d)) (word_lies d).at in
    let start : start_of m.shift m.len_and_skip ≡ now.start = ap (λ (s : Space). s.start) is ∙ t.start in
    let view : view_of m.base m.shift ≡ now.view = ap (λ (s : Space). s.view) is ∙ t.view in
    let out : m.bytes.out ≡ now.out = ap (λ (s : Space). s.out) is ∙ t.out in
    let shift : m.shift ≡ c.self.inside.shift = ap (λ (v : View). v.shift) (view ∙ sym (ap (λ (s : Space). s.view) was)) in
    let place : run.first * 16 - m.bytes.skip ≡ p.start + p.kept - now.start =
    let first = starts d in let lies = p.placed.lies in let skip = c.self-2.invariant.lies.1 in let bounds = c.self-2.invariant.bounds in let within = p.within in
    let home : p.home.start ≡ now.start = ap (λ (h : Home). h.start) c.requires.home in
    let whole : p.home.len ≡ length now.bytes = ap (λ (h : Home). h.len) c.requires.home in
    let long : length m.bytes.bytes ≡ length now.bytes = ap (λ (s : Space). length s.bytes) is ∙ ap length t.bytes in
    let all = c.self-2.invariant.whole in omega arith in
    let many : run.count * 16 ≡ p.len - p.kept = omega (arith, e.1.2) in
    record {
      issued = subst (λ (u : ℕ × (ℕ × ℕ × ℕ)). IsIssued c.args.ledger.now.entries u.0 (extent u.1.0 u.1.1 u.1.2)) (λ i. (e.2.1 i, (e.2.2 i, e.2.3 i, e.2.4 i)))
          c.redeem.ensures.issued;
      ledger = (
        c.redeem.ensures.name,
        c.redeem.ensures.entries ∙ (λ i. set c.args.ledger.now.entries (e.2.1 i) (entry_of (extent (e.2.2 i) (e.2.3 i) (e.2.4 i)) false)),
      );
      word = c.word_of-word.ensures ∙ ap (λ bs. from_le_bytes w64 bs) read ∙ sym (word_at-is now (addr d) (readable d).1.0 (readable d).2);
      away = λ a lo hi. ap (λ cs. kept_at cs (a - now.start)) (sym out) ∙ back.0 (a - now.start) (omega (arith, place, lo)) (omega (arith, place, many, lo, hi, p.placed.lies));
      memory = record {
        start = start;
        view = view;
        bytes = back.1.0.2 ∙ ap (λ (s : Space). s.bytes) is ∙ t.bytes;
        out = back.1.1 ∙ (λ i. came_raw (place i) (many i) (out i));
      };
      counts = (ap (λ (s : Space). s.touches) is ∙ t.touches, ap (λ (s : Space). s.copied) is ∙ t.copied);
    }
