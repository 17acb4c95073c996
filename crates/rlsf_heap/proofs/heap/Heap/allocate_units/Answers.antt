use Rattle.std.proofs.Common.{◌≡◌, ℕ, ◌%◌, None, Some, length, true≢false, arith, refl, sym, ap, subst, ◌∙◌}
use Rattle.rlsf_model.specs.Allocate.{Allocates}
use Rattle.rlsf_model.specs.Callers.{align_at}
use Rattle.rlsf_heap.specs.Heap.{Identity, Steps}
use Rattle.rlsf_heap.specs.Units.{payload_len, unit_addr_of}
use Rattle.rlsf_heap.proofs.OnCores.{if_none, if_some}
use Rattle.rlsf_heap.proofs.Released.{units-long, payload_len-whole}
use Rattle.rlsf_heap.proofs.heap.Heap.allocate_units.Given as given
use Rattle.rlsf_heap.proofs.heap.Heap.allocate_units.Goals as goal
use Rattle.rlsf_heap.proofs.heap.Heap.allocate_units.Goals.{In_ok-payload}

asked : (g : given.Over) (c : In_ok-payload g) → Steps g.row.FLLEN g.row.SLLEN c.allocate.new.self
    (Allocates g.row.SLLEN c.args.self.now.state c.args.size 16 (Some c.in_ok-payload.payload.start))
asked g c =
    let e = c.from_size_align_unchecked-layout.ensures in
    subst (λ (u : ℕ × ℕ). Steps g.row.FLLEN g.row.SLLEN c.allocate.new.self (Allocates g.row.SLLEN c.args.self.now.state u.0 u.1 (Some c.in_ok-payload.payload.start)))
    (λ i. (e.0 i, e.1 i)) c.in_ok-payload.ensures.step

long : (g : given.Over) (c : In_ok-payload g) → length c.in_ok-payload.payload.bytes ≡ payload_len c.args.size
long g c = c.in_ok-payload.ensures.result.long ∙ units-long g.row.FLLEN g.row.SLLEN c.allocate.new.self c.args.self.now.state c.args.size c.in_ok-payload.payload.start (asked g c)

pub into_unit_payload-requires : goal.into_unit_payload-requires
into_unit_payload-requires g c =
    let d = (goal.at.into_unit_payload-requires g c).In_ok-payload in
    let e = c.from_size_align_unchecked-layout.ensures in let p = c.in_ok-payload.payload in
    record {
      units = (
        subst (λ a. p.start % a ≡ 0) e.1 c.in_ok-payload.ensures.result.aligned,
        ap (λ n. n % 16) (long g d) ∙ payload_len-whole c.args.size,
        ap (λ (h : Identity). h.home.view.shift % 16) c.in_ok-payload.ensures.result.identity ∙ c.requires.units,
        c.in_ok-payload.ensures.result.requested ∙ e.1,
      );
    }

pub returns : goal.returns
returns g c =
    let d = (goal.at.returns g c).In_ok-payload in
    let asks = c.from_size_align_unchecked-layout.ensures in
    let e = c.in_ok-payload.ensures in
    let u = c.into_unit_payload.ensures in
    let new = c.allocate.new.self in record {
      step = subst (λ a. Steps g.row.FLLEN g.row.SLLEN new (Allocates g.row.SLLEN c.args.self.now.state c.args.size 16 (Some a))) (sym u.1) (asked g d);
      result = record {
        complete = (u.0.0 ∙ e.result.identity, u.0.1);
        long = u.2 ∙ long g d;
        live = ap (align_at new.state) u.1 ∙ e.result.live ∙ ap (λ n. Some n) asks.1;
        new = ap (align_at c.args.self.now.state) u.1 ∙ e.result.new;
        aligns = λ a apart. e.result.aligns a (λ same. apart (same ∙ sym u.1));
        count = e.result.count;
      };
      room = λ count most align sized few short fits. refl;
      bounds = λ count most align sized short fits. e.bounds count most align sized (omega (arith, asks.0, short)) (omega (arith, asks.1, fits));
      refused = tt;
      frame = e.frame;
      touches = e.touches;
    }

pub returns-in_err-payload : goal.returns-in_err-payload
returns-in_err-payload g c =
    let asks = c.from_size_align_unchecked-layout.ensures in
    let e = c.in_err-payload.ensures in
    let none = c.from_residual.ensures in
    let new = c.allocate.new.self in record {
      step = subst (λ o. Steps g.row.FLLEN g.row.SLLEN new (Allocates g.row.SLLEN c.args.self.now.state c.args.size 16 (unit_addr_of o))) (sym none)
          (subst (λ (u : ℕ × ℕ). Steps g.row.FLLEN g.row.SLLEN new (Allocates g.row.SLLEN c.args.self.now.state u.0 u.1 None)) (λ i. (asks.0 i, asks.1 i)) e.step);
      result = if_some _ none;
      room = λ count most align sized few short fits.
          absurd (true≢false (sym (e.room.bounds count most align sized few (omega (arith, asks.0, short)) (omega (arith, asks.1, fits)))));
      bounds = λ count most align sized short fits. e.bounds count most align sized (omega (arith, asks.0, short)) (omega (arith, asks.1, fits));
      refused = if_none _ none e.refused;
      frame = e.frame;
      touches = e.touches;
    }
