use Rattle.std.proofs.Common.{replicate, ◌≡◌, ℕ, ◌%◌, Some, length, true≢false, arith, refl, sym, ap, subst, ◌∙◌}
use Rattle.std.proofs.lemmas.List.{length-replicate}
use Rattle.rlsf_model.specs.Allocate.{Allocates}
use Rattle.rlsf_model.specs.Callers.{align_at, bytes_at}
use Rattle.rlsf_heap.specs.Heap.{Steps, addr_of}
use Rattle.rlsf_heap.proofs.OnCores.{if_none, if_some}
use Rattle.rlsf_heap.proofs.heap.Heap.allocate_zeroed.Goals as goal

-- the payload that was allocated, with other bytes
pub returns : goal.returns
returns g c =
    let e = c.in_ok-payload.ensures in
    let f = c.fill.ensures in
    let new = c.allocate.new.self in
    let long : length c.fill.new.self.bytes ≡ length c.in_ok-payload.payload.bytes = ap length f.bytes ∙ length-replicate (length c.in_ok-payload.payload.bytes) 0 in record {
      step = subst (λ (a : ℕ). Steps g.row.FLLEN g.row.SLLEN new (Allocates g.row.SLLEN c.args.self.now.state c.args.layout.size c.args.layout.align (Some a))) (sym f.start)
          e.step;
      result = record {
        made = record {
          identity = f.identity ∙ e.result.identity;
          live = ap (align_at new.state) f.start ∙ e.result.live;
          requested = f.align ∙ e.result.requested;
          long = long ∙ e.result.long ∙ ap (λ (a : ℕ). length (bytes_at new.state a)) (sym f.start);
          aligned = ap (λ (a : ℕ). a % c.args.layout.align) f.start ∙ e.result.aligned;
          sized = omega (arith, long, e.result.sized);
          few = omega (arith, long, e.result.few);
          new = ap (align_at c.args.self.now.state) f.start ∙ e.result.new;
          count = e.result.count;
          aligns = λ a apart. e.result.aligns a (λ same. apart (same ∙ sym f.start));
          written = λ _. f.written;
        };
        written = f.written;
        zeros = f.bytes ∙ ap (λ (n : ℕ). replicate n 0) (sym long);
      };
      room = record {
        bounds = λ count most wide sized few short fits. refl;
        budget = λ count bytes most wide sized few little short fits. refl;
        bytes = e.room.bytes;
      };
      bounds = e.bounds;
      refused = tt;
      frame = e.frame;
      touches = e.touches;
    }

pub returns-in_err-payload : goal.returns-in_err-payload
returns-in_err-payload g c =
    let e = c.in_err-payload.ensures in
    let none = c.from_residual.ensures in record {
      step = subst (λ o. Steps g.row.FLLEN g.row.SLLEN c.allocate.new.self
          (Allocates g.row.SLLEN c.args.self.now.state c.args.layout.size c.args.layout.align (addr_of o))) (sym none) e.step;
      result = if_some _ none;
      room = record {
        bounds = λ count most wide sized few short fits. absurd (true≢false (sym (e.room.bounds count most wide sized few short fits)));
        budget = λ count bytes most wide sized few little short fits.
            absurd (true≢false (sym (e.room.budget count bytes most wide sized few little short fits)));
        bytes = e.room.bytes;
      };
      bounds = e.bounds;
      refused = if_none _ none e.refused;
      frame = e.frame;
      touches = e.touches;
    }
