use Rattle.std.proofs.Common.{◌∙◌, ◌≤◌, ◌-◌, ◌/◌, length, arith, refl, sym, true≢false}
use Rattle.rlsf_tlsf.specs.Allocator.{allocator}
use Rattle.rlsf_offsets.specs.Units.{offsets}
use Rattle.rlsf_offsets.proofs.Frees.{sized-freed}
use Rattle.rlsf_offsets.proofs.Growths.{IsLonger-frame, sized-again}
use Rattle.rlsf_offsets.proofs.units.UnitTlsf.grow.Goals as goal

pub returns-then-can_have : goal.returns-then-can_have
returns-then-can_have c =
    let e = c.lengthen.ensures in
    let (units, shorter) = c.can_have.ensures.0 c.if-can_have.true in
    let fits : (c.self.inside.units ≤ c.args.units) × (c.args.units ≤ length c.self.inside.memory.bytes / 32 - 1)
    = (units, omega (arith, shorter, c.len.ensures.value)) in
    let x = offsets c.args.units (allocator c.lengthen.new.memory c.lengthen.new.table c.lengthen.new.state.state) in
    rw (← c.self.view_is) (record {
      longer = λ done. IsLonger-frame c.self.invariant.shadow c.args.units fits.0 e.frame;
      which = (λ done. fits, λ can. refl);
      sized = sized-freed (offsets c.self.inside.units (allocator c.self.inside.memory c.self.inside.table c.self.inside.state.state)) x e.bounds;
      same = λ none. absurd (true≢false none);
      touches = e.touches;
    })

pub returns : goal.returns
returns c =
    let none : (c.self.inside.units ≤ c.args.units) × (c.args.units ≤ length c.self.inside.memory.bytes / 32 - 1) → ⊥ = λ can.
    true≢false (sym (c.can_have.ensures.1 (can.0, omega (arith, can.1, c.len.ensures.value))) ∙ c.if-can_have.false) in
    rw (← c.self.view_is) (record {
      longer = λ done. absurd (true≢false (sym done));
      which = (λ done. absurd (true≢false (sym done)), λ can. absurd (none can));
      sized = sized-again (offsets c.self.inside.units (allocator c.self.inside.memory c.self.inside.table c.self.inside.state.state));
      same = λ none. record { space = refl; limit = refl; same = refl };
      touches = omega arith;
    })
