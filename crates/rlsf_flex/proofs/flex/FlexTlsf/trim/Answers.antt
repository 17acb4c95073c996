use Rattle.std.proofs.Common.{ap, arith, refl, sym, ◌∙◌}
use Rattle.rlsf_flex.specs.Steps.Parts.{flex_over}
use Rattle.rlsf_flex.proofs.Places.{SamePlace-refl}
use Rattle.rlsf_flex.proofs.TrimmedRanges.{not_trimmed, trimmed}
use Rattle.rlsf_flex.proofs.flex.FlexTlsf.trim.Goals as goal

pub give_idle_back-requires : goal.give_idle_back-requires
give_idle_back-requires g c = (omega arith, (sym c.supports_dealloc.ensures ∙ c.if-supports_dealloc.true, (c.self.invariant.stands, c.self.invariant.whole)))

pub invariant_of-self : goal.invariant_of-self
invariant_of-self g c =
    record { valid = c.self.invariant.valid; stands = c.give_idle_back.ensures.gone.stands; whole = c.give_idle_back.ensures.gone.place.3 c.self.invariant.whole }

pub returns-then-supports_dealloc : goal.returns-then-supports_dealloc
returns-then-supports_dealloc g c =
    let now = flex_over c.self.inside.parts in
    let new = flex_over c.give_idle_back.new.self in
    let takes = sym c.supports_dealloc.ensures ∙ c.if-supports_dealloc.true in
    let is = c.give_idle_back.ensures in
    rw (← c.self.view_is) (record {
      step = trimmed g.S.FlexSource.leads now new c.give_idle_back.result is.gone g.met.S.FlexSource.constant c.self.invariant.stands takes is.held;
      refused = λ none. ap flex_over (is.same none);
      frame = assumption (is.gone, is.payloads);
      touches = is.touches;
    })

pub returns-else-supports_dealloc : goal.returns-else-supports_dealloc
returns-else-supports_dealloc g c =
    let now = flex_over c.self.inside.parts in
    let lacks = sym c.supports_dealloc.ensures ∙ c.if-supports_dealloc.false in
    rw (← c.self.view_is) (record {
      step = not_trimmed g.S.FlexSource.leads now c.self.invariant.stands lacks;
      refused = λ none. refl;
      frame = record {
        spare = λ a low high before after. refl;
        aligns = refl;
        bytes = refl;
        count = refl;
        place = SamePlace-refl c.self.inside.parts.tlsf.memory;
        grow = omega arith;
        copied = refl;
      };
      touches = omega arith;
    })
