use Rattle.std.proofs.Common.{◌+◌, length, arith, refl, sym, ◌∙◌, ap, subst}
use Rattle.rlsf_model.specs.Note.{dealloc}
use Rattle.rlsf_model.specs.Terms.{Terms}
use Rattle.rlsf_model.specs.Trim.{IsNewestHeld}
use Rattle.rlsf_flex.specs.StandsFor.{FlexContents}
use Rattle.rlsf_flex.specs.Steps.Parts.{flex_over}
use Rattle.rlsf_flex.specs.Steps.Trim.{GaveBack}
use Rattle.rlsf_flex.proofs.TrimmedRanges.{GaveBack-few, GaveBack-next, GaveBack-none, LeavesPayloads-refl, LeavesPayloads-then}
use Rattle.rlsf_flex.proofs.parts.Parts.give_idle_back.Goals as goal

pub loop-count-init : goal.loop-count-init
loop-count-init g c = record {
  gone = GaveBack-none g.S.FlexSource.leads (flex_over c.args.self.now) c.requires.stands;
  supported = c.requires.supported;
  whole = c.requires.whole;
  same = λ none. refl;
  payloads = LeavesPayloads-refl c.args.self.now.tlsf;
  touches = omega arith;
}

pub overflow_add-count : goal.overflow_add-count
overflow_add-count g c =
    let begin = flex_over c.args.self.now in
    let meanwhile = flex_over c.loop-count.self in
    let now = flex_over c.give_newest_back.new.self in
    let more = GaveBack-next g.S.FlexSource.leads begin meanwhile now c.loop-count.count c.loop-count.invariant.gone (c.loop-count-test.ensures.gone refl) in
    record { fits = omega (arith, GaveBack-few g.S.FlexSource.leads begin now (c.loop-count.count + 1) more c.requires.stands) }

pub loop-count-smaller : goal.loop-count-smaller
loop-count-smaller g c =
    let one = c.loop-count-test.ensures.gone refl in
    omega (arith, ap length one.split, ap length one.pools)

pub loop-count-preserved : goal.loop-count-preserved
loop-count-preserved g c =
    let begin = flex_over c.args.self.now in
    let meanwhile = flex_over c.loop-count.self in
    let now = flex_over c.give_newest_back.new.self in
    let h = c.loop-count.invariant in
    let step = c.loop-count-test.ensures in
    let one = step.gone refl in
    record {
      gone = GaveBack-next g.S.FlexSource.leads begin meanwhile now c.loop-count.count h.gone one;
      supported =
          ap (λ (t : Terms). t.dealloc) (g.met.S.FlexSource.constant c.loop-count.self.source c.give_newest_back.new.self.source (dealloc one.newest) one.led) ∙ h.supported;
      whole = one.place.3 h.whole;
      same = λ none. absurd (omega (arith, none));
      payloads = LeavesPayloads-then h.payloads step.payloads;
      touches = omega (arith, step.touches, h.touches);
    }

pub returns : goal.returns
returns g c = record {
  gone =
      let begin = flex_over c.args.self.now in
      subst (λ (now : FlexContents g.row.S.Denot). GaveBack g.row.FLLEN g.row.SLLEN g.S.FlexSource.terms g.S.FlexSource.owes g.S.FlexSource.leads begin now c.loop-count.count)
      (sym (ap flex_over (c.loop-count-test.ensures.same refl))) c.loop-count.invariant.gone;
  held =
      subst (λ (now : FlexContents g.row.S.Denot). IsNewestHeld now.state.machine now.state.pools) (sym (ap flex_over (c.loop-count-test.ensures.same refl)))
      (c.loop-count-test.ensures.held refl);
  same = λ none. c.loop-count-test.ensures.same refl ∙ c.loop-count.invariant.same none;
  payloads = LeavesPayloads-then c.loop-count.invariant.payloads c.loop-count-test.ensures.payloads;
  touches = omega (arith, c.loop-count-test.ensures.touches, c.loop-count.invariant.touches);
}
