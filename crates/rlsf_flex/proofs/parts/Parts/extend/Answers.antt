use Rattle.std.proofs.Common.{rules, ◌≡◌, ◌+◌, None, true, false, true≢false, refl, sym, ◌∙◌, ap}
use Rattle.rlsf_flex.specs.StandsFor.{kept_of}
use Rattle.rlsf_flex.proofs.Asks.{extended_first, extended_grown, extended_past, extended_refused, extended_second, if_none, sum_fits, sum_past, terms_stay}
use Rattle.rlsf_flex.proofs.KeptPayloads.{HasSamePayloads-refl, HasSamePayloads-trans}
use Rattle.rlsf_flex.proofs.parts.Parts.extend.Goals as goal

pub returns-in_default : goal.returns-in_default
returns-in_default g c = record {
  step =
      let none : c.args.self.now.kept ≡ None = search rules in
      extended_first (ap kept_of none) c.is_some.ensures c.ask_range.ensures.step;
  payloads = c.ask_range.ensures.payloads;
  refused = λ none. if_none c.ask_range.result c.ask_range.ensures.refused (sym c.is_some.ensures ∙ none);
}

pub returns-in_default-checked_add : goal.returns-in_default-checked_add
returns-in_default-checked_add g c = record {
  step =
      extended_past (ap kept_of c.in-Some.is) (sum_past c.checked_add.result (c.in-Some.pool.len + c.args.wanted) c.checked_add.ensures c.in_default-checked_add.is)
      c.requires.stands;
  payloads = HasSamePayloads-refl c.args.self.now.tlsf;
  refused = λ none. record { same = refl };
}

pub returns-then-is_some : goal.returns-then-is_some
returns-then-is_some g c = record {
  step =
      let fits = sum_fits c.checked_add.result (c.in-Some.pool.len + c.args.wanted) c.in-Some-checked_add.len c.checked_add.ensures c.in-Some-checked_add.is in
      extended_grown (ap kept_of c.in-Some.is) fits.0 c.ask_growth.ensures.step (sym c.is_some-2.ensures ∙ c.if-is_some.true);
  payloads = c.ask_growth.ensures.payloads;
  refused = λ none. absurd (true≢false none);
}

pub returns-then-is_contiguous : goal.returns-then-is_contiguous
returns-then-is_contiguous g c = record {
  step =
      let one_range : (g.S.FlexSource.terms c.ask_growth.new.self.source).contiguous ≡ true = sym c.is_contiguous_growable-is_contiguous.ensures ∙ c.if-is_contiguous.true in
      let fits = sum_fits c.checked_add.result (c.in-Some.pool.len + c.args.wanted) c.in-Some-checked_add.len c.checked_add.ensures c.in-Some-checked_add.is in
      let kept = ap kept_of c.in-Some.is in
      let h = c.ask_growth.ensures.step in
      let same = terms_stay kept fits.0 h g.met.S.FlexSource.constant in
      extended_refused kept fits.0 h (sym c.is_some-2.ensures ∙ c.if-is_some.false) (sym (ap (λ t. t.contiguous) same) ∙ one_range);
  payloads = c.ask_growth.ensures.payloads;
  refused = λ none. if_none c.ask_growth.result c.ask_growth.ensures.refused (sym c.is_some-2.ensures ∙ c.if-is_some.false);
}

pub returns : goal.returns
returns g c = record {
  step =
      let many_ranges : (g.S.FlexSource.terms c.ask_growth.new.self.source).contiguous ≡ false =
      sym c.is_contiguous_growable-is_contiguous.ensures ∙ c.if-is_contiguous.false in
      let fits = sum_fits c.checked_add.result (c.in-Some.pool.len + c.args.wanted) c.in-Some-checked_add.len c.checked_add.ensures c.in-Some-checked_add.is in
      let kept = ap kept_of c.in-Some.is in
      let h = c.ask_growth.ensures.step in
      let same = terms_stay kept fits.0 h g.met.S.FlexSource.constant in
      extended_second kept fits.0 h (sym c.is_some-2.ensures ∙ c.if-is_some.false) (sym (ap (λ t. t.contiguous) same) ∙ many_ranges) same c.is_some-3.ensures
      c.ask_range-2.ensures.step;
  payloads = HasSamePayloads-trans _ _ _ c.ask_growth.ensures.payloads c.ask_range-2.ensures.payloads;
  refused = λ none.
      let first = if_none c.ask_growth.result c.ask_growth.ensures.refused (sym c.is_some-2.ensures ∙ c.if-is_some.false) in
      let second = if_none c.ask_range-2.result c.ask_range-2.ensures.refused (sym c.is_some-3.ensures ∙ none) in
      record { same = second.same ∙ first.same };
}
