use Rattle.std.proofs.Common.{◌∙◌, [], refl, ap}
use Rattle.rlsf_model.specs.Terms.{Terms}
use Rattle.rlsf_flex.proofs.Ends.{IsAt-back, IsAt-begun, IsAt-fewer, IsAt-front, IsAt-owed, IsAt-starts}
use Rattle.rlsf_flex.proofs.end.give_back.Goals as goal

pub range_before-next-requires-clause-range : goal.range_before-next-requires-clause-range
range_before-next-requires-clause-range g c = let (pools, is, owed) = c.requires.outstanding in (IsAt-front (c.loop-next.invariant.at pools is owed) c.in-Some.is).long

pub range_before-next-requires-clause-words : goal.range_before-next-requires-clause-words
range_before-next-requires-clause-words g c = let (pools, is, owed) = c.requires.outstanding in (IsAt-front (c.loop-next.invariant.at pools is owed) c.in-Some.is).words

pub loop-next-smaller : goal.loop-next-smaller
loop-next-smaller g c =
    let (pools, is, owed) = c.requires.outstanding in
    let at = c.loop-next.invariant.at pools is owed in
    let front = IsAt-front at c.in-Some.is in
    IsAt-fewer at c.in-Some.is (c.range_before-next.ensures front.rest front.footers (IsAt-starts at c.in-Some.is))

pub loop-next-preserved : goal.loop-next-preserved
loop-next-preserved g c = record {
  at = λ pools is owed.
      let at = c.loop-next.invariant.at pools is owed in
      let front = IsAt-front at c.in-Some.is in
      IsAt-back at c.in-Some.is (c.range_before-next.ensures front.rest front.footers (IsAt-starts at c.in-Some.is)) c.dealloc.new.self c.dealloc.ensures.leads
      (c.dealloc.ensures.owes [] front.rest (IsAt-owed at c.in-Some.is));
  terms = g.met.S.FlexSource.constant _ _ _ c.dealloc.ensures.leads ∙ c.loop-next.invariant.terms;
}

pub dealloc-requires-clause-supported : goal.dealloc-requires-clause-supported
dealloc-requires-clause-supported g c = ap (λ (t : Terms). t.dealloc) c.loop-next.invariant.terms ∙ c.requires.supported

pub dealloc-requires-clause-outstanding : goal.dealloc-requires-clause-outstanding
dealloc-requires-clause-outstanding g c =
    let (pools, is, owed) = c.requires.outstanding in
    let at = c.loop-next.invariant.at pools is owed in
    ([], (IsAt-front at c.in-Some.is).rest, IsAt-owed at c.in-Some.is)

pub loop-next-init : goal.loop-next-init
loop-next-init g c = record { at = λ pools is owed. IsAt-begun is owed; terms = refl }

pub returns-clause-terms : goal.returns-clause-terms
returns-clause-terms g c = c.loop-next.invariant.terms
