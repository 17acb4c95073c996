use Rattle.std.proofs.Common.{true≢false, arith, sym, ◌∙◌, subst}
use Rattle.std.proofs.lemmas.List.{get_or_default}
use Rattle.rlsf_model.specs.Lists.{IsIn}
use Rattle.rlsf_trace_runs.proofs.ApartPools.{clear_of_none, overlaps_last}
use Rattle.rlsf_trace_runs.proofs.Overlapping.{IsIn-at, no_range}
use Rattle.rlsf_trace_runs.proofs.pools.overlaps_any.Goals as goal

pub overlap-requires : goal.overlap-requires
overlap-requires c =
    let there = subst (λ p. IsIn p c.args.pools.now.ranges.items) (sym c.index.ensures)
    (IsIn-at c.args.pools.now.ranges.items c.in-Some.place c.index.result.now c.in-Some.ensures.0) in
    (c.requires.addressable.0, c.requires.addressable.1 c.index.result.now there)

pub returns-in-Some : goal.returns-in-Some
returns-in-Some c =
    let xs = c.args.pools.now.ranges.items in
    let is = c.index.ensures ∙ get_or_default xs c.in-Some.place c.index.result.now no_range c.in-Some.ensures.0 in
    overlaps_last c.requires.apart c.args.range c.in-Some.place c.in-Some.ensures c.index.result.now is c.overlap.result c.overlap.ensures

pub returns-in-None : goal.returns-in-None
returns-in-None c = (
  λ bad. absurd (true≢false (sym bad)),
  λ (a, in_range, covered). absurd (omega (arith, covered, clear_of_none c.requires.apart c.args.range c.in-None.ensures a in_range.0 in_range.1)),
)
