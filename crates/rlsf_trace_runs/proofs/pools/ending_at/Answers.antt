use Rattle.std.proofs.Common.{length, arith, sym, ◌∙◌, ap, subst}
use Rattle.std.proofs.lemmas.List.{get_or_default}
use Rattle.rlsf_base.specs.Range.{end_of}
use Rattle.rlsf_model.specs.Lists.{IsIn}
use Rattle.rlsf_trace_runs.specs.Steps.Pools.{IsLastBegun}
use Rattle.rlsf_trace_runs.proofs.ApartPools.{none_ends, none_ends_unbegun}
use Rattle.rlsf_trace_runs.proofs.Overlapping.{IsIn-at, no_range}
use Rattle.rlsf_trace_runs.proofs.pools.ending_at.Goals as goal

pub overflow_add-last : goal.overflow_add-last
overflow_add-last c =
    let there = subst (λ p. IsIn p c.args.pools.now.ranges.items) (sym c.index-last.ensures)
    (IsIn-at c.args.pools.now.ranges.items c.in-Some.place c.index-last.result.now c.in-Some.ensures.0) in
    omega (arith, c.requires.addressable c.index-last.result.now there)

pub returns-else-last-addr-clause-none : goal.returns-else-last-addr-clause-none
returns-else-last-addr-clause-none c =
    let xs = c.args.pools.now.ranges.items in
    let is = c.index-last.ensures ∙ get_or_default xs c.in-Some.place c.index-last.result.now no_range c.in-Some.ensures.0 in
    none_ends c.requires.apart c.args.addr c.in-Some.place c.in-Some.ensures (λ same. c.if-last-addr.false (ap end_of is ∙ same))

pub returns-in_default-clause-none : goal.returns-in_default-clause-none
returns-in_default-clause-none c =
    let xs = c.args.pools.now.ranges.items in
    none_ends_unbegun c.requires.apart c.args.addr (subst (IsLastBegun xs (length xs) c.args.addr) c.in_default.is c.last_begun.ensures)
