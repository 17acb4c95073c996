use Rattle.std.proofs.Common.{true≢false, sym, ◌∙◌, ap}
use Rattle.std.proofs.lemmas.Bool.{eq-eqb, eqb-true}
use Rattle.std.proofs.lemmas.List.{get_or_default}
use Rattle.rlsf_base.specs.Range.{end_of}
use Rattle.rlsf_trace_runs.proofs.Lengthened.{same_end}
use Rattle.rlsf_trace_runs.proofs.Overlapping.{IsIn-at, no_range, nth_range}
use Rattle.rlsf_trace_runs.proofs.pools.is_pool.Goals as goal

pub returns-in_default : goal.returns-in_default
returns-in_default c = (λ bad. absurd (true≢false (sym bad)), λ (p, there, _, ends). absurd (c.in_default.ensures.none p there ends))

pub returns-in-Some-checked_next_multiple_of : goal.returns-in-Some-checked_next_multiple_of
returns-in-Some-checked_next_multiple_of c =
    let xs = c.args.pools.now.ranges.items in
    let i = c.in-Some.place in
    let (below, ends) = c.in-Some.ensures.found in
    let start = c.in-Some-checked_next_multiple_of.start in
    let up = c.in-Some-checked_next_multiple_of.ensures.1 in
    let is = c.index.ensures ∙ get_or_default xs i c.index.result.now no_range below in (
      λ same. (nth_range xs i, IsIn-at xs i no_range below, sym (ap (λ p. p.start) is) ∙ eqb-true c.index.result.now.start start same ∙ up, ends no_range),
      λ (p, there, begins, end). (
          let here = same_end c.requires.apart i (end_of c.args.range) c.in-Some.ensures.found p there end in
          eq-eqb c.index.result.now.start start (ap (λ q. q.start) (is ∙ sym here) ∙ begins ∙ sym up)
          ),
    )
