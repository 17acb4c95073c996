use Rattle.std.proofs.Common.{sym, subst}
use Rattle.rlsf_checked.specs.Answers.{append_answer}
use Rattle.rlsf_pool_calls.specs.Calls.{PoolAppends}
use Rattle.rlsf_pool_calls.specs.Seen.{seen_in}
use Rattle.rlsf_pool_calls.proofs.Outcomes.{appended}
use Rattle.rlsf_pool_calls.proofs.calls.append.Goals as goal

pub returns : goal.returns
returns g c =
    let old = c.args.heap.now in
    let new = c.append.new.self in
    let did = c.append.ensures in
    subst (λ a. PoolAppends (append_answer g.row.FLLEN old c.args.range) (seen_in g.row.SLLEN old) a (seen_in g.row.SLLEN new)) (sym c.to_answer.ensures)
    (appended g.row.FLLEN g.row.SLLEN old new c.args.range c.append.result did.frame did.result did.refused)
