use Rattle.std.proofs.Common.{sym, subst}
use Rattle.rlsf_checked.specs.Answers.{insert_answer}
use Rattle.rlsf_pool_calls.specs.Calls.{PoolInserts}
use Rattle.rlsf_pool_calls.specs.Seen.{seen_in}
use Rattle.rlsf_pool_calls.proofs.Outcomes.{inserted}
use Rattle.rlsf_pool_calls.proofs.calls.insert.Goals as goal

pub returns : goal.returns
returns g c =
    let old = c.args.heap.now in
    let new = c.insert.new.self in
    let did = c.insert.ensures in
    subst (λ a. PoolInserts (insert_answer g.row.FLLEN old c.args.range) (seen_in g.row.SLLEN old) c.args.range a (seen_in g.row.SLLEN new)) (sym c.to_answer.ensures)
    (inserted g.row.FLLEN g.row.SLLEN old new c.args.range c.insert.result did.frame did.result did.refused)
