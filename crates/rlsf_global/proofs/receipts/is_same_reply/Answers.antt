use Rattle.rlsf_global.proofs.Journal.Equal.{told_placed}
use Rattle.rlsf_global.proofs.receipts.is_same_reply.Goals as goal

pub returns-in-Placed-Placed : goal.returns-in-Placed-Placed
returns-in-Placed-Placed c = let x = c.in-Placed-Placed.is-0 in let y = c.in-Placed-Placed.is-1 in
    told_placed c.in-Placed-Placed.a c.in-Placed-Placed.b c.args.a c.args.b c.in-Placed-Placed.is-0 c.in-Placed-Placed.is-1 c.get.result c.get-in-Placed-Placed.result
    c.get.ensures.value c.get-in-Placed-Placed.ensures.value
