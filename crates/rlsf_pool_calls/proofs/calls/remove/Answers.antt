use Rattle.std.proofs.Common.{sym, subst}
use Rattle.rlsf_pool_calls.specs.Calls.{RemovesRange}
use Rattle.rlsf_pool_calls.specs.Seen.{seen_in}
use Rattle.rlsf_pool_calls.proofs.Rewritten.{range_removed}
use Rattle.rlsf_pool_calls.proofs.calls.remove.Goals as goal

pub returns : goal.returns
returns g c =
    let sllen = g.row.SLLEN in
    let old = c.args.heap.now in
    let new = c.remove_pool.new.self in
    let did = c.remove_pool.ensures in
    subst (λ n. RemovesRange (seen_in sllen old) c.args.range n (seen_in sllen new)) (sym c.to_code.ensures)
    (range_removed g.row.FLLEN sllen old new c.args.range c.remove_pool.result did.step did.result did.refused did.frame)
