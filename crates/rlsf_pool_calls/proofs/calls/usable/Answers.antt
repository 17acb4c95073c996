use Rattle.std.proofs.Common.{◌≡◌, None, sym, subst}
use Rattle.rlsf_model.specs.Callers.{align_at}
use Rattle.rlsf_pool_calls.specs.Calls.{Tells}
use Rattle.rlsf_pool_calls.specs.Seen.{seen_in}
use Rattle.rlsf_pool_calls.proofs.Outcomes.{none_told}
use Rattle.rlsf_pool_calls.proofs.Zero.{none_at_zero}
use Rattle.rlsf_pool_calls.proofs.calls.usable.Goals as goal

pub returns-in-None : goal.returns-in-None
returns-in-None g c =
    let v = seen_in g.row.SLLEN c.args.heap.now in
    let none : align_at v.state c.args.addr ≡ None =
    subst (λ a. align_at v.state a ≡ None) (sym c.in-None.ensures) (none_at_zero g.row.FLLEN g.row.SLLEN c.args.heap.now.heap c.memory_ref.ensures.stands) in
    subst (λ r. Tells v c.args.addr r) (sym c.refused.ensures) (none_told v c.args.addr none)
