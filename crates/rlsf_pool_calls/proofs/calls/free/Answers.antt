use Rattle.std.proofs.Common.{◌≡◌, None, sym, subst}
use Rattle.rlsf_base.specs.Addr.{at}
use Rattle.rlsf_model.specs.Callers.{align_at}
use Rattle.rlsf_pool_calls.specs.Answers.{reply_code}
use Rattle.rlsf_pool_calls.specs.Calls.{PoolFrees}
use Rattle.rlsf_pool_calls.specs.Seen.{seen_in}
use Rattle.rlsf_pool_calls.proofs.Outcomes.{freed, none_freed}
use Rattle.rlsf_pool_calls.proofs.Zero.{none_at_zero}
use Rattle.rlsf_pool_calls.proofs.calls.free.Goals as goal

pub returns-in-Some : goal.returns-in-Some
returns-in-Some g c =
    let sllen = g.row.SLLEN in
    let old = c.args.heap.now in
    let new = c.deallocate.new.self in
    let did = c.deallocate.ensures in
    let done = freed sllen old new (at c.in-Some.addr) c.deallocate.result did.result did.refused did.frame in
    subst (λ n. PoolFrees (seen_in sllen old) c.args.addr n (seen_in sllen new)) (sym c.to_code.ensures)
    (subst (λ a. PoolFrees (seen_in sllen old) a (reply_code c.deallocate.result) (seen_in sllen new)) c.in-Some.ensures done)

pub returns-in-None : goal.returns-in-None
returns-in-None g c =
    let v = seen_in g.row.SLLEN c.args.heap.now in
    let none : align_at v.state c.args.addr ≡ None =
    subst (λ a. align_at v.state a ≡ None) (sym c.in-None.ensures) (none_at_zero g.row.FLLEN g.row.SLLEN c.args.heap.now.heap c.memory_ref.ensures.stands) in
    subst (λ n. PoolFrees v c.args.addr n v) (sym c.number.ensures) (none_freed v c.args.addr none)
