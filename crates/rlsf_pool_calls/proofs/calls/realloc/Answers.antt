use Rattle.std.proofs.Common.{◌≡◌, None, sym, subst}
use Rattle.rlsf_base.specs.Addr.{at}
use Rattle.rlsf_model.specs.Callers.{align_at}
use Rattle.rlsf_model.specs.Reallocate.{Reallocates}
use Rattle.rlsf_checked.specs.Answers.{addr_in}
use Rattle.rlsf_checked.proofs.FieldsOverSteps.{step_of}
use Rattle.rlsf_pool_calls.specs.Answers.{address_answer}
use Rattle.rlsf_pool_calls.specs.Calls.{PoolResizes}
use Rattle.rlsf_pool_calls.specs.Seen.{seen_in}
use Rattle.rlsf_pool_calls.proofs.Outcomes.{none_resized, resized}
use Rattle.rlsf_pool_calls.proofs.Zero.{none_at_zero}
use Rattle.rlsf_pool_calls.proofs.calls.realloc.Goals as goal

pub returns-in-Some : goal.returns-in-Some
returns-in-Some g c =
    let sllen = g.row.SLLEN in
    let old = c.args.heap.now in
    let new = c.reallocate.new.self in
    let did = c.reallocate.ensures in
    let addr = at c.in-Some.addr in
    let done = resized sllen old new addr c.args.size c.reallocate.result
    (λ none. step_of g.row.FLLEN sllen old.heap new.heap (λ t. Reallocates sllen old.heap.state addr c.args.size (addr_in c.reallocate.result) t) (did.step none))
    did.result did.refused did.frame in
    subst (λ r. PoolResizes (seen_in sllen old) c.args.addr c.args.size r (seen_in sllen new)) (sym c.to_place.ensures)
    (subst (λ a. PoolResizes (seen_in sllen old) a c.args.size (address_answer c.reallocate.result) (seen_in sllen new)) c.in-Some.ensures done)

pub returns-in-None : goal.returns-in-None
returns-in-None g c =
    let v = seen_in g.row.SLLEN c.args.heap.now in
    let none : align_at v.state c.args.addr ≡ None =
    subst (λ a. align_at v.state a ≡ None) (sym c.in-None.ensures) (none_at_zero g.row.FLLEN g.row.SLLEN c.args.heap.now.heap c.memory_ref.ensures.stands) in
    subst (λ r. PoolResizes v c.args.addr c.args.size r v) (sym c.refused.ensures) (none_resized v c.args.addr c.args.size none)
