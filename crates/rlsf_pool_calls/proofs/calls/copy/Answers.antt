use Rattle.std.proofs.Common.{◌≡◌, None, sym, subst, inl, inr}
use Rattle.rlsf_base.specs.Addr.{at}
use Rattle.rlsf_model.specs.Callers.{align_at}
use Rattle.rlsf_pool_calls.specs.Answers.{reply_code}
use Rattle.rlsf_pool_calls.specs.Calls.{PoolCopies}
use Rattle.rlsf_pool_calls.specs.Seen.{seen_in}
use Rattle.rlsf_pool_calls.proofs.Rewritten.{copied, none_copied}
use Rattle.rlsf_pool_calls.proofs.Zero.{none_at_zero}
use Rattle.rlsf_pool_calls.proofs.calls.copy.Goals as goal

pub returns : goal.returns
returns g c =
    let sllen = g.row.SLLEN in
    let old = c.args.heap.now in
    let new = c.copy.new.self in
    let did = c.copy.ensures in
    let done = copied sllen old new (at c.in-Some.source) (at c.in-Some-new.target) c.args.len c.copy.result did.result did.refused did.frame in
    subst (λ n. PoolCopies (seen_in sllen old) c.args.from c.args.to c.args.len n (seen_in sllen new)) (sym c.to_code.ensures)
    (subst (λ a. PoolCopies (seen_in sllen old) a c.args.to c.args.len (reply_code c.copy.result) (seen_in sllen new)) c.in-Some.ensures
    (subst (λ a. PoolCopies (seen_in sllen old) (at c.in-Some.source) a c.args.len (reply_code c.copy.result) (seen_in sllen new)) c.in-Some-new.ensures done))

pub returns-in_default : goal.returns-in_default
returns-in_default g c =
    let v = seen_in g.row.SLLEN c.args.heap.now in
    let none : align_at v.state c.args.from ≡ None =
    subst (λ a. align_at v.state a ≡ None) (sym c.in_default.ensures) (none_at_zero g.row.FLLEN g.row.SLLEN c.args.heap.now.heap c.memory_ref.ensures.stands) in
    subst (λ n. PoolCopies v c.args.from c.args.to c.args.len n v) (sym c.number.ensures) (none_copied v c.args.from c.args.to c.args.len (inl none))

pub returns-in_default-new : goal.returns-in_default-new
returns-in_default-new g c =
    let v = seen_in g.row.SLLEN c.args.heap.now in
    let none : align_at v.state c.args.to ≡ None =
    subst (λ a. align_at v.state a ≡ None) (sym c.in_default-new.ensures) (none_at_zero g.row.FLLEN g.row.SLLEN c.args.heap.now.heap c.memory_ref.ensures.stands) in
    subst (λ n. PoolCopies v c.args.from c.args.to c.args.len n v) (sym c.number-in_default-new.ensures) (none_copied v c.args.from c.args.to c.args.len (inr none))
