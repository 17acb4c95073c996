use Rattle.std.proofs.Common.{◌≡◌, None, IsSome, sym, subst}
use Rattle.std.proofs.lemmas.Bool.{false≢true}
use Rattle.rlsf_base.specs.Addr.{at}
use Rattle.rlsf_model.specs.Callers.{align_at}
use Rattle.rlsf_pool_calls.specs.Calls.{Zeroes}
use Rattle.rlsf_pool_calls.specs.Seen.{seen_in}
use Rattle.rlsf_pool_calls.proofs.Rewritten.{zeroed}
use Rattle.rlsf_pool_calls.proofs.Zero.{none_at_zero}
use Rattle.rlsf_pool_calls.proofs.calls.zero.Goals as goal

pub returns-in-Some : goal.returns-in-Some
returns-in-Some g c =
    let sllen = g.row.SLLEN in
    let old = c.args.heap.now in
    let new = c.fill.new.self in
    let did = c.fill.ensures in
    let live : IsSome (align_at old.heap.state (at c.in-Some.addr)) = subst (λ a. IsSome (align_at old.heap.state a)) (sym c.in-Some.ensures) c.requires in
    subst (λ a. Zeroes (seen_in sllen old) a (seen_in sllen new)) c.in-Some.ensures
    (zeroed g.row.FLLEN sllen old new (at c.in-Some.addr) c.fill.result live did.step did.result did.refused.answer did.frame)

pub returns-in_default : goal.returns-in_default
returns-in_default g c =
    let v = c.args.heap.now in
    let none : align_at v.heap.state c.args.addr ≡ None =
    subst (λ a. align_at v.heap.state a ≡ None) (sym c.in_default.ensures) (none_at_zero g.row.FLLEN g.row.SLLEN v.heap c.memory_ref.ensures.stands) in
    absurd (false≢true (subst IsSome none c.requires))
