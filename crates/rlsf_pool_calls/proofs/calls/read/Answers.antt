use Rattle.std.proofs.Common.{◌≡◌, None, sym, subst}
use Rattle.rlsf_base.specs.Addr.{at}
use Rattle.rlsf_model.specs.Callers.{align_at}
use Rattle.rlsf_pool_calls.specs.Answers.{reply_code}
use Rattle.rlsf_pool_calls.specs.Calls.{Reads}
use Rattle.rlsf_pool_calls.specs.Seen.{seen_in}
use Rattle.rlsf_pool_calls.proofs.Outcomes.{none_read, read_as}
use Rattle.rlsf_pool_calls.proofs.Zero.{none_at_zero}
use Rattle.rlsf_pool_calls.proofs.calls.read.Goals as goal

pub returns-in-Some : goal.returns-in-Some
returns-in-Some g c =
    let v = seen_in g.row.SLLEN c.args.heap.now in
    let did = c.read.ensures in
    let was = c.args.into.now in
    let now = c.read.new.bytes in
    let done = read_as v (at c.in-Some.addr) c.args.offset was now c.read.result did.answer did.read did.refused in
    subst (λ n. Reads v c.args.addr c.args.offset was n now) (sym c.to_code.ensures)
    (subst (λ a. Reads v a c.args.offset was (reply_code c.read.result) now) c.in-Some.ensures done)

pub returns-in-None : goal.returns-in-None
returns-in-None g c =
    let v = seen_in g.row.SLLEN c.args.heap.now in
    let was = c.args.into.now in
    let none : align_at v.state c.args.addr ≡ None =
    subst (λ a. align_at v.state a ≡ None) (sym c.in-None.ensures) (none_at_zero g.row.FLLEN g.row.SLLEN c.args.heap.now.heap c.memory_ref.ensures.stands) in
    subst (λ n. Reads v c.args.addr c.args.offset was n was) (sym c.number.ensures) (none_read v c.args.addr c.args.offset was none)
