use Rattle.std.proofs.Common.{sym, ◌∙◌}
use Rattle.rlsf_global.proofs.Journal.Equal.{told_asked, told_freed, told_resized}
use Rattle.rlsf_global.proofs.receipts.is_same_call.Goals as goal

pub returns-in-Allocate-Allocate : goal.returns-in-Allocate-Allocate
returns-in-Allocate-Allocate c =
    told_asked c.in-Allocate-Allocate.a c.in-Allocate-Allocate.b c.args.a c.args.b c.in-Allocate-Allocate.is-0 c.in-Allocate-Allocate.is-1 c.eq.result c.eq.ensures

pub returns-in-Deallocate-Deallocate : goal.returns-in-Deallocate-Deallocate
returns-in-Deallocate-Deallocate c =
    told_freed c.in-Deallocate-Deallocate.a c.in-Deallocate-Deallocate.b c.args.a c.args.b c.in-Deallocate-Deallocate.is-0 c.in-Deallocate-Deallocate.is-1 c.get.result
    c.get-in-Deallocate-Deallocate.result c.get.ensures.value c.get-in-Deallocate-Deallocate.ensures.value

pub returns-then-get : goal.returns-then-get
returns-then-get c =
    let same = sym c.get-in-Reallocate-Reallocate.ensures.value ∙ c.if-get.true ∙ c.get-in-Reallocate-Reallocate-2.ensures.value in
    told_resized c.in-Reallocate-Reallocate.a c.in-Reallocate-Reallocate.b c.in-Reallocate-Reallocate.x c.in-Reallocate-Reallocate.y c.args.a c.args.b
    c.in-Reallocate-Reallocate.is-0 c.in-Reallocate-Reallocate.is-1 same c.eq-then-get.result c.eq-then-get.ensures
