use Rattle.std.proofs.Common.{sym, ◌∙◌, subst}
use Rattle.rlsf_malloc_calls.specs.Calls.{AllocatesPayload}
use Rattle.rlsf_malloc_calls.proofs.Outcomes.{allocated}
use Rattle.rlsf_malloc_calls.proofs.TooLong.{refused}
use Rattle.rlsf_malloc_calls.proofs.calls.allocate_for.Goals as goal

pub returns-in-Ok : goal.returns-in-Ok
returns-in-Ok g c =
    let sllen = g.row.SLLEN in let old = c.args.heap.now in let new = c.allocate_thin.new.self in let p = c.allocate_thin.result.of in
    let did = c.allocate_thin.ensures in let layout = c.in-Ok.layout in
    let done : AllocatesPayload sllen old layout.size layout.align p new =
    allocated g.row.FLLEN sllen old new layout.size layout.align p c.requires layout.valid did.step (λ some. (did.result.made some).written c.requires) did.result.made
    did.frame did.refused in (
      did.result.at,
      subst (λ s. AllocatesPayload sllen old s c.args.align p new) c.in-Ok.ensures.layout.0
          (subst (λ a. AllocatesPayload sllen old layout.size a p new) c.in-Ok.ensures.layout.1 done),
    )

pub returns-then-not-may_fit : goal.returns-then-not-may_fit
returns-then-not-may_fit g c =
    let p = c.none.result.of in
    let long = c.may_fit.ensures c.if-not-may_fit.true in
    let none = refused g.row.FLLEN g.row.SLLEN c.args.heap.now c.memory_ref.ensures.stands c.args.size c.args.align long p c.none.ensures.1 c.requires in
    (c.none.ensures.0 ∙ sym c.none.ensures.1, none)
