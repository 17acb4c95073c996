use Rattle.std.proofs.Common.{◌∙◌, subst}
use Rattle.rlsf_malloc_calls.specs.Calls.{AllocatesPayload}
use Rattle.rlsf_malloc_calls.proofs.Outcomes.{allocated}
use Rattle.rlsf_malloc_calls.proofs.calls.allocate_zeroed.Goals as goal

pub returns-in-Ok : goal.returns-in-Ok
returns-in-Ok g c =
    let sllen = g.row.SLLEN in let old = c.args.heap.now in let new = c.allocate_thin_zeroed.new.self in let p = c.allocate_thin_zeroed.result.of in
    let did = c.allocate_thin_zeroed.ensures in let layout = c.in-Ok.layout in
    let done : AllocatesPayload sllen old layout.size layout.align p new =
    allocated g.row.FLLEN sllen old new layout.size layout.align p c.requires layout.valid did.step (λ some. (did.result.made some).written)
    (λ some. (did.result.made some).made) did.frame did.refused in (
      did.result.at,
      record {
        allocates = subst (λ s. AllocatesPayload sllen old s 16 p new) (c.in-Ok.ensures.layout.0 ∙ c.in-Some.ensures.1)
            (subst (λ a. AllocatesPayload sllen old layout.size a p new) c.in-Ok.ensures.layout.1 done);
        zeros = λ some. (did.result.made some).zeros;
      },
    )
