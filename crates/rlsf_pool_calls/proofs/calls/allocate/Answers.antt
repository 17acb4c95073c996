use Rattle.std.proofs.Common.{true≢false, refl, sym, subst, inl, inr}
use Rattle.rlsf_model.specs.Allocate as machine
use Rattle.rlsf_base.specs.Layout.{IsLayout}
use Rattle.rlsf_checked.specs.Answers.{addr_in}
use Rattle.rlsf_checked.specs.declared.error.CheckedError.TheVariants.{NoLayout}
use Rattle.rlsf_checked.proofs.FieldsOverSteps.{step_of}
use Rattle.rlsf_pool_calls.specs.Answers.{address_answer}
use Rattle.rlsf_pool_calls.specs.Calls.{PoolAllocates}
use Rattle.rlsf_pool_calls.specs.Seen.{seen_in}
use Rattle.rlsf_pool_calls.proofs.Outcomes.{allocated, error_code-some}
use Rattle.rlsf_pool_calls.proofs.calls.allocate.Goals as goal

pub returns-in-Ok : goal.returns-in-Ok
returns-in-Ok g c =
    let sllen = g.row.SLLEN in
    let old = c.args.heap.now in
    let new = c.allocate.new.self in
    let did = c.allocate.ensures in
    let layout = c.in-Ok.layout in
    let step = step_of g.row.FLLEN sllen old.heap new.heap (λ t. machine.Allocates sllen old.heap.state layout.size layout.align (addr_in c.allocate.result) t) did.step in
    let done : PoolAllocates (seen_in sllen old) layout.size layout.align (address_answer c.allocate.result) (seen_in sllen new) =
    allocated sllen old new layout.size layout.align layout.valid c.allocate.result step did.result did.refused did.frame in
    subst (λ a. PoolAllocates (seen_in sllen old) c.args.size c.args.align a (seen_in sllen new)) (sym c.to_place.ensures)
    (subst (λ n. PoolAllocates (seen_in sllen old) n c.args.align (address_answer c.allocate.result) (seen_in sllen new)) c.in-Ok.ensures.layout.0
    (subst (λ n. PoolAllocates (seen_in sllen old) layout.size n (address_answer c.allocate.result) (seen_in sllen new)) c.in-Ok.ensures.layout.1 done))

pub returns-in-Err : goal.returns-in-Err
returns-in-Err g c =
    let seen = seen_in g.row.SLLEN c.args.heap.now in
    let none : IsLayout c.args.size c.args.align → ⊥ = λ is. true≢false (sym (c.in-Err.ensures.succeeds.1 is)) in
    subst (λ a. PoolAllocates seen c.args.size c.args.align a seen) (sym c.refused.ensures) (record {
      no_layout = ((λ is. none), (λ none. refl));
      errors = inr (inl refl);
      step = λ is. absurd (none is);
      new = λ ok. absurd (error_code-some NoLayout ok);
      same = λ refused. refl;
    })
