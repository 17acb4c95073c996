use Rattle.std.proofs.Common.{◌≡◌, true, cond, subst}
use Rattle.rlsf_blocks.specs.Blocks.{walked}
use Rattle.rlsf_model.specs.Remove.{Removes}
use Rattle.rlsf_pool_calls.specs.Calls.{RemovesLast}
use Rattle.rlsf_pool_calls.specs.Seen.{seen_in}
use Rattle.rlsf_pool_calls.proofs.Rewritten.{removed}
use Rattle.rlsf_pool_calls.proofs.calls.remove_last.Goals as goal
use Rattle.rlsf_checked.proofs.FieldsOverSteps.{step_of}

pub returns-then-remove_last : goal.returns-then-remove_last
returns-then-remove_last g c =
    let sllen = g.row.SLLEN in
    let old = c.args.heap.now in
    let new = c.remove_last.new.self in
    let did = c.remove_last.ensures in
    let step = λ (e : c.remove_last.result ≡ true). step_of g.row.FLLEN sllen old.heap new.heap (λ t. Removes old.heap.state (walked old.pools.last) t) (did.step e) in
    subst (λ b. RemovesLast (seen_in sllen old) (cond b 0 15) (seen_in sllen new)) c.if-remove_last.true
    (removed sllen old new c.remove_last.result step did.result did.idle did.refused did.frame)
