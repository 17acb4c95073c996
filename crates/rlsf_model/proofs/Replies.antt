-- Each call that its caller may make has a reply and a state after.
use Rattle.std.proofs.Common.{refl}
use Rattle.rlsf_model_sizes.specs.Sizes.{max_pool_size}
use Rattle.rlsf_model.specs.Insert.{cut, aligned_part, bytes_taken, with_chunks, appended, appended_bytes}
use Rattle.rlsf_model.specs.Laws.{EachCallAnswers}
use Rattle.rlsf_model.specs.Reallocate.{plan}
use Rattle.rlsf_model.specs.Release.{released}
use Rattle.rlsf_model.specs.Remove.{removed}
use Rattle.rlsf_model.specs.Run.{insert, append, allocate, deallocate, reallocate, fill, remove, trim}
use Rattle.rlsf_model.specs.State.{filled}
use Rattle.rlsf_model.proofs.Examples.{planned_reply, planned_after, planned_step}
use Rattle.rlsf_model.proofs.Room.{allocation_answers}

pub each_call_answers : EachCallAnswers
each_call_answers fllen sllen memory s (insert r reply) may whole =
    let cs = cut (max_pool_size fllen) (aligned_part r) in
    (insert r (bytes_taken r.start cs), with_chunks cs s, refl, record { answer = refl; after = refl })
each_call_answers fllen sllen memory s (append r reply) may whole =
    let most = max_pool_size fllen in
    (append r (appended_bytes most r), appended most r s, refl, record { answer = refl; after = refl })
each_call_answers fllen sllen memory s (allocate size align reply) may whole =
    let (answer, t, step) = allocation_answers sllen s size align in
    (allocate size align answer, t, (refl, refl), step)
each_call_answers fllen sllen memory s (deallocate addr) (u, holds) whole =
    (deallocate addr, released s u, refl, record { block = u; holds = holds; after = refl })
each_call_answers fllen sllen memory s (reallocate addr size reply) (u, holds) whole = (
  reallocate addr size (planned_reply sllen s u size (plan s u size)),
  planned_after sllen s u size (plan s u size),
  (refl, refl),
  record { block = u; holds = holds; step = planned_step fllen sllen memory s u holds.0 size (plan s u size) },
)
each_call_answers fllen sllen memory s (fill addr bytes) may (u, holds, length) = (
  fill addr bytes,
  filled s addr bytes,
  (refl, refl),
  record { block = u; holds = holds; length = length; after = refl },
)
each_call_answers fllen sllen memory s (remove r) may whole = (remove r, removed r s, refl, refl)
each_call_answers fllen sllen memory s (trim count) may whole = absurd may
