use Rattle.std.proofs.Common.{◌<◌, ◌∙◌, arith, length, slice_set, subst, sym}
use Rattle.rlsf_bench_threads.proofs.SlotChanges.{AreLive-freed, has_at}
use Rattle.rlsf_bench_threads.specs.Slots.{AreSlotsLive}
use Rattle.rlsf_bench_threads.proofs.flex.step.Goals as goal

pub returns-in-Some : goal.returns-in-Some
returns-in-Some c =
    let slots = c.args.slots.now in
    let p = c.in-Some.payload in
    let below : c.args.index < length slots = omega (arith, c.if-index-slots.false) in
    let has = has_at slots c.args.index _ p below (sym c.take.ensures.value ∙ c.in-Some.is) in
    record {
      live = subst (λ o. AreSlotsLive c.deallocate.new.self.state.machine (slice_set slots c.args.index o)) (sym c.take.ensures.after)
          (AreLive-freed c.args.flex.now.state.machine c.deallocate.new.self.state.machine slots c.requires.live c.args.index below p has
          c.deallocate.ensures.result.aligns);
    }
