use Rattle.std.proofs.Common.{◌≡◌, ◌+◌, length, drop, replicate, arith, sym, ◌∙◌, ap, subst}
use Rattle.std.specs.Int.NonZero.{non_zero_u16_get, non_zero_usize_get}
use Rattle.rlsf_base.specs.Addr.{reply}
use Rattle.rlsf_base.specs.Space.{range_of}
use Rattle.rlsf_model.specs.Insert.{Inserts, IsFresh}
use Rattle.rlsf_model.proofs.Untouched.{parts_of-IsFresh}
use Rattle.rlsf_tlsf.proofs.Arrivals.{opened}
use Rattle.rlsf_tlsf.proofs.Standing.{in_state}
use Rattle.rlsf_bench_common.proofs.FirstPool.{pool_is_fresh}
use Rattle.rlsf_bench_common.specs.Runs.{IsBench, BenchState}
use Rattle.rlsf_bench_common.specs.Slots.{AreSlotsAt, LeadsSlots}
use Rattle.rlsf_bench_common.proofs.StepsDone.{IsUnderway, IsUnderway-beginning, IsUnderway-next, IsBench-end, take_all}
use Rattle.rlsf_bench_common.proofs.steps.run.Goals as goal

pub insert_free_block_ptr-requires : goal.insert_free_block_ptr-requires
insert_free_block_ptr-requires g c =
    let fresh = subst (λ s. IsFresh (range_of c.args.tlsf.memory) s c.args.pool) (sym c.requires.new) (pool_is_fresh c.args.tlsf.memory c.args.pool c.requires.pool) in
    (omega arith, parts_of-IsFresh (range_of c.args.tlsf.memory) c.args.tlsf.state c.args.pool fresh)

pub loop-number-init : goal.loop-number-init
loop-number-init g c =
    let taken = reply c.insert_free_block_ptr.result in
    let after = c.insert_free_block_ptr.new.self in
    let (step, stands, _) = opened g.row.FLLEN g.row.SLLEN c.args.tlsf after (Inserts g.row.FLLEN c.args.tlsf.state c.args.pool taken) c.insert_free_block_ptr.ensures.step in
    let first = subst (λ s. Inserts g.row.FLLEN s c.args.pool taken after.state) c.requires.new step in
    IsUnderway-beginning taken after.state first (in_state g.row.FLLEN g.row.SLLEN after stands) (c.in_ok-live.ensures.ok ∙ ap (λ n. replicate n 0) c.get.ensures.value)
    c.new-tally.ensures c.new-draws.ensures

pub loop-number-preserved : goal.loop-number-preserved
loop-number-preserved g c =
    let items = c.deref_mut.ensures.value in
    let sizes = non_zero_u16_get c.args.sizes in
    let does =
    subst (λ t. (s : BenchState) → AreSlotsAt g.row.FLLEN g.row.SLLEN g.row.ALIGNS c.loop-number.tlsf t c.loop-number.tally s
    → LeadsSlots g.row.FLLEN g.row.SLLEN g.row.ALIGNS (length t) c.reallocates_at.result c.next-draw.result c.size_of.result s c.step.new.tlsf c.step.new.slots
    c.step.new.tally) items
    c.step.ensures.does in
    let sized =
    subst (λ n. (s : BenchState) → AreSlotsAt g.row.FLLEN g.row.SLLEN g.row.ALIGNS c.loop-number.tlsf c.loop-number.live.items c.loop-number.tally s
    → LeadsSlots g.row.FLLEN g.row.SLLEN g.row.ALIGNS (length c.loop-number.live.items) c.reallocates_at.result c.next-draw.result n s c.step.new.tlsf c.step.new.slots
    c.step.new.tally) c.size_of.ensures.value does in
    let long : length c.step.new.slots ≡ length c.loop-number.live.items = omega (arith, c.step.auto.slots, ap length items) in
    let whole : length c.step.new.slots ≡ c.loop-number.live.len = omega (arith, c.step.auto.slots, c.deref_mut.ensures.len) in
    let next =
    IsUnderway-next c.loop-number.invariant c.reallocates_at.result c.reallocates_at.ensures c.next-draw.result c.next-draw.new.self.state c.next-draw.ensures.state
    c.next-draw.ensures.number c.step.new.tlsf c.step.new.slots c.step.new.tally sized long c.step.ensures.refused in
    subst (λ t. IsUnderway g.row.FLLEN g.row.SLLEN g.row.ALIGNS c.args.pool (non_zero_usize_get c.args.slots) sizes c.args.mode c.step.new.tlsf t c.step.new.tally
    c.next-draw.new.self.state (c.loop-number.number + 1))
    (sym (take_all c.step.new.slots (drop (length c.step.new.slots) c.loop-number.live.items) c.loop-number.live.len whole)) next

pub returns-clause-ok : goal.returns-clause-ok
returns-clause-ok g c =
    let all : c.loop-number.number ≡ c.args.steps = omega (arith, c.loop-number-test.false, c.loop-number.auto.number-end) in
    subst (λ n. IsBench g.row.FLLEN g.row.SLLEN g.row.ALIGNS c.args.pool (non_zero_usize_get c.args.slots) (non_zero_u16_get c.args.sizes) n c.args.mode c.loop-number.tally) all
    (IsBench-end c.loop-number.invariant)
