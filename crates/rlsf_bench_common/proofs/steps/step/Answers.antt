use Rattle.std.proofs.Common.{arith, sym, ◌∙◌, ap, subst}
use Rattle.std.proofs.lemmas.List.{get_or_default}
use Rattle.std.specs.Int.NonZero.{non_zero_usize_get}
use Rattle.std.specs.Option.{option_map}
use Rattle.rlsf_base.specs.Addr.{reply}
use Rattle.rlsf_model.specs.Allocate.{Allocates}
use Rattle.rlsf_model.specs.Reallocate.{Reallocates}
use Rattle.rlsf_model.specs.Release.{Deallocates}
use Rattle.rlsf_model.specs.State.{IsLive}
use Rattle.rlsf_tlsf.proofs.Standing.{live_in, stepped}
use Rattle.rlsf_bench_common.specs.Slots.{slot_address}
use Rattle.rlsf_bench_common.proofs.SlotChanges.{LeadsSlots-freed, LeadsSlots-reallocated, LeadsSlots-answered, slot_address-address, slot_address-moved}
use Rattle.rlsf_bench_common.proofs.steps.step.Goals as goal

pub reallocate-moved-requires : goal.reallocate-moved-requires
reallocate-moved-requires g c =
    let (s, at) = c.requires.state in
    let addr = non_zero_usize_get c.in-Some.addr in
    let there =
    ap slot_address (get_or_default c.args.slots.now c.slot_of-slot.result 0 _ c.slot_of-slot.ensures.bound) ∙ slot_address-address _ c.new.result c.new.ensures
    ∙ ap (option_map non_zero_usize_get) c.in-Some.is in
    let live = at.live c.slot_of-slot.result addr (sym (at.slots c.slot_of-slot.result) ∙ there) in
    (omega arith, live_in at.stands addr c.layout_of.result.align (subst (λ n. IsLive s.machine addr n) (sym c.layout_of.ensures.1) live))

pub deallocate-requires : goal.deallocate-requires
deallocate-requires g c =
    let (s, at) = c.requires.state in
    let addr = non_zero_usize_get c.in-Some.addr in
    let there =
    ap slot_address (get_or_default c.args.slots.now c.slot_of-slot.result 0 _ c.slot_of-slot.ensures.bound) ∙ slot_address-address _ c.new.result c.new.ensures
    ∙ ap (option_map non_zero_usize_get) c.in-Some.is in (
      omega arith,
      live_in at.stands addr c.alignment_of.result
          (subst (λ n. IsLive s.machine addr n) (sym c.alignment_of.ensures) (at.live c.slot_of-slot.result addr (sym (at.slots c.slot_of-slot.result) ∙ there))),
    )

pub returns-then-reallocates-clause-does : goal.returns-then-reallocates-clause-does
returns-then-reallocates-clause-does g c = λ s at.
    let slot = c.slot_of-slot.result in
    let addr = non_zero_usize_get c.in-Some.addr in
    let there =
    ap slot_address (get_or_default c.args.slots.now slot 0 _ c.slot_of-slot.ensures.bound) ∙ slot_address-address _ c.new.result c.new.ensures
    ∙ ap (option_map non_zero_usize_get) c.in-Some.is in
    let moved = reply c.reallocate-moved.result in
    let (t, step, stands, _) = stepped at.stands c.reallocate-moved.new.tlsf (λ o n. Reallocates g.row.SLLEN o addr c.layout_of.result.size moved n) c.reallocate-moved.ensures in
    let kept = slot_address-moved c.get.result c.unwrap_or.result c.reallocate-moved.result c.in-Some.addr c.get.ensures.value c.unwrap_or.ensures in
    LeadsSlots-reallocated at slot c.slot_of-slot.ensures.bound t stands c.args.reallocates c.if-reallocates.true c.args.draw c.slot_of-slot.ensures.value addr there
    moved c.get.result c.args.size kept (subst (λ n. Reallocates g.row.SLLEN s.machine addr n moved t) c.layout_of.ensures.0 step) c.count.new.self c.count.ensures.counts

pub returns-else-reallocates-clause-does : goal.returns-else-reallocates-clause-does
returns-else-reallocates-clause-does g c = λ s at.
    let slot = c.slot_of-slot.result in
    let addr = non_zero_usize_get c.in-Some.addr in
    let there =
    ap slot_address (get_or_default c.args.slots.now slot 0 _ c.slot_of-slot.ensures.bound) ∙ slot_address-address _ c.new.result c.new.ensures
    ∙ ap (option_map non_zero_usize_get) c.in-Some.is in
    let (t, step, stands, _) = stepped at.stands c.deallocate.new.tlsf (λ o n. Deallocates o addr n) c.deallocate.ensures in
    LeadsSlots-freed at slot c.slot_of-slot.ensures.bound t stands c.args.reallocates c.if-reallocates.false c.args.draw c.args.size c.slot_of-slot.ensures.value addr there step

pub returns-in_default-clause-does : goal.returns-in_default-clause-does
returns-in_default-clause-does g c = λ s at.
    let layout = c.layout_of-in_default.result in
    let placed = reply c.allocate-placed.result in
    let (t, step, stands, _) = stepped at.stands c.allocate-placed.new.tlsf (λ o n. Allocates g.row.SLLEN o layout.size layout.align placed n) c.allocate-placed.ensures in
    let empty =
    ap slot_address (get_or_default c.args.slots.now c.slot_of-slot.result 0 _ c.slot_of-slot.ensures.bound) ∙ slot_address-address _ c.new.result c.new.ensures
    ∙ ap (option_map non_zero_usize_get) c.in_default.is in
    LeadsSlots-answered at c.slot_of-slot.result c.slot_of-slot.ensures.bound t stands c.args.reallocates c.args.draw c.slot_of-slot.ensures.value empty placed c.slot_with.result
    c.args.size layout.align c.slot_with.ensures c.layout_of-in_default.ensures.1
    (subst (λ n. Allocates g.row.SLLEN s.machine n layout.align placed t) c.layout_of-in_default.ensures.0 step) c.count-in_default.new.self c.count-in_default.ensures.counts
