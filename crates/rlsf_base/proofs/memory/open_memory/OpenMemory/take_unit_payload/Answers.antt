use Rattle.std.proofs.Common.{◌≡◌, ◌+◌, ◌-◌, ◌*◌, ◌/◌, ◌%◌, ◌∙◌, ap, arith, length, sym}
use Rattle.rlsf_base.specs.declared.memory.view.View.{View}
use Rattle.rlsf_base.specs.Range.{range_at}
use Rattle.rlsf_base.specs.Space.{Space}
use Rattle.rlsf_base.specs.Steps.Block.{start_of}
use Rattle.rlsf_base.specs.Steps.Ownership.{units_for}
use Rattle.rlsf_base.specs.Changes.{IsOwn}
use Rattle.rlsf_base.proofs.RawBlock.Units.{units_in-aligned}
use Rattle.rlsf_base.proofs.Lending.Present.{own-in}
use Rattle.rlsf_base.proofs.memory.open_memory.OpenMemory.take_unit_payload.Goals as goal

pub take_units-units-requires : goal.take_units-units-requires
take_units-units-requires c =
    let m = c.self.inside in let now = c.args.self.now in let kept = c.args.kept in let len = c.args.len in
    let start : start_of m.shift m.len_and_skip ≡ now.start = ap (λ (s : Space). s.start) c.self.view_is in
    let shift : c.view-view.result.shift ≡ m.shift = ap (λ (v : View). v.shift) (c.view-view.ensures ∙ sym (ap (λ (s : Space). s.view) c.self.view_is)) in
    let long : length m.bytes.bytes ≡ length now.bytes = ap (λ (s : Space). length s.bytes) c.self.view_is in
    let aligned : m.shift % 16 ≡ 0 = ap (λ (s : Space). s.view.shift % 16) c.self.view_is ∙ c.requires.aligned in
    let units : m.bytes.units ≡ units_for (m.len_and_skip % 16) (m.len_and_skip / 32) =
    c.self.invariant.lies.2 ∙ units_in-aligned m.shift (m.len_and_skip % 16) (m.len_and_skip / 32) aligned in
    let parted = c.requires.kept in let place = c.place-place.result in
    let whole : (place + kept) / 16 * 16 ≡ place + kept = omega arith in let all : (len - kept) / 16 * 16 ≡ len - kept = omega arith in
    let at : (place + kept) / 16 * 16 - m.bytes.skip ≡ c.args.start + kept - now.start = omega arith in
    let own : IsOwn m.bytes.out ((place + kept) / 16 * 16 - m.bytes.skip) (len - kept) =
    own-in m.bytes.out now (range_at (c.args.start + kept) (len - kept)) ((place + kept) / 16 * 16 - m.bytes.skip) (ap (λ (s : Space). s.out) c.self.view_is) (omega arith) at
    c.requires.own in
    (((omega arith, omega arith), λ k lo hi. own k lo (omega (arith, hi, all))), omega arith)
