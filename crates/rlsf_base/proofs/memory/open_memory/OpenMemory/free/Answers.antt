use Rattle.std.proofs.Common.{◌≡◌, ◌/◌, ◌%◌, ◌∙◌, ap, arith, length}
use Rattle.rlsf_base.specs.Space.{Space, range_of}
use Rattle.rlsf_base.specs.Changes.{IsOwn}
use Rattle.rlsf_base.proofs.RawBlock.Units.{units_in-aligned}
use Rattle.rlsf_base.proofs.Lending.Present.{own-in}
use Rattle.rlsf_base.proofs.memory.open_memory.OpenMemory.free.Goals as goal

pub give_back-requires-clause-bytes : goal.give_back-requires-clause-bytes
give_back-requires-clause-bytes c =
    let m = c.self.inside in
    let long : length m.bytes.bytes ≡ length c.args.self.bytes = ap (λ (s : Space). length s.bytes) c.self.view_is in
    let here : IsOwn m.bytes.out 0 (length c.args.self.bytes) =
    own-in m.bytes.out c.args.self (range_of c.args.self) 0 (ap (λ (s : Space). s.out) c.self.view_is) (omega arith) (omega arith) c.requires in (
      c.self.invariant.lies.0,
      c.self.invariant.lies.1,
      c.self.invariant.whole,
      λ k lo hi. here k lo (omega (arith, hi, long)),
      c.self.invariant.lies.2 ∙ units_in-aligned m.shift (m.len_and_skip % 16) (m.len_and_skip / 32) (c.self.invariant.grid (omega arith)),
    )
