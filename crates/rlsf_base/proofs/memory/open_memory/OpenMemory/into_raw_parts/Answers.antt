use Rattle.std.proofs.Common.{◌≡◌, ◌/◌, ◌%◌, ◌∙◌, ap, arith, inl, inr, length, sym}
use Rattle.std.specs.Prelude.{if◌then◌else◌}
use Rattle.std.proofs.lemmas.Bool.{cases_lt, eq-eqb}
use Rattle.rlsf_base.specs.Space.{Space, range_of}
use Rattle.rlsf_base.specs.Out.{is_own, kept_at}
use Rattle.rlsf_base.specs.Changes.{IsOwn}
use Rattle.rlsf_base.specs.Steps.Block.{start_of, handed_in}
use Rattle.rlsf_base.specs.Steps.Ownership.{units_in, units_from}
use Rattle.rlsf_base.proofs.RawBlock.Units.{not-zero, units_in-elsewhere, units_in-first}
use Rattle.rlsf_base.proofs.Lending.Present.{own-in}
use Rattle.rlsf_base.proofs.memory.open_memory.OpenMemory.into_raw_parts.Goals as goal

pub returns-clause-own : goal.returns-clause-own
returns-clause-own c = λ own.
    let m = c.self.inside in
    let here : IsOwn m.bytes.out 0 (length c.args.self.bytes) =
    own-in m.bytes.out c.args.self (range_of c.args.self) 0 (ap (λ (s : Space). s.out) c.self.view_is) (omega arith) (omega arith) own in
    λ k lo hi. ap (λ cs. is_own (kept_at cs k)) c.from_first-bytes.ensures.1.3 ∙ here k lo (omega (arith, hi))

-- where the first byte is not the block's first, the block is the system's, and the address of the byte no multiple of 16
pub returns-clause-block : goal.returns-clause-block
returns-clause-block c =
    let m = c.self.inside in let e = c.from_first-bytes.ensures.1 in let is = c.self.invariant in
    let skip = m.len_and_skip % 16 in let len = m.len_and_skip / 32 in let first = c.start-start.result in
    let start : start_of m.shift m.len_and_skip ≡ first = ap (λ (s : Space). s.start) c.self.view_is ∙ sym c.start-start.ensures.value in
    let long : length c.from_first-bytes.result.1.bytes ≡ len = ap length e.2 ∙ is.whole in
    let size : len ≡ c.len-len.result = sym is.whole ∙ ap (λ (s : Space). length s.bytes) c.self.view_is ∙ sym c.len-len.ensures.value in
    let units : c.from_first-bytes.result.1.units ≡ units_from first len = elim (cases_lt 0 skip) [
      | inl off ↦ let systems : handed_in m.len_and_skip ≡ 0 = elim (cases_lt (handed_in m.len_and_skip) 1) [
        | inl none ↦ omega (arith, none)
        | inr one ↦ absurd (let none : skip ≡ 0 = (is.keeps (omega (arith, one))).1 in omega (arith, off, none))
      ] in
          let aligned : m.shift % 16 ≡ 0 = is.grid systems in
          e.4 ∙ ap (λ t. if t then m.bytes.units else 0) (not-zero skip off) ∙ sym (units_in-elsewhere first 0 len (omega (arith, off, aligned, start)))
      | inr on ↦ let none : skip ≡ 0 = omega (arith, on) in
          e.4 ∙ ap (λ t. if t then m.bytes.units else 0) (eq-eqb skip 0 none) ∙ is.lies.2 ∙ ap (λ k. units_in m.shift k len) none
          ∙ units_in-first m.shift first len (omega (arith, none, start))
    ] in
    (e.0, e.1, long ∙ size, units ∙ ap (λ n. units_from first n) (sym long))
