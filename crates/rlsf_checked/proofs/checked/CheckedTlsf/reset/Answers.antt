use Rattle.std.proofs.Common.{◌≡◌, ◌≤◌, ◌%◌, ℕ, sym, ◌∙◌, ap, subst}
use Rattle.rlsf_base.specs.Range.{end_of}
use Rattle.rlsf_base.specs.Space.{Space, range_of}
use Rattle.rlsf_checked.specs.Checked.{PoolList}
use Rattle.rlsf_checked.specs.Pools.{no_pools}
use Rattle.rlsf_codes.specs.Codes.{HasPlace}
use Rattle.rlsf_checked.specs.Steps.Standing.{IsChecked}
use Rattle.rlsf_checked.proofs.FieldsOverSteps.{no_mark}
use Rattle.rlsf_checked.proofs.PoolsOverSteps.{made}
use Rattle.rlsf_checked.proofs.checked.CheckedTlsf.reset.Goals as goal

pub invariant_of-result : goal.invariant_of-result
invariant_of-result g c =
    let heap = c.new.result in
    let old = c.self.inside.heap in
    let memory : heap.memory ≡ old.memory = c.new.ensures.memory ∙ c.into_memory-memory.ensures in
    let covers = subst (λ (x : Space). (a : ℕ) → a % 16 ≡ 0 → x.start ≤ a → a ≤ end_of (range_of x) → HasPlace c.clear-2.new.self a) (sym memory)
    (λ a even low high. c.clear-2.ensures.places a (c.self.invariant.covers a even low high)) in
    subst (λ (pools : PoolList). IsChecked g.row.FLLEN g.row.SLLEN heap c.clear-2.new.self pools)
    (ap (λ (x : Space). no_pools x.start) c.new.ensures.memory ∙ ap no_pools (sym c.start.ensures.value) ∙ sym c.clear.ensures)
    (made heap c.clear-2.new.self c.new.ensures.stands c.new.ensures.state (λ a. c.clear-2.ensures.none a ∙ no_mark c.self.invariant) covers)

pub returns : goal.returns
returns g c = rw (← c.self.view_is) (record {
  state = c.new.ensures.state;
  count = c.new.ensures.count;
  memory = c.new.ensures.memory ∙ c.into_memory-memory.ensures;
  pools = c.clear.ensures ∙ ap no_pools (c.start.ensures.value ∙ ap (λ (x : Space). x.start) c.into_memory-memory.ensures);
  stands = c.new.ensures.stands;
})
