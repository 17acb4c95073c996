use Rattle.std.proofs.Common.{◌≡◌, ◌<◌, ◌≤◌, length, true, true≢false, Ok, Some, None, arith, refl, sym, ◌∙◌, ap, subst, inl, inr, false}
use Rattle.std.proofs.lemmas.Bool.{cases_lt}
use Rattle.rlsf_base.specs.Addr.{at}
use Rattle.rlsf_base.specs.Range.{LiesIn, end_of, range_at}
use Rattle.rlsf_base.specs.Space.{range_of}
use Rattle.rlsf_model.specs.Insert.{Inserts}
use Rattle.rlsf_model.specs.State.{State}
use Rattle.rlsf_tlsf.specs.Allocator.{Stands, Steps}
use Rattle.rlsf_checked.specs.Answers.{if_taken, is_within}
use Rattle.rlsf_checked.specs.Checked.{PoolList, checked}
use Rattle.rlsf_checked.specs.Pools.{with_pool}
use Rattle.rlsf_checked.specs.Steps.Lists.{listed}
use Rattle.rlsf_checked.specs.Steps.Standing.{IsChecked}
use Rattle.rlsf_checked.proofs.PoolsOverSteps.{before_answer, behind_answer, handed_in, none_taken, outside_answer, pool_fits, untouched, within_is}
use Rattle.rlsf_checked.proofs.FieldsOverSteps.{stands_after, step_of, unchanged}
use Rattle.rlsf_checked.proofs.Unchanged.{frame_unchanged, refusing}
use Rattle.rlsf_checked.proofs.checked.CheckedTlsf.insert.Given as given
use Rattle.rlsf_checked.proofs.checked.CheckedTlsf.insert.Goals as goal
use Rattle.rlsf_checked.proofs.checked.CheckedTlsf.insert.Goals.{Else-range-self, In-Some}

-- the range lies in the memory, behind the last pool
record IsBehind (g : given.Over) (c : Else-range-self g) : Type 0 where
  pub within : true ≡ is_within (range_of c.self.inside.heap.memory) c.args.range
  pub behind : end_of c.self.inside.pools.last ≤ c.args.range.start
  pub lies : LiesIn c.args.range c.self.inside.heap.memory.start (length c.self.inside.heap.memory.bytes)

is_behind : (g : given.Over) (c : Else-range-self g) → IsBehind g c
is_behind g c =
    let within : true ≡ is_within (range_of c.self.inside.heap.memory) c.args.range =
    sym c.if-not-lies_in.false ∙ c.lies_in.ensures ∙ ap (λ m. is_within (range_of m) c.args.range) c.memory_ref.ensures.memory in
    record { within = within; behind = omega (arith, c.if-range-self.false); lies = within_is (range_of c.self.inside.heap.memory) c.args.range within }

-- the allocator is valid after the reference model's step
inserted : (g : given.Over) (c : In-Some g)
    → Stands g.row.FLLEN g.row.SLLEN c.insert_free_block_ptr.new.self
    × Inserts g.row.FLLEN c.self.inside.heap.state c.args.range (Some (at c.in-Some.taken)) c.insert_free_block_ptr.new.self.state
inserted g c = let did = c.in-Some.ensures in (stands_after _ _ _ _ _ did.step, step_of _ _ _ _ _ did.step)

pub overflow_add-self-inside : goal.overflow_add-self-inside
overflow_add-self-inside g c = record { fits = pool_fits c.self.invariant }

pub insert_free_block_ptr-requires : goal.insert_free_block_ptr-requires
insert_free_block_ptr-requires g c =
    let is = is_behind g (goal.at.insert_free_block_ptr-requires g c).Else-range-self in
    (omega arith, (is.lies, untouched c.self.invariant c.args.range is.behind))

pub invariant_of-self : goal.invariant_of-self
invariant_of-self g c =
    subst (λ (p : PoolList). IsChecked g.row.FLLEN g.row.SLLEN c.self.inside.heap c.self.inside.marks p) (sym c.reserve.ensures.same) c.self.invariant

pub invariant_of-self-in_default : goal.invariant_of-self-in_default
invariant_of-self-in_default g c =
    let did = c.in_default.ensures in
    let heap = c.insert_free_block_ptr.new.self in
    let same : heap.state ≡ c.self.inside.heap.state = none_taken g.row.FLLEN c.self.inside.heap.state heap.state c.args.range (step_of _ _ _ _ _ did.step) in
    subst (λ (p : PoolList). IsChecked g.row.FLLEN g.row.SLLEN heap c.self.inside.marks p) (sym c.reserve.ensures.same)
    (unchanged c.self.invariant heap (stands_after _ _ _ _ _ did.step) did.frame.place (ap (λ (s : State). s.chunks) same) did.frame.aligns)

pub invariant_of-self-2 : goal.invariant_of-self-2
invariant_of-self-2 g c =
    let is = is_behind g (goal.at.invariant_of-self-2 g c).Else-range-self in
    let (stands, step) = inserted g (goal.at.invariant_of-self-2 g c).In-Some in
    subst (λ (p : PoolList). IsChecked g.row.FLLEN g.row.SLLEN c.insert_free_block_ptr.new.self c.self.inside.marks p)
    (sym (
    c.add.ensures
    ∙ ap (λ p. with_pool p (range_at c.args.range.start c.get-len.result)) c.reserve.ensures.same
    ∙ ap (λ n. with_pool (listed c.self.inside.pools) (range_at c.args.range.start n)) c.get-len.ensures.value
    ))
    (handed_in c.self.invariant c.insert_free_block_ptr.new.self stands c.in-Some.ensures.frame.place c.in-Some.ensures.frame.aligns c.args.range is.behind is.lies _ step)

pub returns-then-not-lies_in : goal.returns-then-not-lies_in
returns-then-not-lies_in g c =
    let outside : false ≡ is_within (range_of c.self.inside.heap.memory) c.args.range =
    sym c.if-not-lies_in.true ∙ c.lies_in.ensures ∙ ap (λ m. is_within (range_of m) c.args.range) c.memory_ref.ensures.memory in
    rw (← c.self.view_is) (record {
      step = tt;
      result = tt;
      room = assumption;
      bounds = assumption;
      refused = refusing (inl (sym (outside_answer g.row.FLLEN (checked c.self.inside.heap (listed c.self.inside.pools)) c.args.range outside)));
      frame = frame_unchanged _;
      touches = omega arith;
    })

pub returns-then-range-self : goal.returns-then-range-self
returns-then-range-self g c =
    let within : true ≡ is_within (range_of c.self.inside.heap.memory) c.args.range =
    sym c.if-not-lies_in.false ∙ c.lies_in.ensures ∙ ap (λ m. is_within (range_of m) c.args.range) c.memory_ref.ensures.memory in
    rw (← c.self.view_is) (record {
      step = tt;
      result = tt;
      room = assumption;
      bounds = assumption;
      refused = refusing (inl (sym (before_answer g.row.FLLEN (checked c.self.inside.heap (listed c.self.inside.pools)) c.args.range within c.if-range-self.true)));
      frame = frame_unchanged _;
      touches = omega arith;
    })

pub returns-then-not-reserve : goal.returns-then-not-reserve
returns-then-not-reserve g c =
    let is = is_behind g (goal.at.returns-then-not-reserve g c).Else-range-self in
    let some : 0 < c.self.inside.pools.last.len = elim (cases_lt 0 c.self.inside.pools.last.len) [
      | inl more ↦ more
      | inr none ↦ absurd (true≢false (sym (c.reserve.ensures.first (omega (arith, none))) ∙ c.if-not-reserve.true))
    ] in
    rw (← c.self.view_is) (record {
      step = tt;
      result = tt;
      room = assumption;
      bounds = assumption;
      refused = record { answer = inr (refl, some, sym is.within, is.behind); same = refl; pools = c.reserve.ensures.same; bytes = refl };
      frame = frame_unchanged c.self.inside.heap;
      touches = omega arith;
    })

pub returns-in_default : goal.returns-in_default
returns-in_default g c =
    let is = is_behind g (goal.at.returns-in_default g c).Else-range-self in
    let did = c.in_default.ensures in
    let step : Inserts g.row.FLLEN c.self.inside.heap.state c.args.range None c.insert_free_block_ptr.new.self.state = step_of _ _ _ _ _ did.step in
    rw (← c.self.view_is) (record {
      step = tt;
      result = tt;
      room = assumption did.result;
      bounds = did.bounds;
      refused = record {
        answer = inl (sym (behind_answer g.row.FLLEN (checked c.self.inside.heap (listed c.self.inside.pools)) c.args.range is.within is.behind ∙ ap if_taken (sym step.answer)));
        same = none_taken g.row.FLLEN c.self.inside.heap.state c.insert_free_block_ptr.new.self.state c.args.range step;
        pools = c.reserve.ensures.same;
        bytes = did.refused;
      };
      frame = did.frame;
      touches = did.touches;
    })

pub returns : goal.returns
returns g c =
    let is = is_behind g (goal.at.returns g c).Else-range-self in
    let (stands, step) = inserted g (goal.at.returns g c).In-Some in
    let did = c.in-Some.ensures in
    let answer = behind_answer g.row.FLLEN (checked c.self.inside.heap (listed c.self.inside.pools)) c.args.range is.within is.behind in
    rw (← c.self.view_is) (record {
      step =
          subst (λ n. Steps g.row.FLLEN g.row.SLLEN c.self.inside.heap c.insert_free_block_ptr.new.self (Inserts g.row.FLLEN c.self.inside.heap.state c.args.range (Some n)))
          (sym c.get-len.ensures.value)
          did.step;
      result = c.add.ensures ∙ ap (λ p. with_pool p (range_at c.args.range.start c.get-len.result)) c.reserve.ensures.same;
      room = assumption did.result;
      bounds = did.bounds;
      refused = record { answer = inl (ap Ok c.get-len.ensures.value ∙ sym (answer ∙ ap if_taken (sym step.answer))); same = tt; pools = tt; bytes = tt };
      frame = did.frame;
      touches = did.touches;
    })
