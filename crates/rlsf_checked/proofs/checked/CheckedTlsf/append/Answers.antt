use Rattle.std.proofs.Common.{◌≡◌, ◌<◌, length, true, arith, refl, sym, ◌∙◌, ap, subst, false}
use Rattle.rlsf_base.specs.Range.{LiesIn, end_of}
use Rattle.rlsf_base.specs.Space.{range_of}
use Rattle.rlsf_model.specs.Insert.{Appends}
use Rattle.rlsf_model.specs.State.{State}
use Rattle.rlsf_tlsf.specs.Allocator.{Stands}
use Rattle.rlsf_checked.specs.Answers.{if_appended, is_next, is_within}
use Rattle.rlsf_checked.specs.Checked.{PoolList, checked}
use Rattle.rlsf_checked.specs.Steps.Lists.{listed}
use Rattle.rlsf_checked.specs.Steps.Standing.{IsChecked}
use Rattle.rlsf_checked.proofs.PoolsOverSteps.{appended_fits, handed_on, next_answer, next_is, next_range, none_apart, none_appended, none_outside, pool_fits, some_appended, within_is}
use Rattle.rlsf_checked.proofs.FieldsOverSteps.{stands_after, step_of, unchanged}
use Rattle.rlsf_checked.proofs.Unchanged.{frame_unchanged, refusing}
use Rattle.rlsf_checked.proofs.checked.CheckedTlsf.append.Given as given
use Rattle.rlsf_checked.proofs.checked.CheckedTlsf.append.Goals as goal
use Rattle.rlsf_checked.proofs.checked.CheckedTlsf.append.Goals.{After-append_free_block_ptr-taken, Else-not-is_next, Then-taken-eq0}

-- the range lies in the memory and begins where the last pool ends
record IsNextRange (g : given.Over) (c : Else-not-is_next g) : Type 0 where
  pub within : true ≡ is_within (range_of c.self.inside.heap.memory) c.args.range
  pub next : true ≡ is_next c.self.inside.pools.last c.args.range.start
  pub some : 0 < c.self.inside.pools.last.len
  pub ends : c.args.range.start ≡ end_of c.self.inside.pools.last
  pub lies : LiesIn c.args.range c.self.inside.heap.memory.start (length c.self.inside.heap.memory.bytes)

is_next_range : (g : given.Over) (c : Else-not-is_next g) → IsNextRange g c
is_next_range g c =
    let within : true ≡ is_within (range_of c.self.inside.heap.memory) c.args.range =
    sym c.if-not-lies_in.false ∙ c.lies_in.ensures ∙ ap (λ m. is_within (range_of m) c.args.range) c.memory_ref.ensures.memory in
    let next : true ≡ is_next c.self.inside.pools.last c.args.range.start = sym c.if-not-is_next.false ∙ c.is_next.ensures in
    let (some, ends) = next_is c.self.inside.pools.last c.args.range next in
    record { within = within; next = next; some = some; ends = ends; lies = within_is (range_of c.self.inside.heap.memory) c.args.range within }

-- the allocator is valid after the reference model's step
appended : (g : given.Over) (c : After-append_free_block_ptr-taken g)
    → Stands g.row.FLLEN g.row.SLLEN c.append_free_block_ptr-taken.new.self
    × Appends g.row.FLLEN c.self.inside.heap.state c.args.range c.append_free_block_ptr-taken.result c.append_free_block_ptr-taken.new.self.state
appended g c = let did = c.append_free_block_ptr-taken.ensures in (stands_after _ _ _ _ _ did.step, step_of _ _ _ _ _ did.step)

pub is_next-requires : goal.is_next-requires
is_next-requires g c = pool_fits c.self.invariant

pub append_free_block_ptr-taken-requires : goal.append_free_block_ptr-taken-requires
append_free_block_ptr-taken-requires g c =
    let is = is_next_range g (goal.at.append_free_block_ptr-taken-requires g c).Else-not-is_next in
    (omega arith, next_range c.self.invariant c.args.range is.some is.ends is.lies)

-- nothing is changed where no byte is taken
same_state : (g : given.Over) (c : Then-taken-eq0 g) → c.append_free_block_ptr-taken.new.self.state ≡ c.self.inside.heap.state
same_state g c =
    let (stands, step) = appended g (goal.at.invariant_of-self g c).After-append_free_block_ptr-taken in
    none_appended g.row.FLLEN c.self.inside.heap.state c.append_free_block_ptr-taken.new.self.state c.args.range
    (subst (λ k. Appends g.row.FLLEN c.self.inside.heap.state c.args.range k c.append_free_block_ptr-taken.new.self.state) c.if-taken-eq0.true step)

pub invariant_of-self : goal.invariant_of-self
invariant_of-self g c =
    let did = c.append_free_block_ptr-taken.ensures in
    unchanged c.self.invariant c.append_free_block_ptr-taken.new.self (stands_after _ _ _ _ _ did.step) did.frame.place (ap (λ (s : State). s.chunks) (same_state g c))
    did.frame.aligns

pub extend-requires : goal.extend-requires
extend-requires g c =
    let is = is_next_range g (goal.at.extend-requires g c).Else-not-is_next in
    let (stands, step) = appended g (goal.at.extend-requires g c).After-append_free_block_ptr-taken in
    let fits = appended_fits c.self.invariant c.args.range is.some is.ends is.lies c.append_free_block_ptr-taken.new.self _ step in
    omega (arith, fits)

pub invariant_of-self-2 : goal.invariant_of-self-2
invariant_of-self-2 g c =
    let is = is_next_range g (goal.at.invariant_of-self-2 g c).Else-not-is_next in
    let (stands, step) = appended g (goal.at.invariant_of-self-2 g c).After-append_free_block_ptr-taken in
    let did = c.append_free_block_ptr-taken.ensures in
    subst (λ (p : PoolList). IsChecked g.row.FLLEN g.row.SLLEN c.append_free_block_ptr-taken.new.self c.self.inside.marks p) (sym c.extend.ensures)
    (handed_on c.self.invariant c.args.range is.some is.ends is.lies _ stands did.frame.place did.frame.aligns _ step)

pub returns-then-not-lies_in : goal.returns-then-not-lies_in
returns-then-not-lies_in g c =
    let outside : false ≡ is_within (range_of c.self.inside.heap.memory) c.args.range =
    sym c.if-not-lies_in.true ∙ c.lies_in.ensures ∙ ap (λ m. is_within (range_of m) c.args.range) c.memory_ref.ensures.memory in
    rw (← c.self.view_is) (record {
      step = tt;
      result = tt;
      bounds = assumption;
      room = assumption;
      refused = refusing (sym (none_outside g.row.FLLEN (checked c.self.inside.heap (listed c.self.inside.pools)) c.args.range outside));
      frame = frame_unchanged _;
      touches = omega arith;
    })

pub returns-then-not-is_next : goal.returns-then-not-is_next
returns-then-not-is_next g c =
    let within : true ≡ is_within (range_of c.self.inside.heap.memory) c.args.range =
    sym c.if-not-lies_in.false ∙ c.lies_in.ensures ∙ ap (λ m. is_within (range_of m) c.args.range) c.memory_ref.ensures.memory in
    let apart : false ≡ is_next c.self.inside.pools.last c.args.range.start = sym c.if-not-is_next.true ∙ c.is_next.ensures in
    rw (← c.self.view_is) (record {
      step = tt;
      result = tt;
      bounds = assumption;
      room = assumption;
      refused = refusing (sym (none_apart g.row.FLLEN (checked c.self.inside.heap (listed c.self.inside.pools)) c.args.range within apart));
      frame = frame_unchanged _;
      touches = omega arith;
    })

pub returns-then-taken-eq0 : goal.returns-then-taken-eq0
returns-then-taken-eq0 g c =
    let is = is_next_range g (goal.at.returns-then-taken-eq0 g c).Else-not-is_next in
    let (stands, step) = appended g (goal.at.returns-then-taken-eq0 g c).After-append_free_block_ptr-taken in
    let did = c.append_free_block_ptr-taken.ensures in
    rw (← c.self.view_is) (record {
      step = tt;
      result = tt;
      bounds = did.bounds;
      room = record { budgets = did.result.budgets; blocks = did.result.blocks };
      refused = record {
        answer =
            sym (next_answer g.row.FLLEN (checked c.self.inside.heap (listed c.self.inside.pools)) c.args.range is.within is.next
            ∙ ap if_appended (sym step.answer ∙ c.if-taken-eq0.true));
        same = same_state g (goal.at.returns-then-taken-eq0 g c).Then-taken-eq0;
        pools = refl;
        bytes = did.refused c.if-taken-eq0.true;
      };
      frame = did.frame;
      touches = did.touches;
    })

pub returns : goal.returns
returns g c =
    let is = is_next_range g (goal.at.returns g c).Else-not-is_next in
    let (stands, step) = appended g (goal.at.returns g c).After-append_free_block_ptr-taken in
    let did = c.append_free_block_ptr-taken.ensures in
    rw (← c.self.view_is) (record {
      step = did.step;
      result = c.extend.ensures;
      bounds = did.bounds;
      room = record { budgets = did.result.budgets; blocks = did.result.blocks };
      refused = record {
        answer =
            sym (next_answer g.row.FLLEN (checked c.self.inside.heap (listed c.self.inside.pools)) c.args.range is.within is.next ∙ ap if_appended (sym step.answer)
            ∙ some_appended _ c.if-taken-eq0.false);
        same = tt;
        pools = tt;
        bytes = tt;
      };
      frame = did.frame;
      touches = did.touches;
    })
