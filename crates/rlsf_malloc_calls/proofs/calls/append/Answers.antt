use Rattle.std.proofs.Common.{rules, ◌≡◌, ℕ, length, sym, ap, subst, ◌∙◌}
use Rattle.rlsf_base.specs.declared.memory.range.Range.{Range}
use Rattle.rlsf_base.specs.Range.{AreApart, LiesIn, range_at}
use Rattle.rlsf_base.specs.Space.{range_of}
use Rattle.rlsf_model.specs.Insert.{Appends, IsClear, IsNext, IsUntouched}
use Rattle.rlsf_model.specs.Lists.{IsIn}
use Rattle.rlsf_model.specs.State.{State}
use Rattle.rlsf_model.specs.WellFormed.{coverage, itself}
use Rattle.rlsf_heap.specs.Heap.{IsLent}
use Rattle.rlsf_heap.specs.Lending.{IsReclaimed}
use Rattle.rlsf_malloc_calls.proofs.Lends.{Takes, appends, behind-clear, behind-lent, behind-lies, still-lent}
use Rattle.rlsf_malloc_calls.proofs.Outcomes.{kept_heap, step_of}
use Rattle.rlsf_malloc_calls.proofs.PoolEnds.{appended-beside, appended-few}
use Rattle.rlsf_malloc_calls.proofs.calls.append.Given as given
use Rattle.rlsf_malloc_calls.proofs.calls.append.Goals as goal
use Rattle.rlsf_malloc_calls.proofs.calls.append.Goals.{After-append_free_block_ptr-number}

-- no chunk overlaps a range that may be appended
untouched_next : (memory : Range) (s : State) (r : Range) → IsNext memory s r → IsUntouched s.chunks r
unfolding IsUntouched
untouched_next memory s r next = next.fresh.apart

pub lend_loan-requires : goal.lend_loan-requires
lend_loan-requires g c =
    let can = c.requires.1 in let b = can.bytes in let old = c.args.heap.now in (
      search rules,
      (
        (λ none. b.some (sym (ap (λ (r : Range). r.start) b.range) ∙ none)),
        (b.range, (b.home, (b.full, (can.next.fresh.lies_in, untouched_next (range_of old.memory) old.state (range_at c.args.start c.args.len) can.next)))),
      ),
    )

pub append_free_block_ptr-number-requires : goal.append_free_block_ptr-number-requires
append_free_block_ptr-number-requires g c =
    let can = c.requires.1 in let e = c.lend_loan.ensures.lent.heap in let range = range_at c.args.start c.args.len in
    let next : IsNext (range_of c.lend_loan.new.self.memory) c.lend_loan.new.self.state range = record {
      fresh = record {
        lies_in = subst (λ (m : ℕ × ℕ). LiesIn range m.0 m.1) (λ i. (sym e.place.0 i, sym e.place.1 i)) can.next.fresh.lies_in;
        apart = subst (λ (s : State). IsClear range s.chunks) (sym e.state) can.next.fresh.apart;
      };
      chunk = can.next.chunk;
      is_chunk = subst (λ (s : State). IsIn can.next.chunk s.chunks) (sym e.state) can.next.is_chunk;
      ends = can.next.ends;
    } in
    (search rules, (next, λ is. c.lend_loan.ensures.range))

module _ (g : given.Over) (c : After-append_free_block_ptr-number g) where
  abbrev r : Range
  r = range_at c.args.start c.args.len

  did : Appends g.row.FLLEN c.lend_loan.new.self.state r c.append_free_block_ptr-number.result c.append_free_block_ptr-number.new.self.state
  did =
      step_of g.row.FLLEN g.row.SLLEN c.append_free_block_ptr-number.new.self
      (Appends g.row.FLLEN c.lend_loan.new.self.state r c.append_free_block_ptr-number.result) c.append_free_block_ptr-number.ensures.step

  pub takes : Takes c.args.start c.args.len c.append_free_block_ptr-number.result c.args.heap.now c.lend_loan.new.self c.append_free_block_ptr-number.new.self c.args.loan.of
  takes = let can = c.requires.1 in let made = c.append_free_block_ptr-number.ensures in let old = c.args.heap.now in record {
    is = can.bytes.range;
    lends = c.lend_loan.ensures.lent;
    kept = kept_heap made.frame.heap made.frame.settled (c.lend_loan.ensures.lent.settled c.requires.0);
    lies = can.next.fresh.lies_in;
    clear = untouched_next (range_of old.memory) old.state r can.next;
    others = c.lend_loan.ensures.others;
    lent = c.lend_loan.ensures.range;
    is_lent = can.bytes.lent;
    few = appended-few g.row.FLLEN r c.lend_loan.new.self.state c.append_free_block_ptr-number.new.self.state c.append_free_block_ptr-number.result did;
    past = λ a clear behind. appended-beside g.row.FLLEN r c.lend_loan.new.self.state c.append_free_block_ptr-number.new.self.state c.append_free_block_ptr-number.result did a
        (subst (λ (s : State). coverage itself s.chunks a ≡ 0) (sym c.lend_loan.ensures.lent.heap.state) clear) behind;
  }

pub behind-rest-requires-clause-few : goal.behind-rest-requires-clause-few
behind-rest-requires-clause-few g c = (takes g ((goal.at.behind-rest-requires-clause-few g c).After-append_free_block_ptr-number)).few

pub reclaim_loan-requires : goal.reclaim_loan-requires
reclaim_loan-requires g c =
    let d = (goal.at.reclaim_loan-requires g c).After-append_free_block_ptr-number in
    let t = takes g d in let f = g.row.FLLEN in
    let w = c.append_free_block_ptr-number.new.self in let e = sym c.behind-rest.ensures in (
      search rules,
      (
        subst (λ (q : Range). LiesIn q w.memory.start (length w.memory.bytes)) e (behind-lies f t),
        (subst (λ (q : Range). IsUntouched w.state.chunks q) e (behind-clear f t), (subst (λ (q : Range). IsLent w q) e (behind-lent f t), still-lent f t)),
      ),
    )

pub returns : goal.returns
returns g c =
    let d = (goal.at.returns g c).After-append_free_block_ptr-number in
    let made = c.append_free_block_ptr-number.ensures in let w = c.append_free_block_ptr-number.new.self in
    let x = c.reclaim_loan.new.self in
    appends g.row.FLLEN (takes g d) x c.reclaim_loan.result.of
    (subst (λ (q : Range). IsReclaimed w x q c.reclaim_loan.result.of) c.behind-rest.ensures c.reclaim_loan.ensures.reclaimed)
    (subst (λ (b : Range). (q : Range) → IsLent w q → AreApart b q → IsLent x q) c.behind-rest.ensures c.reclaim_loan.ensures.others)
    (did g d) made.frame.aligns made.frame.count made.untouched
