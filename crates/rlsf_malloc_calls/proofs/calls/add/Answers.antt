use Rattle.std.proofs.Common.{rules, ◌≡◌, ◌≤◌, ℕ, ◌+◌, length, sym, subst, inr}
use Rattle.rlsf_base.specs.Addr.{reply, reply_of}
use Rattle.rlsf_base.specs.declared.memory.range.Range.{Range}
use Rattle.rlsf_base.specs.Range.{AreApart, LiesIn, range_at}
use Rattle.rlsf_model.specs.Insert.{Inserts, IsUntouched}
use Rattle.rlsf_model.specs.State.{State}
use Rattle.rlsf_model.specs.WellFormed.{coverage, itself}
use Rattle.rlsf_heap.specs.Heap.{IsLent}
use Rattle.rlsf_heap.specs.Lending.{IsReclaimed}
use Rattle.rlsf_malloc_calls.proofs.Lends.{Takes, adds, behind-clear, behind-lent, behind-lies, still-lent}
use Rattle.rlsf_malloc_calls.proofs.Outcomes.{kept_heap, step_of}
use Rattle.rlsf_malloc_calls.proofs.PoolEnds.{inserted-beside, inserted-few}
use Rattle.rlsf_malloc_calls.proofs.calls.add.Given as given
use Rattle.rlsf_malloc_calls.proofs.calls.add.Goals as goal
use Rattle.rlsf_malloc_calls.proofs.calls.add.Goals.{After-lend_loan, After-or_zero-number}

module _ (g : given.Over) (c : After-or_zero-number g) where
  abbrev r : Range
  r = range_at c.args.start c.args.len

  inserts : Inserts g.row.FLLEN c.lend_loan.new.self.state r (reply_of c.or_zero-number.result) c.insert_free_block_ptr.new.self.state
  inserts =
      subst (λ o. Inserts g.row.FLLEN c.lend_loan.new.self.state r o c.insert_free_block_ptr.new.self.state) c.or_zero-number.ensures
      (step_of g.row.FLLEN g.row.SLLEN c.insert_free_block_ptr.new.self
      (Inserts g.row.FLLEN c.lend_loan.new.self.state r (reply c.insert_free_block_ptr.result)) c.insert_free_block_ptr.ensures.step)

  few : c.or_zero-number.result ≤ c.args.len
  few = inserted-few g.row.FLLEN r c.lend_loan.new.self.state c.insert_free_block_ptr.new.self.state c.or_zero-number.result inserts

  past : (a : ℕ) → coverage itself c.args.heap.now.state.chunks a ≡ 0 → c.args.start + c.or_zero-number.result ≤ a
      → coverage itself c.insert_free_block_ptr.new.self.state.chunks a ≡ 0
  past a clear behind =
      inserted-beside g.row.FLLEN r c.lend_loan.new.self.state c.insert_free_block_ptr.new.self.state c.or_zero-number.result inserts a
      (subst (λ (s : State). coverage itself s.chunks a ≡ 0) (sym c.lend_loan.ensures.lent.heap.state) clear) (inr behind)

  pub takes : Takes c.args.start c.args.len c.or_zero-number.result c.args.heap.now c.lend_loan.new.self c.insert_free_block_ptr.new.self c.args.loan.of
  takes = let can = c.requires.1 in let did = c.insert_free_block_ptr.ensures in record {
    is = can.bytes.range;
    lends = c.lend_loan.ensures.lent;
    kept = kept_heap did.frame.heap did.frame.settled (c.lend_loan.ensures.lent.settled c.requires.0);
    lies = can.lies;
    clear = can.untouched;
    others = c.lend_loan.ensures.others;
    lent = c.lend_loan.ensures.range;
    is_lent = can.bytes.lent;
    few = few;
    past = past;
  }

pub behind-rest-requires-clause-few : goal.behind-rest-requires-clause-few
behind-rest-requires-clause-few g c = few g ((goal.at.behind-rest-requires-clause-few g c).After-or_zero-number)

pub reclaim_loan-requires : goal.reclaim_loan-requires
reclaim_loan-requires g c =
    let d = (goal.at.reclaim_loan-requires g c).After-or_zero-number in
    let t = takes g d in let f = g.row.FLLEN in
    let w = c.insert_free_block_ptr.new.self in let e = sym c.behind-rest.ensures in (
      search rules,
      (
        subst (λ (q : Range). LiesIn q w.memory.start (length w.memory.bytes)) e (behind-lies f t),
        (subst (λ (q : Range). IsUntouched w.state.chunks q) e (behind-clear f t), (subst (λ (q : Range). IsLent w q) e (behind-lent f t), still-lent f t)),
      ),
    )

pub returns : goal.returns
returns g c =
    let d = (goal.at.returns g c).After-or_zero-number in
    let made = c.insert_free_block_ptr.ensures in let w = c.insert_free_block_ptr.new.self in
    let x = c.reclaim_loan.new.self in
    adds g.row.FLLEN (takes g d) x c.reclaim_loan.result.of
    (subst (λ (q : Range). IsReclaimed w x q c.reclaim_loan.result.of) c.behind-rest.ensures c.reclaim_loan.ensures.reclaimed)
    (subst (λ (b : Range). (q : Range) → IsLent w q → AreApart b q → IsLent x q) c.behind-rest.ensures c.reclaim_loan.ensures.others)
    (inserts g d) made.frame.aligns made.frame.count made.untouched
