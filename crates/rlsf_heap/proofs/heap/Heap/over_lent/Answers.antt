use Rattle.std.proofs.Common.{true, true≢false, arith, ◌∙◌, ap, sym, subst}
use Rattle.rlsf_model.specs.Insert.{IsUntouched}
use Rattle.rlsf_model.specs.Sized.{live_count}
use Rattle.rlsf_model.specs.State.{State, empty}
use Rattle.rlsf_model.proofs.SizedWords.{live_count-empty}
use Rattle.rlsf_model.proofs.Untouched.{untouched_empty}
use Rattle.rlsf_blocks.specs.Laws.{read_from}
use Rattle.rlsf_blocks.specs.StandsFor.{contents, StandsFor}
use Rattle.rlsf_blocks.proofs.RepresentedStates.EmptyState.{StandsFor-empty}
use Rattle.rlsf_heap.specs.Heap.{AreAmong, lent_bytes}
use Rattle.rlsf_heap.proofs.OnCores.{IsHeap-arrived, Stands-arrived, issued-none}
use Rattle.rlsf_heap.proofs.Kept.{lent_own, settled-none}
use Rattle.rlsf_heap.proofs.heap.Heap.over_lent.Given as given
use Rattle.rlsf_heap.proofs.heap.Heap.over_lent.Goals as goal

-- the memory represents the empty state
standing : (g : given.Over) (c : goal.After-new-3 g) → StandsFor g.row.FLLEN g.row.SLLEN (contents c.args.memory c.new.result) empty
standing g c = StandsFor-empty c.requires c.start.ensures.bounds (c.new.ensures c.args.memory)

pub invariant_of-result : goal.invariant_of-result
invariant_of-result g c =
    IsHeap-arrived (standing g c) c.new-2.result.state c.new-2.ensures c.requires c.new-3.result.entries
    (issued-none empty c.new-3.result.entries c.new-3.ensures) 0 (sym live_count-empty) (λ not_lent. absurd (true≢false not_lent))

pub returns-clause-untouched : goal.returns-clause-untouched
returns-clause-untouched g c = λ r. subst (λ (s : State). IsUntouched s.chunks r) (sym c.new-2.ensures) (untouched_empty r)

pub returns-clause-stands : goal.returns-clause-stands
returns-clause-stands g c = Stands-arrived (standing g c) c.new-2.result.state c.new-2.ensures c.new-3.result.name true

pub returns-clause-count : goal.returns-clause-count
returns-clause-count g c = ap (λ (s : State). live_count (read_from c.args.memory s)) c.new-2.ensures ∙ live_count-empty

pub returns-clause-bytes : goal.returns-clause-bytes
unfolding AreAmong lent_bytes
returns-clause-bytes g c =
    let m = c.args.memory in
    ((λ r own lies a low high. lent_own m (read_from m c.new-2.result.state) a (omega (arith, lies.0, low)) (own a low high)), λ none. settled-none m none)
