use Rattle.std.proofs.Common.{◌≡◌, ◌+◌, ◌^◌, ◌<◌, [], length, ◌∙◌, ap, rules, sym, subst}
use Rattle.rlsf_base.specs.Space.{Space}
use Rattle.rlsf_model.specs.Insert.{IsUntouched}
use Rattle.rlsf_model.specs.Sized.{live_bytes, live_count}
use Rattle.rlsf_model.specs.State.{State, empty}
use Rattle.rlsf_model.proofs.BudgetWords.{live_bytes-empty}
use Rattle.rlsf_model.proofs.SizedWords.{live_count-empty}
use Rattle.rlsf_model.proofs.Untouched.{untouched_empty}
use Rattle.rlsf_blocks.specs.Laws.{read_from}
use Rattle.rlsf_blocks.specs.StandsFor.{contents, StandsFor}
use Rattle.rlsf_blocks.proofs.RepresentedStates.EmptyState.{StandsFor-empty}
use Rattle.rlsf_tlsf.proofs.Arrivals.{IsAllocator-arrived, Stands-arrived}
use Rattle.rlsf_tlsf.proofs.tlsf.Tlsf.new.Given as given
use Rattle.rlsf_tlsf.proofs.tlsf.Tlsf.new.Goals as goal

-- a memory of which nothing is out, by another name
module _ (m n : Space) (same : m ≡ n) (none : m.out ≡ []) where
  whole : n.out ≡ []
  whole = ap (λ (o : Space). o.out) (sym same) ∙ none

  bounds : (0 < m.start) × (m.start + length m.bytes < 2 ^ 64) → (0 < n.start) × (n.start + length n.bytes < 2 ^ 64)
  bounds = subst (λ (o : Space). (0 < o.start) × (o.start + length o.bytes < 2 ^ 64)) same

-- it represents the empty state
standing : (g : given.Over) (c : goal.After-new-2 g) → StandsFor g.row.FLLEN g.row.SLLEN (contents c.args.memory c.new.result) empty
standing g c =
    StandsFor-empty c.requires (bounds c.memory.inside.inner c.args.memory c.memory.view_is c.memory.invariant c.start.ensures.bounds) (c.new.ensures c.args.memory)

pub invariant_of-result : goal.invariant_of-result
invariant_of-result g c =
    IsAllocator-arrived (standing g c) c.new-2.result.state c.new-2.ensures (whole c.memory.inside.inner c.args.memory c.memory.view_is c.memory.invariant) c.requires

pub returns : goal.returns
returns g c = record {
  state = search rules;
  untouched = λ r. subst (λ (s : State). IsUntouched s.chunks r) (sym c.new-2.ensures) (untouched_empty r);
  stands = Stands-arrived (standing g c) c.new-2.result.state c.new-2.ensures (whole c.memory.inside.inner c.args.memory c.memory.view_is c.memory.invariant);
  count = ap (λ (s : State). live_count (read_from c.args.memory s)) c.new-2.ensures ∙ live_count-empty;
  blocks = ap (λ (s : State). live_bytes (read_from c.args.memory s)) c.new-2.ensures ∙ live_bytes-empty;
  memory = search rules;
}
