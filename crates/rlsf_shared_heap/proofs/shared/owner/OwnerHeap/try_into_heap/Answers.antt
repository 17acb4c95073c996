use Rattle.std.proofs.Common.{refl, ap, sym, ◌∙◌}
use Rattle.std.proofs.lemmas.Bool.{false≢true}
use Rattle.rlsf_shared_heap.specs.Owners.{OwnerView}
use Rattle.rlsf_shared_heap.proofs.shared.owner.OwnerHeap.try_into_heap.Goals as goal

pub returns-then-self-eq0 : goal.returns-then-self-eq0
returns-then-self-eq0 g c = record {
  which = (λ _. sym (ap (λ (o : OwnerView). o.lent) c.self.view_is) ∙ c.if-self-eq0.true, λ _. refl);
  heap = c.into_heap.ensures;
  same = tt;
}

pub returns-else-self-eq0 : goal.returns-else-self-eq0
returns-else-self-eq0 g c = record {
  which = (λ e. absurd (false≢true e), λ e. absurd (c.if-self-eq0.false (ap (λ (o : OwnerView). o.lent) c.self.view_is ∙ e)));
  heap = tt;
  same = refl;
}
