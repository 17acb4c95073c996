use Rattle.std.proofs.Common.{◌≡◌, ◌-◌, ◌≤◌, true, true≢false, length, arith, inl, inr, refl, sym, ap, subst, ◌∙◌}
use Rattle.rlsf_base.specs.OpenSpace.{IsAway, IsOwned}
use Rattle.rlsf_base.specs.Out.{is_own, kept_at, out}
use Rattle.rlsf_base.specs.Range.{LiesIn}
use Rattle.rlsf_base.proofs.Changes.{changed-there}
use Rattle.rlsf_model.specs.Insert.{IsUntouched}
use Rattle.rlsf_model.specs.State.{State}
use Rattle.rlsf_blocks.specs.Laws.{read_from}
use Rattle.rlsf_heap.specs.Heap.{AreAmong, HeapView, IsLent, Stands, lent_bytes}
use Rattle.rlsf_heap.specs.Kept.{KeepsBytesBeside}
use Rattle.rlsf_heap.specs.Lending.{KeepsStatesBeside}
use Rattle.rlsf_heap.proofs.Kept.{same-byte, IsChangedIn, IsHeap-lent, same_state, stands_lent, lent_still, out-left, owned_range, settled-here, settled-left}
use Rattle.rlsf_heap.proofs.OnCores.{same_identity}
use Rattle.rlsf_heap.proofs.heap.Heap.reclaim.Given as given
use Rattle.rlsf_heap.proofs.heap.Heap.reclaim.Goals as goal
use Rattle.rlsf_heap.proofs.heap.Heap.reclaim.Goals.{After-take_out}

pub take_out-requires-clause-place : goal.take_out-requires-clause-place
take_out-requires-clause-place g c = subst (λ (o : HeapView). LiesIn c.args.range o.memory.start (length o.memory.bytes)) (sym c.self.view_is) c.requires.lies_in

pub take_out-requires-clause-own : goal.take_out-requires-clause-own
take_out-requires-clause-own g c =
    let told = subst (λ (o : HeapView). (o.memory.start ≤ c.args.range.start) × IsUntouched o.state.chunks c.args.range × IsLent o c.args.range) (sym c.self.view_is)
    (c.requires.lies_in.0, c.requires.untouched, c.requires.range) in
    owned_range c.self.invariant c.args.range told.0 told.1 c.self.inside.ledger.name (λ _. told.2)

module _ (g : given.Over) (c : After-take_out g) where
  inside : c.self.inside.memory.start ≤ c.args.range.start
  inside = omega (arith, c.requires.lies_in.0, ap (λ (v : HeapView). v.memory.start) c.self.view_is)

  clear : IsUntouched c.self.inside.state.state.chunks c.args.range
  clear = subst (λ (o : HeapView). IsUntouched o.state.chunks c.args.range) (sym c.self.view_is) c.requires.untouched

  own : IsOwned c.self.inside.memory c.args.range
  own = owned_range c.self.invariant c.args.range inside clear c.self.inside.ledger.name
      (λ _. subst (λ (o : HeapView). IsLent o c.args.range) (sym c.self.view_is) c.requires.range)

  changed : IsChangedIn c.args.range c.self.inside.memory c.take_out.new.self
  changed =
      let e = c.take_out.ensures.memory in
      record {
        start = e.start;
        long = ap length e.bytes;
        bytes = λ a from side. same-byte c.self.inside.memory c.take_out.new.self e.start e.bytes a;
        out = out-left c.self.inside.memory c.take_out.new.self c.args.range e.start inside e.out;
      }

  gone : IsAway c.take_out.new.self c.args.range
  gone a low high =
      let m = c.self.inside.memory in
      let e = c.take_out.ensures.memory in
      (λ i. kept_at (e.out i) (a - e.start i))
      ∙ changed-there out m.out (c.args.range.start - m.start) c.args.range.len (a - m.start) (omega (arith, low, inside)) (omega (arith, low, high, inside))

pub invariant_of-self : goal.invariant_of-self
invariant_of-self g c =
    let d = (goal.at.invariant_of-self g c).After-take_out in
    let is_lent : c.self.inside.lent ≡ true = ap (λ (o : HeapView). o.lent) c.self.view_is ∙ c.requires.lent in
    IsHeap-lent c.self.invariant c.args.range (clear g d) (changed g d) (λ not_lent. absurd (true≢false (sym is_lent ∙ not_lent)))

pub returns : goal.returns
unfolding Stands KeepsStatesBeside KeepsBytesBeside AreAmong lent_bytes
returns g c =
    let d = (goal.at.returns g c).After-take_out in
    let m = c.self.inside.memory in
    let n = c.take_out.new.self in
    let e = c.take_out.ensures in
    let ledger = c.self.inside.ledger.name in
    rw (← c.self.view_is) (record {
      stands = (stands_lent c.self.invariant c.args.range (clear g d) (changed g d)).well_formed;
      reclaimed = record {
        heap = record {
          identity = same_identity m n e.memory.start (ap length e.memory.bytes) e.memory.view ledger ledger refl;
          place = (e.memory.start, ap length e.memory.bytes, e.memory.view);
          lent = refl;
          state = same_state c.self.invariant c.args.range (clear g d) (changed g d);
          beside = λ a from side. (changed g d).out a from side;
          values = λ a from to side. (changed g d).bytes a from side;
          counts = e.counts;
        };
        part = e.part;
        home = e.part.home;
        full = λ settled. e.part.full
            (settled-here m c.args.range (inside g d) (own g d) settled);
        away = gone g d;
        settled = λ settled. settled-left m n c.args.range e.memory.start (inside g d) e.memory.out settled;
      };
      others = λ q held apart a low high. lent_still m n (read_from m c.self.inside.state.state) (read_from n c.self.inside.state.state) e.memory.start
          (ap (λ (s : State). s.chunks) (same_state c.self.invariant c.args.range (clear g d) (changed g d))) a
          (λ from own. ap is_own ((changed g d).out a from (elim apart [
            | inl behind ↦ inr (omega (arith, behind, low))
            | inr before ↦ inl (omega (arith, before, high))
          ])) ∙ own) (held a low high);
    })
