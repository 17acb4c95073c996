use Rattle.std.proofs.Common.{◌≡◌, ℕ, ◌-◌, ◌≤◌, true, length, arith, inl, inr, refl, sym, ap, subst, ◌∙◌}
use Rattle.std.proofs.lemmas.Bool.{cases_lt}
use Rattle.rlsf_base.specs.declared.memory.range.Range.{Range}
use Rattle.rlsf_base.specs.Out.{is_own, kept_at}
use Rattle.rlsf_base.specs.Piece.{piece_range}
use Rattle.rlsf_base.specs.Range.{end_of}
use Rattle.rlsf_base.specs.Space.{byte_range, out_at}
use Rattle.rlsf_base.proofs.Changes.{back-before, back-behind}
use Rattle.rlsf_base.proofs.Lending.Replaced.{byte_at-same}
use Rattle.rlsf_model.specs.Insert.{IsUntouched}
use Rattle.rlsf_model.specs.State.{State}
use Rattle.rlsf_blocks.specs.Laws.{read_from}
use Rattle.rlsf_heap.specs.Heap.{AreAmong, HeapView, Stands, lent_bytes}
use Rattle.rlsf_heap.specs.Kept.{KeepsBytesBeside}
use Rattle.rlsf_heap.specs.Lending.{KeepsStatesBeside}
use Rattle.rlsf_heap.proofs.Kept.{IsChangedIn, IsHeap-lent, same_state, stands_lent, lent_own, lent_still, settled-back}
use Rattle.rlsf_heap.proofs.OnCores.{same_identity}
use Rattle.rlsf_heap.proofs.heap.Heap.lend.Given as given
use Rattle.rlsf_heap.proofs.heap.Heap.lend.Goals as goal
use Rattle.rlsf_heap.proofs.heap.Heap.lend.Goals.{After-put_back}

pub put_back-requires-clause-home : goal.put_back-requires-clause-home
put_back-requires-clause-home g c = c.requires.home ∙ sym (ap (λ (v : HeapView). v.identity.home) c.self.view_is)

module _ (g : given.Over) (c : After-put_back g) where
  abbrev r : Range
  r = piece_range c.args.part

  inside : c.self.inside.memory.start ≤ c.args.part.start
  inside = omega (arith, c.requires.lies_in.0, ap (λ (v : HeapView). v.memory.start) c.self.view_is)

  clear : IsUntouched c.self.inside.state.state.chunks r
  clear = subst (λ (o : HeapView). IsUntouched o.state.chunks r) (sym c.self.view_is) c.requires.untouched

  changed : IsChangedIn r c.self.inside.memory c.put_back.new.self
  changed =
      let m = c.self.inside.memory in
      let e = c.put_back.ensures in
      record {
        start = e.memory.start;
        long = e.back.len;
        bytes = λ a from side. byte_at-same m c.put_back.new.self a (e.back.others (byte_range a) from (elim side [
          | inl before ↦ inr (omega (arith, before))
          | inr behind ↦ inl behind
        ]));
        out = λ a from side. (λ i. kept_at (e.memory.out i) (a - e.memory.start i)) ∙ elim side [
          | inl before ↦ back-before m.out (c.args.part.start - m.start) (length c.args.part.bytes) (a - m.start) (omega (arith, before, from, inside))
          | inr behind ↦ back-behind m.out (c.args.part.start - m.start) (length c.args.part.bytes) (a - m.start) (omega (arith, behind, inside))
        ];
      }

  -- what is the memory's own stays so
  stays_own : (a : ℕ) → c.self.inside.memory.start ≤ a → is_own (out_at c.self.inside.memory a) ≡ true → is_own (out_at c.put_back.new.self a) ≡ true
  stays_own a from own = elim (cases_lt a c.args.part.start) [
    | inl before ↦ ap is_own (changed.out a from (inl before)) ∙ own
    | inr low ↦ elim (cases_lt a (end_of r)) [
      | inl high ↦ c.put_back.ensures.back.own a low high
      | inr behind ↦ ap is_own (changed.out a from (inr behind)) ∙ own
    ]
  ]

pub invariant_of-self : goal.invariant_of-self
invariant_of-self g c =
    let d = (goal.at.invariant_of-self g c).After-put_back in
    IsHeap-lent c.self.invariant (r g d) (clear g d) (changed g d) (λ _. c.put_back.ensures.back.own)

pub returns : goal.returns
unfolding Stands KeepsStatesBeside KeepsBytesBeside AreAmong lent_bytes
returns g c =
    let d = (goal.at.returns g c).After-put_back in
    let m = c.self.inside.memory in
    let n = c.put_back.new.self in
    let e = c.put_back.ensures in
    let ledger = c.self.inside.ledger.name in
    let s = read_from n c.self.inside.state.state in
    let chunks = ap (λ (s : State). s.chunks) (same_state c.self.invariant (r g d) (clear g d) (changed g d)) in
    rw (← c.self.view_is) (record {
      stands = (stands_lent c.self.invariant (r g d) (clear g d) (changed g d)).well_formed;
      lent = record {
        heap = record {
          identity = same_identity m n e.memory.start e.back.len e.memory.view ledger ledger refl;
          place = (e.memory.start, e.back.len, e.memory.view);
          lent = refl;
          state = same_state c.self.invariant (r g d) (clear g d) (changed g d);
          beside = λ a from side. (changed g d).out a from side;
          values = λ a from to side. (changed g d).bytes a from side;
          counts = e.counts;
        };
        away = e.away;
        own = e.back.own;
        values = e.back.values;
        settled = λ settled. settled-back m n (r g d) e.memory.start (inside g d) e.memory.out settled;
      };
      range = λ q at a low high. lent_own n s a (omega (arith, at.0, low, inside g d, e.memory.start)) (e.back.own a (omega (arith, at.0, low)) (omega (arith, at.0, at.1, high)));
      others = λ q held a low high. lent_still m n (read_from m c.self.inside.state.state) s e.memory.start chunks a (stays_own g d a) (held a low high);
    })
