-- What the search finds is the choice for the layout, and gives its front to the payload.
use Rattle.std.proofs.Common.{◌≡◌, Option, arith, refl, sym, ◌∙◌, ap, subst, rules}
use Rattle.std.proofs.lemmas.Option.{same_Some}
use Rattle.rlsf_base.specs.declared.memory.range.Range.{Range}
use Rattle.rlsf_model_sizes.specs.Sizes.{request_size}
use Rattle.rlsf_base.specs.Space.{word_at}
use Rattle.rlsf_model.specs.Allocate.{Allocates, choice}
use Rattle.rlsf_model.specs.State.{State}
use Rattle.rlsf_model.proofs.Choices.{choice-some}
use Rattle.rlsf_table.specs.Table.{IsClassAt}
use Rattle.rlsf_table.proofs.FreeLists.Counted.{word_at-counted}
use Rattle.rlsf_blocks.specs.StandsFor.{contents, StandsFor}
use Rattle.rlsf_blocks.specs.Steps.Rest.{range_start}
use Rattle.rlsf_blocks.proofs.RepresentedStates.Counted.{KeepsSpare-counted, KeepsSpare-counted_first, StandsFor-counted}
use Rattle.rlsf_blocks.proofs.RepresentedStates.FreeBlocks.{IsFreeTable-free}
use Rattle.rlsf_blocks.proofs.Refused.{none_none, none_some}
use Rattle.rlsf_blocks.proofs.Words.Stays.{Stays, Stays-same, Stays-then}
use Rattle.rlsf_table.proofs.Costs.{Costs-counted, Costs-then, Costs-within}
use Rattle.rlsf_blocks.proofs.placement.allocate_range.Given as given
use Rattle.rlsf_blocks.proofs.placement.allocate_range.Goals as goal
use Rattle.rlsf_blocks.proofs.placement.allocate_range.Goals.{After-first_fit}

-- what is computed for the layout is what is sought
sought : (g : given.Over) (c : After-first_fit g) (s : State) {o : Option Range} → choice g.row.SLLEN c.request_size.result s.free ≡ o
    → choice g.row.SLLEN (request_size c.args.layout.size c.args.layout.align) s.free ≡ o
sought g c s {o} = subst (λ n. choice g.row.SLLEN n s.free ≡ o) c.request_size.ensures.value

-- the memory in which the search was counted represents the same states
searched : (g : given.Over) (c : After-first_fit g) {s : State} → StandsFor g.row.FLLEN g.row.SLLEN (contents c.args.memory.now c.args.table.now) s
    → StandsFor g.row.FLLEN g.row.SLLEN (contents c.first_fit.new.memory c.args.table.now) s
searched g c v = StandsFor-counted c.args.memory.now c.first_fit.new.memory c.first_fit.ensures.counts.start c.first_fit.ensures.counts.bytes c.first_fit.ensures.counts.out v

pub first_fit-requires : goal.first_fit-requires
first_fit-requires g c =
    let (s, v) = c.requires.stands in
    (omega arith, (c.requires.parameters, (c.request_size.ensures.size, (s.free, IsFreeTable-free v))))

pub returns-in_err-found : goal.returns-in_err-found
returns-in_err-found g c =
    let at = (goal.at.returns-in_err-found g c).After-first_fit in
    let counts = c.first_fit.ensures.counts in
    let stays = Stays-same c.args.memory.now c.first_fit.new.memory counts.start counts.out in
    record {
      step = λ s v.
          let none = sought g at s (c.in_err-found.ensures.choice s.free (IsFreeTable-free v)) in (
            s,
            subst (λ o. Allocates g.row.SLLEN s c.args.layout.size c.args.layout.align (range_start o) s) (sym c.from_residual.ensures) (none, refl),
            searched g at v,
            KeepsSpare-counted c.args.memory.now c.first_fit.new.memory counts.start counts.bytes counts.out s s,
          );
      len = λ s v. none_some _ c.from_residual.result c.from_residual.ensures;
      unchanged = none_none c.from_residual.result (counts, refl);
      costs = Costs-within (omega arith) (Costs-counted counts);
      own = stays.own;
      here = stays.here;
    }

pub place-requires : goal.place-requires
place-requires g c =
    let (s, v) = c.requires.stands in
    let at = (goal.at.place-requires g c).After-first_fit in
    let (f, chosen, start, class) = c.in_ok-found.ensures.choice s.free (IsFreeTable-free v) in
    let counts = c.first_fit.ensures.counts in
    let own = (choice-some g.row.SLLEN c.request_size.result s.free f chosen).is_in in
    let size =
    word_at-counted c.args.memory.now c.first_fit.new.memory counts.start counts.bytes counts.out c.in_ok-found.found.start ∙ ap (word_at c.args.memory.now) (sym start)
    ∙ (IsFreeTable-free v).sizes f own in
    let at_class = subst (λ n. IsClassAt g.row.FLLEN g.row.SLLEN n c.in_ok-found.found.class.fl c.in_ok-found.found.class.sl) (sym size) class in
    (omega arith, (c.requires.parameters, (at_class, ((s, f, searched g at v, sought g at s chosen, start), search rules))))

pub returns : goal.returns
returns g c =
    let at = (goal.at.returns g c).After-first_fit in
    let n = c.first_fit.new.memory in
    let counts = c.first_fit.ensures.counts in
    let placed : Stays n c.place.new.memory = record { start = c.place.ensures.costs.start; own = c.place.ensures.own; here = c.place.ensures.here } in
    let stays = Stays-then (Stays-same c.args.memory.now n counts.start counts.out) placed in
    record {
      step = λ s v.
          let (f, chosen, start, _) = c.in_ok-found.ensures.choice s.free (IsFreeTable-free v) in
          let (t, places, now, spare) = c.place.ensures.step s f (searched g at v) (sought g at s chosen) start in
          (t, places, now, KeepsSpare-counted_first c.args.memory.now n counts.start counts.bytes counts.out s t c.place.new.memory spare);
      len = λ s v f chosen.
          let (h, found, start, _) = c.in_ok-found.ensures.choice s.free (IsFreeTable-free v) in
          c.place.ensures.len s f (searched g at v) chosen (ap (λ (r : Range). r.start) (same_Some _ _ (sym chosen ∙ sought g at s found)) ∙ start);
      unchanged = tt;
      costs = Costs-then (Costs-counted counts) c.place.ensures.costs;
      own = stays.own;
      here = stays.here;
    }
