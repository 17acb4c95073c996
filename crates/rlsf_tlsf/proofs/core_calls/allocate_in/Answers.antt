use Rattle.std.proofs.Common.{◌≡◌, Some, refl, sym, ◌∙◌, ap, subst}
use Rattle.rlsf_model.specs.Allocate.{Allocates, Places}
use Rattle.rlsf_model.specs.Sized.{IsSizedFor}
use Rattle.rlsf_model.specs.State.{State}
use Rattle.rlsf_model.proofs.SizedWords.{never_refused, sized_new}
use Rattle.rlsf_blocks.specs.Laws.{read_from}
use Rattle.rlsf_tlsf.specs.Cores.{IsPayloadRange}
use Rattle.rlsf_tlsf.specs.Steps.Moves.{allocated, bare}
use Rattle.rlsf_tlsf.proofs.Moved.{allocated-bare}
use Rattle.rlsf_tlsf.proofs.Placed.{IsPlaced-at}
use Rattle.rlsf_tlsf.proofs.Reached.{LeavesCore-arrived, bare-core, reads}
use Rattle.rlsf_tlsf.proofs.core_calls.allocate_in.Given as given
use Rattle.rlsf_tlsf.proofs.core_calls.allocate_in.Goals as goal
use Rattle.rlsf_tlsf.proofs.core_calls.allocate_in.Goals.{After-allocate}

pub returns-in-None : goal.returns-in-None
returns-in-None g c =
    let k = c.args.state.now.state in
    let s = read_from c.args.memory.now k in
    let e = c.in-None.ensures in
    let (t, step, stands, spare) = e.step s c.requires.stands in
    let kept : k ≡ bare t = sym (bare-core c.requires) ∙ ap bare (sym step.1) in
    let same : read_from c.allocate_range.new.memory k ≡ s = reads stands k kept (λ (x : State). x ≡ s) step.1 in
    record {
      left = LeavesCore-arrived stands k kept c.requires.valid spare e.costs e.own e.here;
      step = (step.0, same);
      result = tt;
      room = λ count most widest sized few short fits.
          absurd (never_refused c.requires.stands.well_formed s count most widest sized c.args.layout.size c.args.layout.align few short fits (step.0, refl));
      bounds = λ count most widest sized short fits. subst (IsSizedFor g.row.SLLEN count most widest) (sym same) sized;
      refused = record { same = same; bytes = e.unchanged.0.bytes };
    }

-- what is kept of the state is the one that the payload leads to
kept : (g : given.Over) (c : After-allocate g) (t : State)
    → Places g.row.SLLEN (read_from c.args.memory.now c.args.state.now.state) c.args.layout.size c.args.layout.align c.in-Some.range.start t
    → c.allocate.new.self.state ≡ bare t
kept g c t places =
    c.allocate.ensures ∙ (λ i. allocated g.row.SLLEN (c.size.ensures.value i) (c.align.ensures.value i) (sym (bare-core c.requires) i))
    ∙ allocated-bare g.row.SLLEN (read_from c.args.memory.now c.args.state.now.state) t c.args.layout.size c.args.layout.align c.in-Some.range.start places

pub returns-in-Some : goal.returns-in-Some
returns-in-Some g c =
    let n = c.allocate_range.new.memory in
    let s = read_from c.args.memory.now c.args.state.now.state in
    let size = c.args.layout.size in
    let align = c.args.layout.align in
    let range = c.in-Some.range in
    let power = c.args.layout.valid.aligned in
    let e = c.in-Some.ensures in
    let (t, places, stands, spare) = e.step s c.requires.stands in
    let after = c.allocate.new.self.state in
    let is = kept g c t places in
    let long = e.len s c.requires.stands places.range places.chosen in
    record {
      left = LeavesCore-arrived stands after is c.requires.valid spare e.costs e.own e.here;
      step = reads stands after is (Allocates g.row.SLLEN s size align (Some range.start)) places;
      result = reads stands after is (λ (x : State). IsPayloadRange n s x size align range) (IsPlaced-at c.requires.stands power places stands e.own range refl long);
      room = λ count most widest sized few short fits. refl;
      bounds = λ count most widest sized short fits. reads stands after is (IsSizedFor g.row.SLLEN count most widest)
          (sized_new c.requires.stands.well_formed t count most widest sized size align (Some range.start) power short fits places);
      refused = tt;
    }
