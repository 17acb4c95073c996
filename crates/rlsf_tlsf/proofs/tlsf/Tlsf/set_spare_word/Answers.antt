use Rattle.std.proofs.Common.{◌≡◌, [], ◌+◌, sym, ◌∙◌, ap, subst}
use Rattle.rlsf_base.specs.Space.{SamePlace, with_word, word_range}
use Rattle.rlsf_base.proofs.Lending.Present.{own-none}
use Rattle.rlsf_base.proofs.Lending.Whole.{none-with}
use Rattle.rlsf_blocks.specs.Laws.{read_from}
use Rattle.rlsf_blocks.specs.Spare.{IsSpareWord}
use Rattle.rlsf_blocks.specs.StandsFor.{contents, StandsFor}
use Rattle.rlsf_blocks.proofs.RepresentedStates.SpareWords.{StandsFor-spare_word}
use Rattle.rlsf_tlsf.specs.Allocator.{Allocator}
use Rattle.rlsf_tlsf.proofs.Arrivals.{IsAllocator-arrived, Stands-arrived, arrived, bare-kept}
use Rattle.rlsf_tlsf.proofs.Opened.{IsAllocator-opened, view-opened}
use Rattle.rlsf_tlsf.proofs.tlsf.Tlsf.set_spare_word.Given as given
use Rattle.rlsf_tlsf.proofs.tlsf.Tlsf.set_spare_word.Goals as goal
use Rattle.rlsf_tlsf.proofs.tlsf.Tlsf.set_spare_word.Goals.{After-set_word}

pub set_word-requires : goal.set_word-requires
set_word-requires g c =
    let (word, spare) = subst (λ (o : Allocator). IsSpareWord o.memory o.state c.args.addr) (sym (view-opened c.self-inside.view_is c.self.view_is)) c.requires in
    (word.0, word.1, own-none c.self-inside.inside.0.0.inner (word_range c.args.addr) (IsAllocator-opened c.self-inside.view_is c.self.invariant).whole)

-- the memory represents the state after it
stands : (g : given.Over) (c : After-set_word g)
    → StandsFor g.row.FLLEN g.row.SLLEN (contents c.set_word.new.self c.self-inside.inside.0.1.0) (read_from c.self-inside.inside.0.0.inner c.self-inside.inside.0.1.1.0.state)
stands g c =
    let is = IsAllocator-opened c.self-inside.view_is c.self.invariant in
    let spare = subst (λ (o : Allocator). IsSpareWord o.memory o.state c.args.addr) (sym (view-opened c.self-inside.view_is c.self.view_is)) c.requires in
    let mine = own-none c.self-inside.inside.0.0.inner (word_range c.args.addr) is.whole in
    StandsFor-spare_word is.stands c.args.addr c.args.word spare mine c.set_word.new.self c.set_word.ensures.start c.set_word.ensures.bytes c.set_word.ensures.out

-- nothing is out after it
none : (g : given.Over) (c : After-set_word g) → c.set_word.new.self.out ≡ []
none g c =
    none-with c.self-inside.inside.0.0.inner c.set_word.new.self (word_range c.args.addr) c.set_word.ensures.out (IsAllocator-opened c.self-inside.view_is c.self.invariant).whole

pub invariant_of-self-inside : goal.invariant_of-self-inside
invariant_of-self-inside g c = none g (goal.at.invariant_of-self-inside g c).After-set_word

pub invariant_of-self : goal.invariant_of-self
invariant_of-self g c =
    let after = (goal.at.invariant_of-self g c).After-set_word in
    IsAllocator-arrived (stands g after) c.self-inside.inside.0.1.1.0.state (sym (bare-kept (IsAllocator-opened c.self-inside.view_is c.self.invariant))) (none g after)
    c.self.invariant.valid

pub returns : goal.returns
returns g c =
    let after = (goal.at.returns g c).After-set_word in
    let is = IsAllocator-opened c.self-inside.view_is c.self.invariant in
    let view = view-opened c.self-inside.view_is c.self.view_is in
    record {
      state = arrived (stands g after) c.self-inside.inside.0.1.1.0.state (sym (bare-kept is)) ∙ ap (λ (o : Allocator). o.state) view;
      stands = Stands-arrived (stands g after) c.self-inside.inside.0.1.1.0.state (sym (bare-kept is)) (none g after);
      bytes = c.set_word.ensures.bytes ∙ ap (λ (o : Allocator). with_word o.memory c.args.addr c.args.word) view;
      place =
          subst (λ (o : Allocator). SamePlace o.memory c.set_word.new.self) view (c.set_word.ensures.start, c.set_word.ensures.len, c.set_word.ensures.view, λ _. none g after);
      touches = c.set_word.ensures.touches ∙ ap (λ (o : Allocator). o.memory.touches + 1) view;
      copied = c.set_word.ensures.copied ∙ ap (λ (o : Allocator). o.memory.copied) view;
    }
