-- What an answer of the source leaves.
use Rattle.std.proofs.Common.{◌≡◌, ◌<◌, ℕ, true, List, Option, refl, sym, ◌∙◌, ap, subst}
use Rattle.std.proofs.lemmas.Bool.{false≢true}
use Rattle.rlsf_base.specs.declared.memory.range.Range.{Range}
use Rattle.rlsf_base.specs.Space.{range_of}
use Rattle.rlsf_tlsf.specs.Allocator.{Allocator, HasBytesOf}
use Rattle.rlsf_flex.specs.Footers.{Footers}
use Rattle.rlsf_flex.specs.StandsFor.{FlexContents, FlexStandsFor, allocator_of}
use Rattle.rlsf_flex.specs.Steps.Growth.{Took}
use Rattle.rlsf_model.specs.FlexState.{FlexState, KeptPool}
use Rattle.rlsf_model.specs.FlexWellFormed.{IsFlexWellFormed}
use Rattle.rlsf_model.specs.Growth.{Outcome, refused}
use Rattle.rlsf_model.specs.State.{State}
use Rattle.rlsf_model.specs.Terms.{Terms}
use Rattle.rlsf_flex.proofs.OutsideNow.{KeepsOutsideNow-refl}
use Rattle.rlsf_flex.proofs.InnerAllocator.{contents_at}

module _ {S : Type 0} {fllen sllen : ℕ} {terms : S → Terms} {owes : S → List Range → Type 0} where
  -- the source at another value, with the same terms
  pub FlexStandsFor-answered : (x y : S) (d : Allocator) (s : FlexState) → 0 < d.memory.start → HasBytesOf d.memory s.machine
      → IsFlexWellFormed fllen sllen (range_of d.memory) (terms x) s → terms y ≡ terms x → owes y s.pools
      → ((terms x).dealloc ≡ true → Footers d.memory s.pools) → FlexStandsFor fllen sllen terms owes (contents_at d y s)
  FlexStandsFor-answered x y d s nonzero payloads well_formed same owed footers = record {
    nonzero = nonzero;
    payloads = payloads;
    well_formed = subst (λ (e : Terms). IsFlexWellFormed fllen sllen (range_of d.memory) e s) (sym same) well_formed;
    owed = owed;
    footers = λ takes. footers (sym (ap (λ (e : Terms). e.dealloc) same) ∙ takes);
  }

  module _ (v : FlexContents S) (y : S) (f : FlexStandsFor fllen sllen terms owes v) (same : terms y ≡ terms v.source) (owed : owes y v.state.pools) where
    -- the source answered none
    pub FlexStandsFor-refused : FlexStandsFor fllen sllen terms owes (contents_at (allocator_of v) y v.state)
    FlexStandsFor-refused = FlexStandsFor-answered v.source y (allocator_of v) v.state f.nonzero f.payloads f.well_formed same owed f.footers

    -- nothing came
    pub Took-refused : (e : ℕ) → Took fllen sllen terms owes v (contents_at (allocator_of v) y v.state) e refused
    Took-refused e =
        record {
          takes = refl;
          may = tt;
          outside = KeepsOutsideNow-refl v.memory v.state.pools;
          spare = λ a low high one two none. refl;
          stands = FlexStandsFor-refused;
          room = λ more. absurd (false≢true more);
        }

  -- the state after, by its parts' names
  pub Took-named : {v : FlexContents S} {d : Allocator} {y : S} {t : State} {pools ranges : List Range} {kept : Option KeptPool} {e : ℕ} {o : Outcome} → d.state ≡ t
      → ranges ≡ pools
      → Took fllen sllen terms owes v (contents_at d y (record { machine = t; pools = pools; kept = kept })) e o
      → Took fllen sllen terms owes v (contents_at d y (record { machine = d.state; pools = ranges; kept = kept })) e o
  Took-named {v} {d} {y} {t} {pools} {ranges} {kept} {e} {o} state owed took =
      let path : (let s : FlexState = record { machine = t; pools = pools; kept = kept } in s) ≡ record { machine = d.state; pools = ranges; kept = kept } =
      λ i. record { machine = sym state i; pools = sym owed i; kept = kept } in
      subst (λ s. Took fllen sllen terms owes v (contents_at d y s) e o) path took
