-- An allocator that asked for nothing yet represents the empty state.
use Rattle.std.proofs.Common.{◌≡◌, ℕ, List, [], length, sym, subst}
use Rattle.rlsf_base.specs.declared.memory.range.Range.{Range}
use Rattle.rlsf_base.specs.Range.{LiesIn}
use Rattle.rlsf_base.specs.Space.{Space, range_of}
use Rattle.rlsf_tlsf.specs.Allocator.{Allocator, IsStanding, Stands}
use Rattle.rlsf_tlsf.proofs.Standing.{in_state}
use Rattle.rlsf_flex.specs.StandsFor.{FlexStandsFor}
use Rattle.rlsf_flex.proofs.InnerAllocator.{contents_at}
use Rattle.rlsf_model.specs.FlexState.{flex_empty}
use Rattle.rlsf_model.specs.State as state
use Rattle.rlsf_model.specs.Terms.{Terms}
use Rattle.rlsf_model.proofs.FlexSteps.{flex_empty_is_well_formed}

pub FlexStandsFor-empty : {S : Type 0} (fllen sllen : ℕ) (terms : S → Terms) (owes : S → List Range → Type 0) (v : Allocator) (m : Space) (x : S)
    → v.state ≡ state.empty → Stands fllen sllen v → v.memory ≡ m
    → owes x [] → LiesIn (terms x).space m.start (length m.bytes) → FlexStandsFor fllen sllen terms owes (contents_at v x flex_empty)
FlexStandsFor-empty fllen sllen terms owes v m x start stands memory owed lies =
    let is : IsStanding fllen sllen v.memory state.empty = subst (IsStanding fllen sllen v.memory) start (in_state fllen sllen v stands).stands in
    record {
      nonzero = is.nonzero;
      payloads = is.payloads;
      well_formed = flex_empty_is_well_formed fllen sllen (range_of v.memory) (terms x) is.well_formed.rows is.well_formed.row_length is.well_formed.addressable
          (subst (λ (m : Space). LiesIn (terms x).space m.start (length m.bytes)) (sym memory) lies);
      owed = owed;
      footers = λ has. tt;
    }
