-- What leaves the bytes outside of the outstanding ranges, where no range is returned.
use Rattle.std.proofs.Common.{ℕ, ◌≤◌, Bool, List, arith, refl}
use Rattle.rlsf_base.specs.declared.memory.range.Range.{Range}
use Rattle.rlsf_base.specs.Space.{Space, SamePlace}
use Rattle.rlsf_blocks.specs.Spare.{IsSpare, KeepsSpare}
use Rattle.rlsf_flex.specs.Steps.Footing.{IsFooted}
use Rattle.rlsf_flex.specs.Outside.{IsOutside}
use Rattle.rlsf_flex.specs.StandsFor.{FlexContents, FlexStandsFor, with_allocator}
use Rattle.rlsf_flex.specs.Steps.Outside.{KeepsOutsideNow}
use Rattle.rlsf_tlsf.specs.Allocator.{Allocator}
use Rattle.rlsf_model.specs.FlexWellFormed.{AreHoused}
use Rattle.rlsf_model.specs.Lists.{IsIn}
use Rattle.rlsf_model.specs.State.{State}
use Rattle.rlsf_model.specs.Terms.{Terms}
use Rattle.rlsf_model.proofs.RangesInChunks.{coverage-in}
use Rattle.rlsf_flex.proofs.Places.{SamePlace-refl, SamePlace-then}

-- a byte outside of the ranges that house all chunks is spare
pub outside_spare : (pools : List Range) (s : State) → AreHoused pools s.chunks → (a : ℕ) → IsOutside pools a → IsSpare s a
outside_spare pools s housed a none c i from to =
    let (p, j, starts, ends) = housed c i in
    omega (arith, coverage-in p pools a j (omega arith) (omega arith), none)

pub KeepsOutsideNow-refl : (m : Space) (pools : List Range) → KeepsOutsideNow m pools m pools
KeepsOutsideNow-refl m pools = record { place = SamePlace-refl m; only_more = λ a none. none; bytes = λ a low high none. refl }

-- what keeps spare bytes keeps those outside of the ranges that house all chunks
pub KeepsOutsideNow-spare : (m n : Space) (s t : State) (before after : List Range) → AreHoused before s.chunks → AreHoused after t.chunks
    → ((a : ℕ) → IsOutside after a → IsOutside before a)
    → SamePlace m n → KeepsSpare m s n t → KeepsOutsideNow m before n after
KeepsOutsideNow-spare m n s t before after housed_before housed_after more place keeps = record {
  place = place;
  only_more = more;
  bytes = λ a low high none. keeps a low high (outside_spare before s housed_before a (more a none)) (outside_spare after t housed_after a none);
}

-- so a step between states with the same ranges keeps them
pub KeepsOutsideNow-stands : {S : Type 0} {fllen sllen : ℕ} {terms : S → Terms} {owes : S → List Range → Type 0} {v : FlexContents S} {new : Allocator}
    → FlexStandsFor fllen sllen terms owes v → FlexStandsFor fllen sllen terms owes (with_allocator v new) → SamePlace v.memory new.memory
    → KeepsSpare v.memory v.state.machine new.memory new.state
    → KeepsOutsideNow v.memory v.state.pools new.memory v.state.pools
KeepsOutsideNow-stands {v = v} {new = new} before after place keeps =
    KeepsOutsideNow-spare v.memory new.memory v.state.machine new.state v.state.pools v.state.pools before.well_formed.housed after.well_formed.housed (λ a none. none) place keeps

-- one after the other
pub KeepsOutsideNow-then : (m n o : Space) (first second third : List Range) → KeepsOutsideNow m first n second → KeepsOutsideNow n second o third
    → KeepsOutsideNow m first o third
KeepsOutsideNow-then m n o first second third one two = grind (arith, SamePlace-then)

-- a footer that is written lies in its range
pub KeepsOutsideNow-footed : (takes_back : Bool) (m n : Space) (r : Range) (start len : ℕ) (before after : List Range) → IsIn r after → 64 ≤ r.len
    → ((a : ℕ) → IsOutside after a → IsOutside before a)
    → IsFooted takes_back m n r start len → KeepsOutsideNow m before n after
KeepsOutsideNow-footed takes_back m n r start len before after i long more foot = grind (arith, coverage-in)
