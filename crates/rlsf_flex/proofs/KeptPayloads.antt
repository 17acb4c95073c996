-- Growth leaves the payloads, one after another.
use Rattle.std.proofs.Common.{◌≡◌, ◌≤◌, ℕ, arith, refl}
use Rattle.rlsf_base.specs.Space.{SamePlace}
use Rattle.rlsf_tlsf.specs.Allocator.{Allocator}
use Rattle.rlsf_flex.specs.Steps.Growth.{HasSamePayloads}
use Rattle.rlsf_flex.proofs.Places.{SamePlace-refl, SamePlace-then}

-- nothing was done
pub HasSamePayloads-refl : {sllen : ℕ} (v : Allocator) → HasSamePayloads sllen v v
HasSamePayloads-refl v =
    record { aligns = refl; bytes = refl; count = refl; bounds = λ count size align sized. sized; place = SamePlace-refl v.memory; grow = omega arith; copied = refl }

-- the state stayed
pub HasSamePayloads-same : {sllen : ℕ} (v w : Allocator) → w.state ≡ v.state → SamePlace v.memory w.memory → v.memory.touches ≤ w.memory.touches
    → w.memory.copied ≡ v.memory.copied → HasSamePayloads sllen v w
HasSamePayloads-same {sllen} v w same place grow copied = grind arith

-- one growth and then another
pub HasSamePayloads-trans : {sllen : ℕ} (u v w : Allocator) → HasSamePayloads sllen u v → HasSamePayloads sllen v w → HasSamePayloads sllen u w
HasSamePayloads-trans u v w first second = grind (arith, SamePlace-then)
