-- A memory stays at its place through several changes. If nothing is out, each byte is here before and after them.
use Rattle.std.proofs.Common.{◌≡◌, ℕ, [], refl, sym, ◌∙◌}
use Rattle.rlsf_base.proofs.Lending.Present.{out-same}
use Rattle.rlsf_base.specs.Space.{SamePlace, Space, out_at}

pub SamePlace-refl : (m : Space) → SamePlace m m
SamePlace-refl m = (refl, refl, refl, λ none. none)

-- one after the other
pub SamePlace-then : (l m n : Space) → SamePlace l m → SamePlace m n → SamePlace l n
SamePlace-then l m n one two = (two.0 ∙ one.0, two.1 ∙ one.1, two.2 ∙ one.2, λ none. two.3 (one.3 none))

-- where nothing is out, each byte is here, as it was
pub out_at-place : (m n : Space) → SamePlace m n → m.out ≡ [] → (a : ℕ) → out_at n a ≡ out_at m a
out_at-place m n place none a = out-same m n a place.0 (place.3 none ∙ sym none)
