-- Many live addresses, as a caller keeps them in a list.
use Rattle.std.specs.Prelude.{◌≡◌, ◌≢◌, ℕ, List, [], ◌∷◌, ◌++◌, Some}
use Rattle.std.specs.List.{AllByRecursion}
use Rattle.std.specs.declared.num.NonZeroUsize.{NonZeroUsize}
use Rattle.rlsf_base.specs.Addr.{at}
use Rattle.rlsf_model.specs.Callers.{align_at, bytes_at}
use Rattle.rlsf_model.specs.State.{State}

-- a payload with the alignment is live at each of these addresses, and no two of them are the same
unfoldable pub AreLive : State → ℕ → List NonZeroUsize → Type 0
AreLive s align [] = Unit {0}
AreLive s align (a ∷ rest) = (align_at s (at a) ≡ Some align) × AllByRecursion (λ b. at b ≢ at a) rest × AreLive s align rest

-- the bytes of the payloads at these addresses
unfoldable pub payloads_at : State → List NonZeroUsize → List (List ℕ)
payloads_at s [] = []
payloads_at s (a ∷ rest) = bytes_at s (at a) ∷ payloads_at s rest

-- one more payload is behind these, and it begins with the bytes
unfoldable pub AddsPayload : List (List ℕ) → List ℕ → List (List ℕ) → Type 0
AddsPayload payloads bytes new = (rest : List ℕ) × (new ≡ payloads ++ (bytes ++ rest) ∷ [])
