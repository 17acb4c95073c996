-- What the owner of a payload needs to read and write it where it lies: its bytes at their pointer, and the way back.
use Rattle.std.specs.Prelude.{◌≡◌, ℕ, List, length}
use Rattle.std.specs.Borrow.{Fml}
use base.Fml.{fsep, fall, fwand}
use Rattle.rlsf_base.specs.OpenSpace.{place_in}
use Rattle.rlsf_tlsf.specs.InPlace.{bytes_from}
use Rattle.rlsf_heap.specs.Heap.{Identity}
use Rattle.rlsf_heap.specs.Thin.{owns_bytes}

-- these bytes lie where those at an address of a heap's memory do
abbrev pub bytes_there : Identity → ℕ → List ℕ → Fml
bytes_there h addr bs = bytes_from h.home.view.base.ptr (place_in h.home.view addr) bs

-- as many bytes as these
abbrev pub AsManyBytes : List ℕ → Type 0
AsManyBytes bs = (ws : List ℕ) × (length ws ≡ length bs)

-- the bytes of a payload; and for all others of their number the way back to the payload with those
abbrev pub LendsBytes : Identity → ℕ → List ℕ → ℕ → Fml
LendsBytes h addr bs align = fsep (bytes_there h addr bs) (fall (AsManyBytes bs) (λ w. fwand (bytes_there h addr w.0) (owns_bytes h addr w.0 align)))
