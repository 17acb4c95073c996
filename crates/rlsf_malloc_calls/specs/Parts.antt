-- The parts of a memory that a heap had.
use Rattle.std.specs.Ptr.{Ptr}
use Rattle.std.specs.Prelude.{◌≡◌, List, length}
use denote.RawPtr.{◌+ₚ◌}
use Rattle.rlsf_base.specs.OpenSpace.{Home, place_in}
use Rattle.rlsf_base.specs.Out.{Change}
use Rattle.rlsf_base.specs.RawParts.{LiesAtBlock}
use Rattle.rlsf_base.specs.declared.memory.block.RawParts.{RawParts}

-- where the first byte of a memory lies
abbrev pub first_of : Home → Ptr
first_of h = h.view.base.ptr +ₚ place_in h.view h.start

-- the parts of a memory, with these changes of its bytes' states, of which P is true
abbrev pub ArePartsOf : Home → List Change → Type 0 → RawParts → Type 0
ArePartsOf h cs P r = (r.base.ptr ≡ first_of h) × (r.start ≡ h.start) × LiesAtBlock r × (length r.bytes.bytes ≡ h.len) × (r.bytes.out ≡ cs) × P
