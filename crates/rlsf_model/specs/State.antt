-- The state of the reference model.
use Rattle.std.specs.Prelude.{◌≡◌, ◌↔◌, ℕ, ◌-◌, List, [], ◌==◌, if◌then◌else◌, not, filter, map}
use Rattle.rlsf_base.specs.declared.memory.range.Range.{Range}
use Rattle.rlsf_base.specs.Range.{end_of, range_at}
use Rattle.rlsf_model.specs.Lists.{IsIn}

-- a used block: its range, the address that its caller has, the requested alignment, and the bytes from that address to the
-- block's end
pub record Used : Type 0 where
  pub block : Range
  pub payload : ℕ
  pub align : ℕ
  pub bytes : List ℕ

-- The chunks, the used blocks, and the free ranges with the newest first.
-- The order of `chunks` and of `used` means nothing. The definitions only ask which elements these lists have, and how many of
-- their ranges have an address. Where they seek an element, a well-formed state has only one.
pub record State : Type 0 where
  pub chunks : List Range
  pub used : List Used
  pub free : List Range

-- the state before any range is inserted
abbrev pub empty : State
empty = record { chunks = []; used = []; free = [] }

-- the range from one address up to another
abbrev pub between : ℕ → ℕ → Range
between low high = range_at low (high - low)

-- the bytes from the payload's address up to the block's end, all of which the caller may use
abbrev pub usable : Used → Range
usable u = between u.payload (end_of u.block)

-- the used block u is the one whose caller has the address
abbrev pub Holds : State → ℕ → Used → Type 0
Holds s addr u = IsIn u s.used × (u.payload ≡ addr)

-- some used block has the address, and that alignment
abbrev pub IsLive : State → ℕ → ℕ → Type 0
IsLive s addr align = (u : Used) × Holds s addr u × (u.align ≡ align)

-- some used block has the address, and these bytes
abbrev pub HasBytes : State → ℕ → List ℕ → Type 0
HasBytes s addr bytes = (u : Used) × Holds s addr u × (u.bytes ≡ bytes)

-- the used blocks except for the one at an address
abbrev pub others : ℕ → List Used → List Used
others addr used = filter (λ u. not (u.payload == addr)) used

-- the state with these bytes in the used block whose caller has the address, and all others as they are
abbrev pub filled : State → ℕ → List ℕ → State
filled s addr bytes = record {
  chunks = s.chunks;
  used = map (λ (u : Used). if u.payload == addr then record { block = u.block; payload = u.payload; align = u.align; bytes = bytes } else u) s.used;
  free = s.free;
}

-- the range, the payload's address and the alignment of a used block
pub record Shape : Type 0 where
  pub block : Range
  pub payload : ℕ
  pub align : ℕ

-- a used block without its bytes
abbrev pub shape_of : Used → Shape
shape_of u = record { block = u.block; payload = u.payload; align = u.align }

-- two states are alike except for the bytes in used blocks
pub record AreAlike (s t : State) : Type 0 where
  pub chunks : s.chunks ≡ t.chunks
  pub used : map shape_of s.used ≡ map shape_of t.used
  pub free : s.free ≡ t.free

-- two states differ in the order of their chunks and of their used blocks alone
pub record IsReordered (s t : State) : Type 0 where
  pub chunks : (c : Range) → IsIn c s.chunks ↔ IsIn c t.chunks
  pub used : (u : Used) → IsIn u s.used ↔ IsIn u t.used
  pub free : s.free ≡ t.free

-- two states are alike except for bytes and for the order of their chunks and of their used blocks
pub record AreSimilar (s t : State) : Type 0 where
  pub chunks : (c : Range) → IsIn c s.chunks ↔ IsIn c t.chunks
  pub used : (h : Shape) → IsIn h (map shape_of s.used) ↔ IsIn h (map shape_of t.used)
  pub free : s.free ≡ t.free
