-- Bytes that left a memory, as contracts see them.
use Rattle.std.specs.Prelude.{◌≡◌, ℕ, ◌+◌, ◌-◌, ◌%◌, ◌^◌, ◌<◌, ◌≤◌, List, length}
use Rattle.rlsf_base.specs.declared.memory.range.Range.{Range}
use Rattle.rlsf_base.specs.declared.memory.view.View.{View}
use Rattle.rlsf_base.specs.declared.memory.block.Bytes.{Bytes}
use Rattle.rlsf_base.specs.Out.{Change, kept_at}
use Rattle.rlsf_base.specs.Changes.{AreBytesHere, IsOwn}
use Rattle.rlsf_base.specs.Range.{LiesIn, range_at}
use Rattle.rlsf_base.specs.OpenSpace.{Home, place_in}
use Rattle.rlsf_base.specs.Space.{Space, out_at}
use Rattle.rlsf_base.specs.Steps.Block.{start_of}
use Rattle.rlsf_base.specs.Steps.Ownership.{bytes_own, units_in}
use Rattle.std.specs.Borrow.{Fml}

-- a part: the memory that it left, where it begins there, its bytes, and the changes of their states
pub record Piece : Type 0 where
  pub home : Home
  pub start : ℕ
  pub bytes : List ℕ
  pub out : List Change

-- the addresses of a part
abbrev pub piece_range : Piece → Range
piece_range p = range_at p.start (length p.bytes)

-- which memory it is, by the view of it, the place of its first byte in the block, and its length
abbrev pub home_from : View → ℕ × ℕ → Home
home_from view of = record { start = start_of view.shift of.0; len = of.1; view = view }

-- each byte of a part is here
abbrev pub IsFull : Piece → Type 0
IsFull p = AreBytesHere p.out 0 (length p.bytes)

-- each byte of a part has the state that it has in a memory, from the range's start on
unfoldable pub HasStatesOf : Space → Range → Piece → Type 0
HasStatesOf m r p = (k : ℕ) → k < r.len → kept_at p.out k ≡ out_at m (r.start + k)

-- what the fields of a part say of each other
pub record IsPiece (view : View) (range : Range) (bytes : Bytes) : Type 0 where
  pub lies : LiesIn range (home_from view bytes.of).start bytes.of.1
  pub first : bytes.of.0 ≤ 15
  pub place : (view.base.ptr ≡ bytes.at) × (bytes.skip ≡ (view.shift + range.start) % 2 ^ 64) × (bytes.units ≡ units_in view.shift bytes.of.0 bytes.of.1)
  pub whole : (length bytes.bytes ≡ range.len) × IsOwn bytes.out 0 (length bytes.bytes)
  pub small : bytes.skip + range.len < 2 ^ 63

-- the owner of a part's bytes
abbrev pub HasPartBytes : Piece → Bytes → Type 0
HasPartBytes p b = IsPiece p.home.view (piece_range p) b × (home_from p.home.view b.of ≡ p.home) × (b.bytes ≡ p.bytes) × (b.out ≡ p.out)

-- the part with these fields
abbrev pub IsPieceOf : View → Range → Bytes → Piece → Type 0
IsPieceOf view range b p = p ≡ record { home = home_from view b.of; start = range.start; bytes = b.bytes; out = b.out }

-- the place in the block of a memory's first byte
abbrev pub first_place : Home → ℕ
first_place h = h.start - (2 ^ 64 - h.view.shift) % 2 ^ 64

-- what a part owns: its bytes, each as it is kept, and the ways of their units
abbrev pub piece_owns : Piece → Fml
piece_owns p = bytes_own p.home.view.base.ptr (place_in p.home.view p.start) p.bytes p.out (units_in p.home.view.shift (first_place p.home) p.home.len)

-- what a part owned can be made a part again, by a view of the memory and its addresses
pub record CanCome (p : Piece) (view : View) (range : Range) : Type 0 where
  pub viewed : p.home.view ≡ view
  pub placed : piece_range p ≡ range
  pub lies : LiesIn (piece_range p) p.home.start p.home.len
  pub first : (first_place p.home ≤ 15) × (p.home.start ≡ start_of p.home.view.shift (first_place p.home))
  pub owned : IsOwn p.out 0 (length p.bytes)
  pub small : place_in p.home.view p.start + length p.bytes < 2 ^ 63

-- a range begins and ends at a multiple of 16
abbrev pub IsUnits : Range → Type 0
IsUnits r = (r.start % 16 ≡ 0) × (r.len % 16 ≡ 0)
