-- What calls on a memory make of it: it is new, or bytes leave it, come back or are copied within it.
use Rattle.std.specs.Prelude.{◌≡◌, ℕ, ◌≤◌, [], List, length, replicate}
use Rattle.rlsf_base.specs.declared.memory.range.Range.{Range}
use Rattle.rlsf_base.specs.Changes.{IsAllOwn}
use Rattle.rlsf_base.specs.OpenSpace.{HasUnits, IsHere, IsOwned, StaysHere, StaysHereBeside, StaysOwnBeside, home_of}
use Rattle.rlsf_base.specs.Out.{Change}
use Rattle.rlsf_base.specs.Piece.{HasStatesOf, IsFull, Piece, piece_range}
use Rattle.rlsf_base.specs.Range.{AreApart}
use Rattle.rlsf_base.specs.Space.{Space, bytes_in, range_of}

-- a new memory of so many bytes from an address on, each of which may be raw
pub record IsReservedMemory (m : Space) (from size : ℕ) : Type 0 where
  -- it begins there
  pub start : m.start ≡ from
  -- it has so many bytes
  pub len : length m.bytes ≡ size
  -- nothing is counted yet
  pub counts : (m.touches ≡ 0) × (m.copied ≡ 0)
  -- each byte is its own
  pub own : IsAllOwn m.out
  -- it has units of 16 bytes
  pub units : HasUnits m

-- a new memory of so many zeros from an address on
pub record IsZeroed (m : Space) (from size : ℕ) : Type 0 where
  -- it begins there
  pub start : m.start ≡ from
  -- these are its bytes
  pub bytes : m.bytes ≡ replicate size 0
  -- nothing is counted yet
  pub counts : (m.touches ≡ 0) × (m.copied ≡ 0)
  -- no byte is out or raw
  pub out : m.out ≡ []
  -- each byte is here
  pub here : IsHere m (range_of m)
  -- and its own
  pub own : IsAllOwn m.out
  -- it has units of 16 bytes
  pub units : HasUnits m

-- the same memory, with these values, of which these left it or came back
pub record IsSpaceWith (m n : Space) (values : List ℕ) (changes : List Change) : Type 0 where
  -- it begins where it began
  pub start : n.start ≡ m.start
  -- in the same block
  pub view : n.view ≡ m.view
  -- these are its bytes
  pub bytes : n.bytes ≡ values
  -- these left it or came back
  pub out : n.out ≡ changes

-- no word access and no copied byte is counted
abbrev pub CountsNothing : Space → Space → Type 0
CountsNothing m n = (n.touches ≡ m.touches) × (n.copied ≡ m.copied)

-- the bytes beside a range stay
pub record StaysBeside (m n : Space) (r : Range) : Type 0 where
  -- each that is here is here
  pub here : StaysHereBeside m n r
  -- each that is the memory's own is its own
  pub own : StaysOwnBeside m n r

-- a part has the bytes that a memory has in a range
pub record IsTakenOut (m : Space) (range : Range) (p : Piece) : Type 0 where
  -- it left this memory
  pub home : p.home ≡ home_of m
  -- there
  pub start : p.start ≡ range.start
  -- with these bytes
  pub bytes : p.bytes ≡ bytes_in m range
  -- so many
  pub len : length p.bytes ≡ range.len
  -- each is here or raw, as it was
  pub kept : HasStatesOf m range p
  -- where all were here, they are here
  pub full : IsHere m range → IsFull p

-- the bytes of a part are back in their memory
pub record IsPutBack (m n : Space) (p : Piece) : Type 0 where
  -- it is as long as it was
  pub len : length n.bytes ≡ length m.bytes
  -- they are here
  pub here : IsHere n (piece_range p)
  -- and its own
  pub own : IsOwned n (piece_range p)
  -- with their values
  pub values : bytes_in n (piece_range p) ≡ p.bytes
  -- the others are as they were
  pub others : (q : Range) → m.start ≤ q.start → AreApart (piece_range p) q → bytes_in n q ≡ bytes_in m q
  -- what is here stays here
  pub stays : StaysHere m n
  -- and what is its own beside them stays its own
  pub own_beside : StaysOwnBeside m n (piece_range p)
