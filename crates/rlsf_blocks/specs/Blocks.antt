-- The blocks that an iteration over a range returns.
use Rattle.std.specs.Prelude.{◌≡◌, ◌↔◌, ◌%◌, ◌^◌, ◌<◌, ◌≤◌, Bool, true, false, List, [], ◌∷◌, ⊤}
use Rattle.rlsf_base.specs.declared.memory.range.Range.{Range}
use Rattle.rlsf_base.specs.Range.{end_of}
use Rattle.rlsf_model_sizes.specs.Rounding.{round32}
use Rattle.rlsf_model.specs.Lists.{IsIn}
use Rattle.rlsf_model.specs.State.{State, Used, between}

-- a block of a pool: its range, and whether it is used
pub record Block : Type 0 where
  pub range : Range
  pub is_occupied : Bool

-- a block is a nonempty multiple of 32 bytes, below the greatest address
pub record IsBlock (b : Block) : Type 0 where
  pub len : b.range.len % 32 ≡ 0
  pub some : 0 < b.range.len
  pub addressable : end_of b.range < 2 ^ 64

-- the state has the block, which is used or free
pub data HasBlock (s : State) (b : Block) : Type 0 where
  used : (u : Used) → IsIn u s.used → b.range ≡ u.block → b.is_occupied ≡ true → HasBlock s b
  free : IsIn b.range s.free → b.is_occupied ≡ false → HasBlock s b

-- the part of a range that is iterated over: from its start rounded up to a multiple of 32 to its end
abbrev pub walked : Range → Range
walked r = between (round32 r.start) (end_of r)

-- each block ends where the later ones begin, or before
abbrev pub IsInOrder : List Block → Type 0
IsInOrder [] = ⊤
IsInOrder (b ∷ bs) = ((c : Block) → IsIn c bs → end_of b.range ≤ c.range.start) × IsInOrder bs

-- the list is that of the blocks of the state which lie in the range, in the order of their addresses
pub record AreBlocks (s : State) (r : Range) (bs : List Block) : Type 0 where
  pub exactly : (b : Block) → IsIn b bs ↔ (HasBlock s b × (r.start ≤ b.range.start) × (end_of b.range ≤ end_of r))
  pub in_order : IsInOrder bs
