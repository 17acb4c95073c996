-- What is left of a free block whose front is taken.
use Rattle.std.specs.Prelude.{◌≡◌, ℕ, ◌+◌, ◌%◌, ◌<◌, ◌≤◌, List, ◌∷◌, ◌++◌, length, Option, Some, None, [], find}
use Rattle.rlsf_base.specs.declared.memory.layout.Layout.{Layout}
use Rattle.rlsf_base.specs.declared.memory.range.Range.{Range}
use Rattle.rlsf_base.specs.Range.{end_of, range_at}
use Rattle.rlsf_model_sizes.specs.SizeClass.{class_of}
use Rattle.rlsf_model_sizes.specs.Sizes.{request_size}
use Rattle.rlsf_base.specs.Space.{Space, word_at}
use Rattle.rlsf_base.specs.OpenSpace.{IsOwned}
use Rattle.rlsf_table.specs.Rewrites.{Rewrites}
use Rattle.rlsf_table.specs.FreeTable.{IsRoom}
use Rattle.rlsf_table.specs.Table.{Table, HasTable}
use Rattle.rlsf_blocks.specs.StandsFor.{contents, StandsFor}
use Rattle.rlsf_blocks.specs.Steps.Touched.{Touched}
use Rattle.rlsf_model.specs.Allocate.{choice, has_class, placed, rest_behind}
use Rattle.rlsf_model.specs.Lists.{IsIn, without}
use Rattle.rlsf_model.specs.State.{State, usable}

-- a range can become a free block beside those of a list, with the first words of another block behind it
pub record IsInnerRoom (fllen sllen : ℕ) (m : Space) (t : Table) (free : List Range) (r : Range) : Type 0 where
  pub room : IsRoom fllen sllen m t free r
  pub not_last : end_of r + 16 ≤ m.start + length m.bytes
  pub behind : IsOwned m (range_at (end_of r) 16)

-- this is true of each list of free blocks beside which so many bytes at the address can become one, and of these bytes
abbrev pub AtEachInnerRoom : ℕ → ℕ → Space → Table → ℕ → ℕ → (List Range → Range → Type 0) → Type 0
AtEachInnerRoom fllen sllen m t block len P = (free : List Range) (r : Range) → r.start ≡ block → r.len ≡ len → IsInnerRoom fllen sllen m t free r → P free r

-- This is true of each list of free blocks that a further block can join. That block is what is behind the first `taken` of the `len`
-- bytes at the address
abbrev pub AtEachRest : ℕ → ℕ → Space → Table → ℕ → ℕ → ℕ → (List Range → Range → Type 0) → Type 0
AtEachRest fllen sllen m t block len taken P = (free : List Range) (r : Range) → r.start ≡ block + taken → r.len + taken ≡ len → IsInnerRoom fllen sllen m t free r
    → P free r

-- the words of a new free block behind the block at `block`, put in front of its class
pub record IsFreeBlockBehind (fllen sllen : ℕ) (m n : Space) (t : Table) (free : List Range) (block : ℕ) (r : Range) : Type 0 where
  pub rewrites : Rewrites m n (Touched free r (end_of r + 8))
  pub size : word_at n r.start ≡ r.len
  pub previous : word_at n (r.start + 8) ≡ block
  pub behind : word_at n (end_of r + 8) ≡ r.start
  pub table : HasTable fllen sllen n t (r ∷ free)

-- the first free range of its class gives its first `taken` bytes to a block
pub record IsTaken (sllen : ℕ) (s : State) (f : Range) (block len taken : ℕ) : Type 0 where
  pub found : find (has_class sllen (class_of sllen f.len)) s.free ≡ Some f
  pub start : f.start ≡ block
  pub length : f.len ≡ len
  pub whole : taken % 32 ≡ 0
  pub some : 0 < taken
  pub fits : taken ≤ len

-- this is true of each such range, in each state that memory and table represent
abbrev pub AtEachTaken : ℕ → ℕ → Space → Table → ℕ → ℕ → ℕ → (State → Range → Type 0) → Type 0
AtEachTaken fllen sllen m t block len taken P = (s : State) (f : Range) → StandsFor fllen sllen (contents m t) s → IsTaken sllen s f block len taken → P s f

-- in some state that memory and table represent, the free range at the address is chosen for the layout
abbrev pub IsChosenIn : ℕ → ℕ → Space → Table → Layout → ℕ → Type 0
IsChosenIn fllen sllen m t layout block = (s : State) × (f : Range) × StandsFor fllen sllen (contents m t) s
    × (choice sllen (request_size layout.size layout.align) s.free ≡ Some f) × (f.start ≡ block)

-- this is true of the free range at the address, if it is chosen for the layout, in each state that memory and table represent
abbrev pub AtEachChosen : ℕ → ℕ → Space → Table → Layout → ℕ → (State → Range → Type 0) → Type 0
AtEachChosen fllen sllen m t layout block P = (s : State) (f : Range) → StandsFor fllen sllen (contents m t) s
    → choice sllen (request_size layout.size layout.align) s.free ≡ Some f → f.start ≡ block → P s f

-- this is true of the free range that is chosen for a size and an alignment
abbrev pub AtChoice : ℕ → State → ℕ → ℕ → (Range → Type 0) → Type 0
AtChoice sllen s size align P = (f : Range) → choice sllen (request_size size align) s.free ≡ Some f → P f

-- how many bytes a payload has that is placed in the front of a free range
abbrev pub room_of : Range → ℕ → ℕ → ℕ
room_of f size align = (usable (placed f size align [])).len

-- the address of the first byte of a range, if there is one
abbrev pub range_start : Option Range → Option ℕ
range_start None = None
range_start (Some r) = Some r.start

-- the words once the free range f isn't in the list any more, and what is left of it behind its front is
pub record IsOpened (fllen sllen : ℕ) (m n : Space) (t : Table) (s : State) (f front : Range) : Type 0 where
  pub rewrites : Rewrites m n (Touched s.free f (end_of f + 8))
  pub first : word_at n (f.start + 8) ≡ word_at m (f.start + 8)
  pub behind : word_at n (end_of front + 8) ≡ f.start
  pub rest : (g : Range) → IsIn g (rest_behind front (end_of f)) → (word_at n g.start ≡ g.len) × (word_at n (end_of g + 8) ≡ g.start)
  pub table : HasTable fllen sllen n t (rest_behind front (end_of f) ++ without (has_class sllen (class_of sllen f.len)) s.free)
