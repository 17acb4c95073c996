-- A used block becomes free: what its neighbours are, and the words once it is joined to them.
use Rattle.std.specs.Prelude.{◌≡◌, ◌↔◌, ℕ, ◌+◌, ◌%◌, List, ◌∷◌, find}
use Rattle.std.specs.Option.{option_map_or}
use Rattle.rlsf_base.specs.declared.memory.range.Range.{Range}
use Rattle.rlsf_base.specs.Range.{end_of}
use Rattle.rlsf_base.specs.Space.{Space, word_at}
use Rattle.rlsf_base.specs.OpenSpace.{IsReadable}
use Rattle.rlsf_table.specs.Rewrites.{IsLink, Rewrites}
use Rattle.rlsf_table.specs.FreeTable.{IsFreeTable}
use Rattle.rlsf_table.specs.Table.{Table, HasTable}
use Rattle.rlsf_blocks.specs.Steps.Touched.{Touched}
use Rattle.rlsf_model.specs.Join.{ends_at, starts_at}
use Rattle.rlsf_model.specs.Lists.{IsIn, without}
use Rattle.rlsf_model.specs.State.{between}

-- a free block begins at the address
abbrev pub FreeBlockBegins : List Range → ℕ → Type 0
FreeBlockBegins free a = (f : Range) × IsIn f free × (f.start ≡ a)

-- the word at the address is even exactly if a free block begins there
pub record IsMarked (m : Space) (free : List Range) (a : ℕ) : Type 0 where
  pub word : IsReadable m a
  pub mark : (word_at m a % 2 ≡ 0) ↔ FreeBlockBegins free a

-- this is true of each list of free blocks that memory and table have, if the word at the address is marked by it
abbrev pub AtEachMarked : ℕ → ℕ → Space → Table → ℕ → (List Range → Type 0) → Type 0
AtEachMarked fllen sllen m t a P = (free : List Range) → IsFreeTable fllen sllen m t free → IsMarked m free a → P free

-- the table without the block that begins at an address, if there is one, and its length, or 0
pub record IsNextOut (fllen sllen : ℕ) (m n : Space) (t : Table) (free : List Range) (a len : ℕ) : Type 0 where
  pub rewrites : Rewrites m n (IsLink free)
  pub list : IsFreeTable fllen sllen n t (without (starts_at a) free)
  pub end : a + len ≡ option_map_or end_of (find (starts_at a) free) a

-- where the free range before an address begins, or that address where there is none
abbrev pub previous_start : ℕ → List Range → ℕ
previous_start a free = option_map_or (λ f. f.start) (find (ends_at a) free) a

-- the table without the block that ends at an address, if there is one, and where that begins, or the address
pub record IsPreviousOut (fllen sllen : ℕ) (m n : Space) (t : Table) (free : List Range) (a start : ℕ) : Type 0 where
  pub rewrites : Rewrites m n (IsLink free)
  pub list : IsFreeTable fllen sllen n t (without (ends_at a) free)
  pub begins : start ≡ previous_start a free

-- the words of a new free block, put in front of its class; the word that names the block before it stays
pub record IsNewFreeBlock (fllen sllen : ℕ) (m n : Space) (t : Table) (free : List Range) (r : Range) : Type 0 where
  pub rewrites : Rewrites m n (Touched free r (end_of r + 8))
  pub size : word_at n r.start ≡ r.len
  pub first : word_at n (r.start + 8) ≡ word_at m (r.start + 8)
  pub behind : word_at n (end_of r + 8) ≡ r.start
  pub table : HasTable fllen sllen n t (r ∷ free)

-- the union of a range with the free ranges that adjoin it
abbrev pub union : Range → List Range → Range
union r free = between (previous_start r.start free) (option_map_or end_of (find (starts_at (end_of r)) (without (ends_at r.start) free)) (end_of r))

-- the free ranges that don't adjoin it
abbrev pub untouched : Range → List Range → List Range
untouched r free = without (starts_at (end_of r)) (without (ends_at r.start) free)
