-- The list of one class, as the functions that write its links have it.
use Rattle.std.specs.Prelude.{◌≡◌, ◌≢◌, ℕ, ◌+◌, ◌^◌, ◌<◌, ◌≤◌, ◌==◌, List, ◌∷◌, ◌++◌, length, if◌then◌else◌}
use Rattle.rlsf_base.specs.declared.memory.range.Range.{Range}
use Rattle.rlsf_base.specs.Space.{Space, word_at}
use Rattle.rlsf_model.specs.Lists.{IsIn}
use Rattle.rlsf_model.specs.WellFormed.{coverage, itself}
use Rattle.rlsf_table.specs.FreeList.{Links}
use Rattle.rlsf_table.specs.Rewrites.{IsLink, CanBeBlock, Rewrites}

-- the free blocks from `head` on are those of a list, none of which overlap, each with its size word; and addresses fit in a word
pub record IsFreeList (m : Space) (head : ℕ) (free : List Range) : Type 0 where
  pub links : Links m 0 free head
  pub placed : (f : Range) → IsIn f free → CanBeBlock m f
  pub apart : (a : ℕ) → coverage itself free a ≤ 1
  pub sizes : (f : Range) → IsIn f free → word_at m f.start ≡ f.len
  pub addressable : m.start + length m.bytes < 2 ^ 64

-- this is true of each list of the blocks from `head` on, and of a range at the address that can be added to them
abbrev pub AtEachFront : Space → ℕ → ℕ → (Range → List Range → Type 0) → Type 0
AtEachFront m head block P = (r : Range) (free : List Range) → r.start ≡ block → IsFreeList m head free → CanBeBlock m r
    → ((a : ℕ) → coverage itself (r ∷ free) a ≤ 1) → P r free

-- this is true of each list that has a block at the address: of where it begins, that block, those before it and those behind it
abbrev pub AtEachPlace : Space → ℕ → (ℕ → Range → List Range → List Range → Type 0) → Type 0
AtEachPlace m block P = (head : ℕ) (r : Range) (before after : List Range) → r.start ≡ block → IsFreeList m head (before ++ (r ∷ after)) → P head r before after

-- the blocks from `head` on are those of a list, linked in its order, and no words were written but links of the blocks `written`
abbrev pub IsRelinked : Space → Space → List Range → List Range → ℕ → Type 0
IsRelinked m n written free head = Links n 0 free head × Rewrites m n (IsLink written)

-- how many touches take a block out from between the two that its links name, or from before or behind one, where the other is 0
abbrev pub unlinking_touches : ℕ → ℕ → ℕ
unlinking_touches next previous = (if next == 0 then 0 else 1) + (if previous == 0 then 0 else 1)

-- where a list begins from which a block was taken out: at the next one if none was before it, and else where it began
abbrev pub first_then : ℕ → ℕ → ℕ → ℕ
first_then next previous newest = if previous == 0 then next else newest

-- the block at `first`, or where there is none, that at `block`
pub record IsFirstOrOwn (first block at : ℕ) : Type 0 where
  pub some : first ≢ 0 → at ≡ first
  pub none : first ≡ 0 → at ≡ block
