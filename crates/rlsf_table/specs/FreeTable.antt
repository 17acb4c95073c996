-- The free blocks by classes, as their words and the class table have them.
use Rattle.std.specs.Prelude.{◌≡◌, ℕ, ◌+◌, ◌^◌, ◌<◌, ◌≤◌, List, ◌∷◌, ◌++◌, length, Option, None, Some, MatchOption}
use Rattle.rlsf_base.specs.declared.memory.range.Range.{Range}
use Rattle.rlsf_model_sizes.specs.SizeClass.{IsAtMost, class_of, class_at}
use Rattle.rlsf_base.specs.Space.{Space, word_at}
use Rattle.rlsf_model.specs.Allocate.{choice}
use Rattle.rlsf_model.specs.Lists.{IsIn}
use Rattle.rlsf_model.specs.WellFormed.{coverage, itself, IsFree}
use Rattle.rlsf_table.specs.declared.fit.FoundBlock.{FoundBlock}
use Rattle.rlsf_table.specs.declared.table.ClassIndex.{ClassIndex}
use Rattle.rlsf_table.specs.Rewrites.{IsLink, CanBeBlock, Rewrites}
use Rattle.rlsf_table.specs.Table.{Table, HasBits, HasTable, IsClassAt, IsHeadOf, IsNewestAt}

-- the free blocks are those of a list, none of which overlap, each of a valid class and with its size word; and addresses fit in a word
pub record IsFreeTable (fllen sllen : ℕ) (m : Space) (t : Table) (free : List Range) : Type 0 where
  pub table : HasTable fllen sllen m t free
  pub blocks : (f : Range) → IsIn f free → IsFree fllen sllen f
  pub placed : (f : Range) → IsIn f free → CanBeBlock m f
  pub apart : (a : ℕ) → coverage itself free a ≤ 1
  pub sizes : (f : Range) → IsIn f free → word_at m f.start ≡ f.len
  pub addressable : m.start + length m.bytes < 2 ^ 64

-- a range can become a free block beside those of a list
pub record IsRoom (fllen sllen : ℕ) (m : Space) (t : Table) (free : List Range) (r : Range) : Type 0 where
  pub list : IsFreeTable fllen sllen m t free
  pub block : IsFree fllen sllen r
  pub placed : CanBeBlock m r
  pub apart : (a : ℕ) → coverage itself (r ∷ free) a ≤ 1

-- this is true of each list of free blocks beside which so many bytes at the address can become one, and of these bytes
abbrev pub AtEachRoom : ℕ → ℕ → Space → Table → ℕ → ℕ → (Range → List Range → Type 0) → Type 0
AtEachRoom fllen sllen m t block len P = (r : Range) (free : List Range) → r.start ≡ block → r.len ≡ len → IsRoom fllen sllen m t free r → P r free

-- this is true of each list of free blocks that has one of so many bytes at the address: of that block, those before it and those behind it
abbrev pub AtEachListed : ℕ → ℕ → Space → Table → ℕ → ℕ → (Range → List Range → List Range → Type 0) → Type 0
AtEachListed fllen sllen m t block len P = (r : Range) (before after : List Range) → r.start ≡ block → r.len ≡ len → IsFreeTable fllen sllen m t (before ++ (r ∷ after))
    → P r before after

-- the same where the block at the address is the newest of the class at two indices
abbrev pub AtEachNewest : ℕ → ℕ → Space → Table → ℕ → ℕ → ℕ → (Range → List Range → List Range → Type 0) → Type 0
AtEachNewest fllen sllen m t block fl sl P = (r : Range) (before after : List Range) → r.start ≡ block → IsNewestAt fllen sllen r before fl sl
    → IsFreeTable fllen sllen m t (before ++ (r ∷ after)) → P r before after

-- some list of free blocks has one at the address, the newest of the class at two indices
abbrev pub HasNewest : ℕ → ℕ → Space → Table → ℕ → ℕ → ℕ → Type 0
HasNewest fllen sllen m t block fl sl = (r : Range) × (before after : List Range) × (r.start ≡ block) × IsNewestAt fllen sllen r before fl sl
    × IsFreeTable fllen sllen m t (before ++ (r ∷ after))

-- the block is the newest free one, and no words were written but links of free blocks
abbrev pub IsNewestFree : ℕ → ℕ → Space → Space → Table → Range → List Range → Type 0
IsNewestFree fllen sllen m n t r free = HasTable fllen sllen n t (r ∷ free) × Rewrites m n (IsLink (r ∷ free))

-- the block is no free one any more, and no words were written but links of blocks that were free
abbrev pub IsUnlinked : ℕ → ℕ → Space → Space → Table → Range → List Range → List Range → Type 0
IsUnlinked fllen sllen m n t r before after = HasTable fllen sllen n t (before ++ after) × Rewrites m n (IsLink (before ++ (r ∷ after)))

-- The bits of a list were those of the table t. Those of the table u are the bits without a range of the class at two
-- indices, where the class's head is set
abbrev pub HasBitsWithout : ℕ → ℕ → Table → Table → ℕ → ℕ → ℕ → Type 0
HasBitsWithout fllen sllen t u fl sl head = (r : Range) (before after : List Range) → class_of sllen r.len ≡ class_at fl sl → IsHeadOf sllen fl sl head (before ++ after)
    → HasBits fllen sllen t (before ++ (r ∷ after)) → HasBits fllen sllen u (before ++ after)

-- what a search for a size returns: where the choice begins, and its class, or nothing if there is no choice
abbrev pub IsFirstFit : ℕ → ℕ → ℕ → List Range → Option FoundBlock → Type 0
IsFirstFit fllen sllen size free answer = MatchOption answer (choice sllen size free ≡ None)
    (λ found. (f : Range) × (choice sllen size free ≡ Some f) × (f.start ≡ found.start) × IsClassAt fllen sllen f.len found.class.fl found.class.sl)

-- the least class from two indices on that some of the ranges have, or none if they have no class from there on
abbrev pub IsLeastFrom : ℕ → ℕ → ℕ → ℕ → List Range → Option ClassIndex → Type 0
IsLeastFrom fllen sllen fl sl free None = (f : Range) → IsIn f free → ¬ IsAtMost (class_at fl sl) (class_of sllen f.len)
IsLeastFrom fllen sllen fl sl free (Some at) =
    (at.fl < fllen) × (at.sl < sllen)
    × IsAtMost (class_at fl sl) (class_at at.fl at.sl)
    × ((f : Range) × IsIn f free × (class_of sllen f.len ≡ class_at at.fl at.sl))
    × ((f : Range) → IsIn f free → IsAtMost (class_at fl sl) (class_of sllen f.len) → IsAtMost (class_at at.fl at.sl) (class_of sllen f.len))
