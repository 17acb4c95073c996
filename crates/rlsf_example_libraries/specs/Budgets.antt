-- Pools that are sure to have room for a number of lists of bytes up to a length.
use Rattle.std.specs.Prelude.{◌≡◌, ℕ, ◌≤◌, List, [], ◌∷◌, length, Some}
use Rattle.std.specs.List.{AllByRecursion}
use Rattle.rlsf_base.specs.declared.memory.range.Range.{Range}
use Rattle.rlsf_base.specs.Layout.{IsLayout}
use Rattle.rlsf_model_sizes.specs.Sizes.{pool_size_for_payloads, request_size}
use Rattle.rlsf_base.specs.Space.{range_of}
use Rattle.rlsf_model.specs.Budget.{HasBudget}
use Rattle.rlsf_model.specs.Insert.{aligned_part}
use Rattle.rlsf_example_libraries.specs.Handled.{Handled}
use Rattle.rlsf_example_libraries.specs.Stored.{KeepsAt, Place, StoreContents}
use Rattle.rlsf_example_libraries.specs.Strings.{Texts}

-- a pool of a memory never refuses a payload up to this layout while `count` or fewer live: its aligned part is as long as
-- the length that `classes::pool_size_for_payloads` computes
abbrev pub FitsPayloads : Range → ℕ → ℕ → ℕ → Type 0
FitsPayloads memory count size align =
    IsLayout size align × ((e : ℕ) × (pool_size_for_payloads 59 8 count size align ≡ Some e) × (e ≤ (aligned_part memory).len))

-- a pool of a memory has the bytes for `live` blocks of payloads up to this layout, and one more
abbrev pub HasBytesFor : Range → ℕ → ℕ → ℕ → Type 0
HasBytesFor memory live size align = HasBudget live (request_size size align) 8 (aligned_part memory ∷ [])

-- a store keeps `live` lists of bytes or fewer, none of which is longer than the layout's size, all with its alignment, and
-- its pool has the bytes for one more
pub record HasBudgetFor (v : StoreContents) (places : List Place) (live size align : ℕ) : Type 0 where
  pub has : KeepsAt v places
  pub few : length places ≤ live
  pub layout : IsLayout size align
  pub small : AllByRecursion (λ p. (p.len ≤ size) × (p.align ≡ align)) places
  pub bytes : HasBytesFor (range_of v.heap.memory) live size align

-- the lists of bytes by their handles are within such bounds
pub record HasBudgetOf (h : Handled) (live size : ℕ) : Type 0 where
  pub few : length h.lists ≤ live
  pub layout : IsLayout size h.align
  pub small : AllByRecursion (λ e. length e.1 ≤ size) h.lists
  pub bytes : HasBytesFor h.memory live size h.align

-- there are at most `count` strings, none is longer than `longest` bytes, and their memory has room for `count` of that length
pub record AreFewStrings (t : Texts) (count longest : ℕ) : Type 0 where
  pub few : length t.strings ≤ count
  pub short : AllByRecursion (λ e. length e.1 ≤ longest) t.strings
  pub fits : FitsPayloads t.memory count longest 1
