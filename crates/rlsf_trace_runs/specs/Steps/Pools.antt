-- Pools in sorted runs, in each of which they are in the order of their addresses.
use Rattle.std.specs.Prelude.{◌≡◌, ℕ, ◌<◌, ◌≤◌, ◌⊎◌, List, Option, Some, None, length, slice_index_or}
use Rattle.rlsf_base.specs.declared.memory.range.Range.{Range}
use Rattle.rlsf_base.specs.Range.{end_of}
use Rattle.rlsf_model.specs.Lists.{IsIn}
use Rattle.rlsf_model.specs.WellFormed.{coverage, itself}

-- pools each of which has an address, and no two of which have the same
pub record ArePoolsApart (pools : List Range) : Type 0 where
  pub some : (p : Range) → IsIn p pools → p.start < end_of p
  pub once : (a : ℕ) → coverage itself pools a ≤ 1

-- no run begins behind the first of two places, up to the second
abbrev pub IsOneRun : List ℕ → ℕ → ℕ → Type 0
IsOneRun firsts i j = (k d : ℕ) → k < length firsts → (slice_index_or firsts k d ≤ i) ⊎ (j < slice_index_or firsts k d)

-- Pools in runs, which begin at these places: the places ascend, and so do the addresses of the pools of a run.
pub record AreInRuns (pools : List Range) (firsts : List ℕ) : Type 0 where
  pub ascending : (k m d : ℕ) → k ≤ m → m < length firsts → slice_index_or firsts k d ≤ slice_index_or firsts m d
  pub within : (k d : ℕ) → k < length firsts → slice_index_or firsts k d ≤ length pools
  pub in_order : (i j : ℕ) (d : Range) → i < j → j < length pools → IsOneRun firsts i j
      → (slice_index_or pools i d).start ≤ (slice_index_or pools j d).start

-- A run begins at a place, among these or behind them, up to the length. Each former run that begins before it is left.
pub record BeginsRun (old new : List ℕ) (len first : ℕ) : Type 0 where
  pub ascending : (k m d : ℕ) → k ≤ m → m < length new → slice_index_or new k d ≤ slice_index_or new m d
  pub within : first ≤ len
  pub last : (k d : ℕ) → k < length new → slice_index_or new k d ≤ first
  pub begins : (first ≡ 0) ⊎ ((k : ℕ) × (k < length new) × ((d : ℕ) → slice_index_or new k d ≡ first))
  pub left : (k : ℕ) → k < length old
      → ((d : ℕ) → first ≤ slice_index_or old k d) ⊎ ((m : ℕ) × (m < length new) × ((d : ℕ) → slice_index_or new m d ≡ slice_index_or old k d))

-- the place of the last pool, among so many, that begins before an address; or none of them does
abbrev pub IsLastBegun : List Range → ℕ → ℕ → Option ℕ → Type 0
IsLastBegun pools count addr None = (k : ℕ) (d : Range) → k < count → addr ≤ (slice_index_or pools k d).start
IsLastBegun pools count addr (Some place) =
    (place < count) × ((d : Range) → (slice_index_or pools place d).start < addr)
    × ((k : ℕ) (d : Range) → k < count → (slice_index_or pools k d).start < addr → (slice_index_or pools k d).start ≤ (slice_index_or pools place d).start)

-- all pools in the order of their addresses: none is empty, and each ends where the later ones begin or before
pub record AreInAddressOrder (pools : List Range) : Type 0 where
  pub some : (i : ℕ) (d : Range) → i < length pools → (slice_index_or pools i d).start < end_of (slice_index_or pools i d)
  pub apart : (i j : ℕ) (d : Range) → i < j → j < length pools → end_of (slice_index_or pools i d) ≤ (slice_index_or pools j d).start

-- the pool at a place ends at an address
abbrev pub EndsAt : List Range → ℕ → ℕ → Type 0
EndsAt pools i addr = (i < length pools) × ((d : Range) → end_of (slice_index_or pools i d) ≡ addr)
