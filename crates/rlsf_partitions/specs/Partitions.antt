-- Pools of payloads, one for each size of a list.
use Rattle.std.specs.Prelude.{◌≡◌, ⊤, ℕ, zero, suc, ◌+◌, ◌-◌, ◌%◌, ◌^◌, ◌<◌, ◌≤◌, List, [], ◌∷◌, length, map, Option, Some, None}
use Rattle.std.specs.Prelude.{if◌then◌else◌, nat_le, slice_get, slice_set, sum_by}
use Rattle.std.specs.Option.{option_map}
use Rattle.rlsf_base.specs.Layout.{IsLayout}
use Rattle.rlsf_model_sizes.specs.Sizes.{pool_size_for_objects}
use Rattle.rlsf_heap.specs.Heap.{Identity, PayloadView}

-- a pool: which heap its payloads are of, their greatest size, how many have room, how many are live, and its word accesses so far
pub record PartitionView : Type 0 where
  pub identity : Identity
  pub size : ℕ
  pub count : ℕ
  pub live : ℕ
  pub touches : ℕ

-- what callers count: the greatest size of a pool's payloads, how many have room, and how many are live
pub record Quota : Type 0 where
  pub size : ℕ
  pub count : ℕ
  pub live : ℕ

-- pools: their numbers, which heap the payloads of each are of, and the word accesses of all
pub record PartitionsView : Type 0 where
  pub quotas : List Quota
  pub heaps : List Identity
  pub touches : ℕ

-- the numbers of a pool
abbrev pub quota_of : PartitionView → Quota
quota_of p = record { size = p.size; count = p.count; live = p.live }

-- what callers see of pools
abbrev pub partitions_view : List PartitionView → PartitionsView
partitions_view ps = record { quotas = map quota_of ps; heaps = map (λ p. p.identity) ps; touches = sum_by (λ p. p.touches) ps }

-- the numbers of a new pool
abbrev pub fresh : ℕ × ℕ → Quota
fresh pair = record { size = pair.1; count = pair.0; live = 0 }

-- ---- lengths

-- a memory from the address 4096 on may be so long, and a payload so large
abbrev pub ArePossibleLengths : Option (ℕ × ℕ) → Type 0
ArePossibleLengths None = ⊥
ArePossibleLengths (Some (len, asked)) = (4096 + len < 2 ^ 64) × IsLayout asked 16

-- there is a pool for so many payloads of each of these sizes: pairs of a count and a size
abbrev pub ArePossible : List (ℕ × ℕ) → Type 0
ArePossible [] = ⊤
ArePossible (pair ∷ pairs) = ArePossibleLengths (pool_size_for_objects 59 8 pair.0 pair.1) × ArePossible pairs

-- ---- where a payload belongs

-- the place of the first pool whose greatest size reaches this one
abbrev pub partition_for : List Quota → ℕ → Option ℕ
partition_for [] size = None
partition_for (q ∷ qs) size = if nat_le size q.size then Some 0 else option_map (λ place. suc place) (partition_for qs size)

-- how many more payloads of this size that pool has room for; 0 if there is none
abbrev pub vacant : List Quota → ℕ → ℕ
vacant [] size = 0
vacant (q ∷ qs) size = if nat_le size q.size then q.count - q.live else vacant qs size

-- the payload is of the pool at this place
abbrev pub IsOf : List Identity → ℕ → PayloadView → Type 0
IsOf heaps pool p = slice_get heaps pool ≡ Some p.identity

-- ---- changes

-- one more payload of the pool at this place is live
abbrev pub with_one_more : ℕ → List Quota → List Quota
with_one_more place [] = []
with_one_more zero (q ∷ qs) = record q { live = q.live + 1 } ∷ qs
with_one_more (suc place) (q ∷ qs) = q ∷ with_one_more place qs

-- one more payload of the first pool whose greatest size reaches this one is live
abbrev pub with_one_more_for : ℕ → List Quota → List Quota
with_one_more_for size [] = []
with_one_more_for size (q ∷ qs) = if nat_le size q.size then record q { live = q.live + 1 } ∷ qs else q ∷ with_one_more_for size qs

-- one payload less of the pool at this place is
abbrev pub with_one_less : ℕ → List Quota → List Quota
with_one_less place [] = []
with_one_less zero (q ∷ qs) = record q { live = q.live - 1 } ∷ qs
with_one_less (suc place) (q ∷ qs) = q ∷ with_one_less place qs

-- a payload of a pool was allocated
pub record IsTakenFrom (before after : PartitionView) (p : PayloadView) : Type 0 where
  -- one more is live, and nothing else changed
  pub taken : after ≡ record before { live = before.live + 1; touches = after.touches }
  -- fewer were live than have room
  pub room : before.live < before.count
  -- it is of this pool
  pub identity : p.identity ≡ before.identity
  -- it is long enough
  pub sized : before.size ≤ length p.bytes
  -- its address is a multiple of 16
  pub aligned : p.start % 16 ≡ 0

-- a payload of `size` bytes was allocated in a pool
pub record IsPlaced (before after : PartitionsView) (size pool : ℕ) (p : PayloadView) : Type 0 where
  -- in the first one whose greatest size reaches it
  pub first : partition_for before.quotas size ≡ Some pool
  -- which it still leads to
  pub still : partition_for after.quotas size ≡ Some pool
  -- it is of that pool
  pub owner : IsOf before.heaps pool p
  -- one more of that pool's payloads is live
  pub quotas : after.quotas ≡ with_one_more_for size before.quotas
  -- so one less of this size has room
  pub less : vacant before.quotas size ≡ vacant after.quotas size + 1
  -- it is long enough
  pub sized : size ≤ length p.bytes
  -- its address is a multiple of 16
  pub aligned : p.start % 16 ≡ 0

-- a call keeps which heaps payloads are of, and where each size leads, and takes at most so many word accesses
pub record IsKept (before after : PartitionsView) (most : ℕ) : Type 0 where
  pub heaps : after.heaps ≡ before.heaps
  pub sizes : partition_for after.quotas ≡ partition_for before.quotas
  pub touches : after.touches ≤ before.touches + most

-- ---- one pool of several

-- there is a pool at this place, of which this holds
abbrev pub HasAt : List PartitionView → ℕ → (PartitionView → Type 0) → Type 0
HasAt ps place P = (p : PartitionView) × (slice_get ps place ≡ Some p) × P p

-- a payload of the pool at this place was allocated
pub record IsTakenAt (before after : List PartitionView) (place : ℕ) (p : PayloadView) : Type 0 where
  pub was : PartitionView
  pub now : PartitionView
  pub there : slice_get before place ≡ Some was
  pub set : after ≡ slice_set before place now
  pub taken : IsTakenFrom was now p
  pub touches : now.touches ≤ was.touches + 27

-- a payload of the pool at this place was deallocated
pub record IsGivenBackAt (before after : List PartitionView) (place : ℕ) : Type 0 where
  pub was : PartitionView
  pub now : PartitionView
  pub there : slice_get before place ≡ Some was
  pub set : after ≡ slice_set before place now
  pub within : was.live ≤ was.count
  pub given_back : was ≡ record now { live = now.live + 1; touches = was.touches }
  pub touches : now.touches ≤ was.touches + 32

-- as many payloads of the pool at this place are live as it has room for
abbrev pub IsFullAt : List PartitionView → ℕ → Type 0
IsFullAt ps place = HasAt ps place (λ p. p.live ≡ p.count)
