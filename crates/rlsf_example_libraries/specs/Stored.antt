-- Lists of bytes that an owner keeps in the payloads of one allocator.
use Rattle.std.specs.Prelude.{◌≡◌, ◌≢◌, ℕ, ◌+◌, ◌<◌, ◌≤◌, List, [], ◌∷◌, ◌++◌, length, take, Some, count_by, map, ⊤}
use Rattle.std.specs.List.{splice}
use Rattle.rlsf_base.specs.declared.memory.range.Range.{Range}
use Rattle.rlsf_base.specs.Range.{end_of, range_at}
use Rattle.rlsf_model_sizes.specs.Sizes.{max_pool_size, pool_size_to_contain_allocation}
use Rattle.rlsf_base.specs.Space.{Space, bytes_in, range_of}
use Rattle.rlsf_blocks.specs.Blocks.{Block, walked}
use Rattle.rlsf_model.specs.Callers.{align_at, bytes_at}
use Rattle.rlsf_model.specs.ChunkRows.{IsRow}
use Rattle.rlsf_model.specs.Insert.{aligned_part, cut}
use Rattle.rlsf_model.specs.Lists.{IsIn}
use Rattle.rlsf_model.specs.State.{State}
use Rattle.rlsf_tlsf.specs.Allocator.{Allocator, Stands}

-- an allocator with its pool
pub record StoreContents : Type 0 where
  pub heap : Allocator
  pub pool : Range

-- the contents by their parts
abbrev pub store_contents : Allocator → Range → StoreContents
store_contents h r = record { heap = h; pool = r }

-- a list of bytes that is kept at an address, in the front of a payload with this alignment
pub record Stored : Type 0 where
  pub addr : ℕ
  pub align : ℕ
  pub bytes : List ℕ

-- the same by its parts
abbrev pub stored : ℕ → ℕ → List ℕ → Stored
stored addr align bytes = record { addr = addr; align = align; bytes = bytes }

-- the payload at the address keeps the bytes: it has the alignment, begins with them, and has less than 32 bytes more
pub record KeepsPlaces (s : State) (k : Stored) : Type 0 where
  pub live : align_at s k.addr ≡ Some k.align
  pub front : take (length k.bytes) (bytes_at s k.addr) ≡ k.bytes
  pub few : length (bytes_at s k.addr) < length k.bytes + 32

-- no two are kept at one address
abbrev pub ArePlacesApart : List Stored → Type 0
ArePlacesApart [] = ⊤
ArePlacesApart (k ∷ ks) = ((j : Stored) → IsIn j ks → j.addr ≢ k.addr) × ArePlacesApart ks

-- the payloads of a state keep these lists of bytes and nothing else
pub record KeepsOnly (s : State) (all : List Stored) : Type 0 where
  pub kept : (k : Stored) → IsIn k all → KeepsPlaces s k
  pub apart : ArePlacesApart all
  pub no_other : (a align : ℕ) → align_at s a ≡ Some align → (k : Stored) × IsIn k all × (k.addr ≡ a)

-- each chunk lies in the range
abbrev pub HasChunksIn : State → Range → Type 0
HasChunksIn s r = (c : Range) → IsIn c s.chunks → (r.start ≤ c.start) × (end_of c ≤ end_of r)

-- the allocator keeps these lists of bytes and nothing else, and all of its memory is its pool
pub record IsStore (v : StoreContents) (all : List Stored) : Type 0 where
  pub stands : Stands 59 8 v.heap
  pub payloads : KeepsOnly v.heap.state all
  pub chunks : v.heap.state.chunks ≡ cut (max_pool_size 59) (aligned_part (range_of v.heap.memory))
  pub row : IsRow v.heap.state (walked v.pool)
  pub whole : HasChunksIn v.heap.state (walked v.pool)

-- a pool of a memory has room for one payload of this size and alignment: its aligned part is as long as a pool for it
abbrev pub FitsPool : Range → ℕ → ℕ → Type 0
FitsPool memory size align = (e : ℕ) × (pool_size_to_contain_allocation 59 8 size align ≡ Some e) × (e ≤ (aligned_part memory).len)

-- where a list of bytes is kept, and how many they are
pub record Place : Type 0 where
  pub addr : ℕ
  pub align : ℕ
  pub len : ℕ

-- the place of what is stored
abbrev pub place_of : Stored → Place
place_of k = record { addr = k.addr; align = k.align; len = length k.bytes }

-- the bytes that a memory has at a place
abbrev pub bytes_at_place : Space → Place → List ℕ
bytes_at_place m p = bytes_in m (range_at p.addr p.len)

-- the allocator keeps lists of bytes at these places, and nothing else
abbrev pub KeepsAt : StoreContents → List Place → Type 0
KeepsAt v places = (all : List Stored) × IsStore v all × (map place_of all ≡ places)

-- a place by its parts
abbrev pub place : ℕ → ℕ → ℕ → Place
place addr align len = record { addr = addr; align = align; len = len }

-- the bytes that a store has at these places
abbrev pub lists_at : StoreContents → List Place → List (List ℕ)
lists_at v places = map (bytes_at_place v.heap.memory) places

-- w keeps lists of bytes at these places, and nothing else, and they are those that v has there
abbrev pub HasSame : StoreContents → StoreContents → List Place → Type 0
HasSame v w places = KeepsAt w places × (lists_at w places ≡ lists_at v places)

-- w keeps what v keeps
abbrev pub KeepsAll : StoreContents → StoreContents → Type 0
KeepsAll v w = (places : List Place) → KeepsAt v places → HasSame v w places

-- w keeps these bytes at a place, lists of bytes at the places before and after it, which are those that v has there, and nothing else
pub record HasAmong (v w : StoreContents) (before after : List Place) (p : Place) (bytes : List ℕ) : Type 0 where
  pub places : KeepsAt w (before ++ p ∷ after)
  pub front : lists_at w before ≡ lists_at v before
  pub here : bytes_at_place w.heap.memory p ≡ bytes
  pub back : lists_at w after ≡ lists_at v after

-- bytes with others written over them, from an offset on
abbrev pub with_bytes_over : List ℕ → ℕ → List ℕ → List ℕ
with_bytes_over old offset bytes = splice old offset (offset + length bytes) bytes

-- bytes were written over those that are kept at an address, from an offset on
abbrev pub WritesOver : StoreContents → StoreContents → ℕ → ℕ → List ℕ → Type 0
WritesOver v w addr offset bytes = (before after : List Place) (p : Place) → KeepsAt v (before ++ p ∷ after) → p.addr ≡ addr → offset + length bytes ≤ p.len
    → HasAmong v w before after p (with_bytes_over (bytes_at_place v.heap.memory p) offset bytes)

-- more bytes are kept behind the `len` ones at an address, and all of them at the address `to`
abbrev pub AppendsAt : StoreContents → StoreContents → ℕ → ℕ → List ℕ → ℕ → Type 0
AppendsAt v w addr len more to = (before after : List Place) (p : Place) → KeepsAt v (before ++ p ∷ after) → p.addr ≡ addr → p.align ≡ 1 → p.len ≡ len
    → HasAmong v w before after (place to 1 (len + length more)) (bytes_at_place v.heap.memory p ++ more)

-- how many of the blocks are used
abbrev pub used_count : List Block → ℕ
used_count bs = count_by (λ b. b.is_occupied) bs
