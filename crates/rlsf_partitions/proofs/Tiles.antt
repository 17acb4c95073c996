-- Blocks of one length fill a partition's pool, whatever is allocated and freed.
use Rattle.std.proofs.Common.{◌≡◌, ℕ, ◌+◌, ◌*◌, ◌%◌, ◌<◌, ◌≤◌, ◌/◌, length, Option, Some, None, IfNone, IfSome, IsNone, arith, refl, sym, ◌∙◌, ap, subst}
use Rattle.std.proofs.lemmas.Bool.{false≢true, le-leb}
use Rattle.std.proofs.Math.Nat.{mul-le-mul_right}
use Rattle.rlsf_model_sizes.specs.PowerOfTwo.{IsPowerOfTwo}
use Rattle.rlsf_base.specs.Range.{range_at}
use Rattle.rlsf_model_sizes.specs.SizeClass.{Reaches, class_of}
use Rattle.rlsf_model_sizes.specs.Sizes.{pool_size_for_objects, request_size}
use Rattle.rlsf_base.specs.Space.{range_of}
use Rattle.rlsf_base.specs.declared.memory.range.Range.{Range}
use Rattle.rlsf_model.specs.Allocate.{Allocates}
use Rattle.rlsf_model.specs.Insert.{aligned_part, Inserts}
use Rattle.rlsf_model.specs.Release.{Deallocates}
use Rattle.rlsf_model.specs.Sized.{live_count}
use Rattle.rlsf_model.specs.State.{State, empty}
use Rattle.rlsf_model.specs.WellFormed.{IsWellFormed}
use Rattle.rlsf_model.proofs.Uniform.{allocation_keeps_uniform, deallocation_keeps_uniform, uniform_is_full}
use Rattle.rlsf_base.proofs.SizeMaps.ChunkLengths.{IsObjectPool-some}
use Rattle.rlsf_heap.specs.Heap.{HeapView, PayloadView, Stands, Steps, addr_of}
use Rattle.rlsf_heap.specs.Replies.{IsAllocated, IsUnchanged}
use Rattle.rlsf_partitions.specs.Tiled.{HasTiles, IsPartition}

-- ---- steps

stepped : (after : HeapView) (step : State → Type 0) → Steps 59 8 after step → step after.state
unfolding Steps
stepped after step steps = steps.0

pub Stands-stepped : (after : HeapView) (step : State → Type 0) → Steps 59 8 after step → Stands 59 8 after
unfolding Steps
Stands-stepped after step steps = steps.1

well_formed : (v : HeapView) → Stands 59 8 v → IsWellFormed 59 8 (range_of v.memory) v.state
unfolding Stands
well_formed v stands = stands

sixteen : IsPowerOfTwo 16
sixteen = refl

-- an empty pool that is long enough is one chunk, which blocks of any length fill
pub HasTiles-new : (v w : HeapView) (r : Range) (reply : Option ℕ) (asked count : ℕ) → v.state ≡ empty → Steps 59 8 w (Inserts 59 v.state r reply)
    → 64 ≤ (aligned_part r).len → count * request_size asked 16 + 32 ≤ (aligned_part r).len → HasTiles w.state asked count
unfolding HasTiles
HasTiles-new v w r reply asked count none steps enough room = grind (arith, stepped, le-leb)

pub HasTiles-allocated : (v w : HeapView) (asked align count : ℕ) (reply : Option ℕ) → align ≡ 16 → Stands 59 8 v
    → Steps 59 8 w (Allocates 8 v.state asked align reply) → HasTiles v.state asked count → HasTiles w.state asked count
unfolding HasTiles
HasTiles-allocated v w asked align count reply narrow stands steps (c, uniform, room) =
    let step = subst (λ a. Allocates 8 v.state asked a reply w.state) narrow (stepped w (Allocates 8 v.state asked align reply) steps) in
    (c, allocation_keeps_uniform 59 8 (range_of v.memory) v.state w.state c asked 16 reply (well_formed v stands) sixteen (omega arith) uniform step, room)

pub HasTiles-released : (v w : HeapView) (asked count addr : ℕ) → Steps 59 8 w (Deallocates v.state addr) → HasTiles v.state asked count → HasTiles w.state asked count
unfolding HasTiles
HasTiles-released v w asked count addr steps (c, uniform, room) =
    (c, deallocation_keeps_uniform (request_size asked 16) v.state w.state c addr uniform (stepped w (Deallocates v.state addr) steps), room)

-- ---- room

-- while fewer payloads are live than have room, an allocation isn't refused
pub tiles_have_room : (v w : HeapView) (asked count : ℕ) → Stands 59 8 v → Reaches 8 (class_of 8 (request_size asked 16)) (request_size asked 16)
    → HasTiles v.state asked count → live_count v.state < count → Steps 59 8 w (Allocates 8 v.state asked 16 None) → ⊥
unfolding HasTiles live_count
tiles_have_room v w asked count stands begins (c, uniform, room) few steps =
    let s = v.state in
    let len = request_size asked 16 in
    let step = stepped w (Allocates 8 s asked 16 None) steps in
    let full = (uniform_is_full 59 8 (range_of v.memory) s w.state c asked 16 None (well_formed v stands) uniform begins step).0 refl in
    let used : live_count s ≡ length s.used = refl in
    let one_more : length s.used + 1 ≤ count = omega (arith, few, used) in
    let fewer : (length s.used + 1) * len ≤ count * len = mul-le-mul_right len one_more in
    omega (arith, full, fewer, room)

-- so it returns a payload
pub never_refused : (v w : HeapView) (asked align count : ℕ) (r : Option PayloadView) → align ≡ 16 → Stands 59 8 v
    → Reaches 8 (class_of 8 (request_size asked 16)) (request_size asked 16) → (1 ≤ count → HasTiles v.state asked count) → live_count v.state < count
    → Steps 59 8 w (Allocates 8 v.state asked align (addr_of r)) → IsNone r → ⊥
never_refused v w asked align count None narrow stands begins room few steps none =
    tiles_have_room v w asked count stands begins (room (omega (arith, few))) few (subst (λ a. Steps 59 8 w (Allocates 8 v.state asked a None)) narrow steps)
never_refused v w asked align count (Some p) narrow stands begins room few steps none = false≢true (sym none)

pub if_never : (r : Option PayloadView) (P : Type 0) → (IsNone r → ⊥) → IfNone r P
if_never None P never = absurd (never refl)
if_never (Some p) P never = tt

-- at most so many are live after an allocation
pub within_allocated : (v w : HeapView) (size align count : ℕ) (r : Option PayloadView) → live_count v.state < count → IfSome r (λ p. IsAllocated v w size align p)
    → IfNone r (IsUnchanged v w) → live_count w.state ≤ count
within_allocated v w size align count None few made refused = omega (arith, few, ap live_count refused.same)
within_allocated v w size align count (Some p) few made refused = omega (arith, few, made.count)

-- ---- a new partition

-- a range from 4096 on that is a multiple of 32 long is its own aligned part
aligned_is : (len : ℕ) → len % 32 ≡ 0 → (aligned_part (range_at 4096 len)).len ≡ len
aligned_is len whole = omega (arith, whole)

pub IsPartition-new : (v w : HeapView) (count size len asked align : ℕ) (reply : Option ℕ) → pool_size_for_objects 59 8 count size ≡ Some (len, asked)
    → align ≡ 16 → v.state ≡ empty → Steps 59 8 w (Inserts 59 v.state (range_at 4096 len) reply) → live_count w.state ≡ 0 → IsPartition w asked align size count
IsPartition-new v w count size len asked align reply told narrow none steps idle =
    let pool = IsObjectPool-some 59 8 count size len asked refl told in
    let block = pool.block in
    let same : request_size asked 16 ≡ block = omega (arith, pool.asks, pool.enough, pool.whole.1) in
    let product : count * request_size asked 16 ≡ count * block = ap (λ n. count * n) same in
    let whole : len % 32 ≡ 0 = mul_whole count block len pool.whole.1 pool.length in
    record {
      stands = Stands-stepped w (Inserts 59 v.state (range_at 4096 len) reply) steps;
      narrow = narrow;
      enough = omega (arith, pool.asks, pool.enough);
      begins = subst (λ n. Reaches 8 (class_of 8 n) n) (sym same) pool.begins;
      within = omega (arith, idle);
      room = λ some.
          let least : 1 * block ≤ count * block = mul-le-mul_right block some in
          HasTiles-new v w (range_at 4096 len) reply asked count none steps (omega (arith, aligned_is len whole, pool.length, least, pool.enough, pool.whole.1))
          (omega (arith, aligned_is len whole, pool.length, product));
    }
  where
    mul_whole : (n b l : ℕ) → b % 32 ≡ 0 → l ≡ n * b + 32 → l % 32 ≡ 0
    mul_whole n b l whole is =
        let k = b / 32 in
        let b_is : b ≡ 32 * k = omega (arith, whole) in
        let p : n * b ≡ 32 * (n * k) = ap (λ x. n * x) b_is ∙ (let e : n * (32 * k) ≡ 32 * (n * k) = omega arith in e) in
        omega (arith, is, p)
