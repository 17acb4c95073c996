-- Stores whose pool is sure to have room for one more list of bytes.
use Rattle.std.proofs.Common.{◌≡◌, ℕ, ◌+◌, ◌-◌, ◌*◌, ◌<◌, ◌≤◌, cond, List, [], ◌∷◌, length, map, Option, Some, None, arith, refl, sym}
use Rattle.std.proofs.Common.{◌∙◌, ap, subst, inl, inr}
use Rattle.std.proofs.lemmas.Bool.{le-leb}
use Rattle.std.proofs.lemmas.List.{length-map}
use Rattle.std.proofs.lemmas.List.Sums.{sum_by-cons}
use Rattle.std.proofs.Math.Nat.{mul-le-mul_right}
use Rattle.std.specs.List.{AllByRecursion}
use Rattle.rlsf_base.specs.Layout.{IsLayout}
use Rattle.rlsf_base.specs.Range.{range_at}
use Rattle.rlsf_model_sizes.specs.Sizes.{request_size}
use Rattle.rlsf_base.specs.Space.{range_of}
use Rattle.rlsf_base.specs.declared.memory.range.Range.{Range}
use Rattle.rlsf_base.proofs.Numbers.Roundings.{round32-le, round32-multiple}
use Rattle.rlsf_base.proofs.SizeClasses.Reach.{Reaches-class_of}
use Rattle.rlsf_base.proofs.SizeMaps.ChunkLengths.{IsPayloadPool-some}
use Rattle.rlsf_base.proofs.SizeMaps.Laws.{IsSize-request_size}
use Rattle.rlsf_model.specs.Allocate.{Allocates}
use Rattle.rlsf_model.specs.Budget.{AreAtMost, total_len}
use Rattle.rlsf_model.specs.Callers.{align_at}
use Rattle.rlsf_model.specs.Insert.{aligned_part}
use Rattle.rlsf_model.specs.Lists.{IsIn}
use Rattle.rlsf_model.specs.Reallocate.{Plan, Reallocates, ReallocatesBy, plan}
use Rattle.rlsf_model.specs.State.{State, Used}
use Rattle.rlsf_model.specs.WellFormed.{IsUsed, IsWellFormed, coverage}
use Rattle.rlsf_model.proofs.Budgets.{AreFronts-one, not_denied, request_size-mono}
use Rattle.rlsf_model.proofs.CallerWords.{align_at-held, bytes_at-held}
use Rattle.rlsf_model.proofs.Coverage.{coverage-IsIn, covers-inside}
use Rattle.rlsf_model.proofs.Insertions.{IsWhole-aligned_part}
use Rattle.rlsf_model.proofs.Payloads.{IsUsed-after_start, payload_of-le}
use Rattle.rlsf_model.proofs.PoolLengths.{HasBudget-pool}
use Rattle.rlsf_model.proofs.Tiling.{tiling_of, used-le}
use Rattle.rlsf_tlsf.specs.Allocator.{Allocator, Steps}
use Rattle.rlsf_tlsf.proofs.Arrivals.{opened, well_formed}
use Rattle.rlsf_example_libraries.specs.Budgets.{AreFewStrings, FitsPayloads, HasBudgetFor, HasBudgetOf, HasBytesFor}
use Rattle.rlsf_example_libraries.specs.Handled.{Handled}
use Rattle.rlsf_example_libraries.specs.Stored.{KeepsAt, IsStore, Place, Stored, StoreContents, lists_at, place_of}
use Rattle.rlsf_example_libraries.proofs.Places.{bytes_of}
use Rattle.rlsf_example_libraries.proofs.Stores.{bytes_at_place-stored}
use Rattle.rlsf_example_libraries.proofs.UsedBlocks.{NoTwo, length-le_from_own}

-- a block of which less than 32 bytes more than the size are usable is no longer than the block requested for the size
block-le : (u : Used) (size : ℕ) → IsUsed u → length u.bytes < size + 32 → u.block.len ≤ request_size size u.align
block-le u size is few =
    let n = size + (u.align - 16) + 16 in
    omega (arith, is.placed, is.within, is.bytes, few, is.whole.len, payload_of-le u.block.start u.align is.whole.start is.power, round32-multiple n, round32-le n)

-- ---- as many lists as used blocks, or more

-- no two blocks have one payload
NoTwo-used : (us : List Used) → ((u : Used) → IsIn u us → IsUsed u) → ((a : ℕ) → coverage (λ (u : Used). u.block) us a ≤ 1)
    → NoTwo (λ (u : Used) (k : Stored). u.payload ≡ k.addr) us
NoTwo-used [] are once = tt
NoTwo-used (u ∷ us) are once = (
  λ z k i p q.
      let a = u.payload - 1 in
      let low = are u (inl refl) in
      let other = are z (inr i) in
      let here = covers-inside u.block a (omega (arith, IsUsed-after_start u low)) (omega (arith, IsUsed-after_start u low, low.within)) in
      let there = covers-inside z.block a (omega (arith, IsUsed-after_start z other)) (omega (arith, IsUsed-after_start z other, other.within)) in
      absurd (omega (arith, here, there, coverage-IsIn (λ (v : Used). v.block) z us a i, once a)),
  NoTwo-used us (λ v i. are v (inr i)) (λ a. omega (arith, once a)),
)

module _ {v : StoreContents} {all : List Stored} (store : IsStore v all) where
  formed : IsWellFormed 59 8 (range_of v.heap.memory) v.heap.state
  formed = well_formed v.heap store.stands

  pub length-used_le : length v.heap.state.used ≤ length all
  length-used_le =
      let s = v.heap.state in
      length-le_from_own (λ (u : Used) (k : Stored). u.payload ≡ k.addr) s.used all
      (λ u i. let (k, j, at) = store.payloads.no_other u.payload u.align (align_at-held formed u.payload u (i, refl)) in (k, j, sym at))
      (NoTwo-used s.used formed.used (used-le s (tiling_of formed)))

  -- no used block is longer than the block requested for a layout that each list keeps to
  pub AreAtMost-stored : (most : ℕ) → ((k : Stored) → IsIn k all → request_size (length k.bytes) k.align ≤ most) → AreAtMost most v.heap.state.used
  AreAtMost-stored most small u i =
      let s = v.heap.state in
      let (k, j, at) = store.payloads.no_other u.payload u.align (align_at-held formed u.payload u (i, refl)) in
      let kept = store.payloads.kept k j in
      let aligned : u.align ≡ k.align = same (sym (align_at-held formed k.addr u (i, sym at)) ∙ kept.live) in
      let few : length u.bytes < length k.bytes + 32 = omega (arith, kept.few, ap length (bytes_at-held formed k.addr u (i, sym at))) in
      omega (arith, block-le u (length k.bytes) (formed.used u i) few, ap (request_size (length k.bytes)) aligned, small k j)
    where
      same : {m n : ℕ} → Some m ≡ Some n → m ≡ n
      same e = cc

-- ---- room

small_stored : (size align : ℕ) (all : List Stored) → AllByRecursion (λ (p : Place). (p.len ≤ size) × (p.align ≡ align)) (map place_of all) → (k : Stored)
    → IsIn k all → request_size (length k.bytes) k.align ≤ request_size size align
small_stored size align [] small k i = absurd i
small_stored size align (j ∷ js) (first, rest) k (inl same) =
    let long : length k.bytes ≤ size = omega (arith, first.0, ap (λ x. length x.bytes) same) in
    let aligned : k.align ≡ align = ap (λ x. x.align) same ∙ first.1 in
    omega (arith, request_size-mono (length k.bytes) k.align size k.align long (omega arith), ap (request_size size) aligned)
small_stored size align (j ∷ js) (first, rest) k (inr i) = small_stored size align js rest k i

-- a pool with the bytes for a block
module _ (memory : Range) (live size align : ℕ) (bytes : HasBytesFor memory live size align) where
  -- is longer than the block
  pub request_size-part : request_size size align < (aligned_part memory).len
  request_size-part =
      let part = aligned_part memory in
      let all : total_len (part ∷ []) ≡ part.len = omega (arith, sum_by-cons (λ (r : Range). r.len) part []) in
      let least = bytes.least in
      let taken = bytes.taken in
      let longer : request_size size align ≤ least = Reaches-class_of 8 least (taken.is.0) (request_size size align) (omega arith) taken.reaches in
      let once : 1 * (least - 32) ≤ (live + 1) * (least - 32) = mul-le-mul_right (least - 32) (omega arith) in
      omega (arith, all, once, bytes.enough, longer, taken.is.0, taken.is.1)

  -- and long enough for a chunk
  pub long_part : 64 ≤ (aligned_part memory).len
  long_part = omega (arith, request_size-part, (IsWhole-aligned_part memory).len, round32-multiple (size + (align - 16) + 16), round32-le (size + (align - 16) + 16))

-- the chunk of a store whose pool is that long
pub one_chunk : {v : StoreContents} {all : List Stored} → IsStore v all → 64 ≤ (aligned_part (range_of v.heap.memory)).len
    → v.heap.state.chunks ≡ aligned_part (range_of v.heap.memory) ∷ []
one_chunk {v} store long =
    let part = aligned_part (range_of v.heap.memory) in
    store.chunks ∙ ap (λ b. cond b (range_at part.start part.len ∷ []) []) (le-leb 64 part.len long)

module _ {v : StoreContents} {places : List Place} {live size align : ℕ} (budget : HasBudgetFor v places live size align) where
  denied : (t : State) (n a : ℕ) → request_size n a ≤ request_size size align → Allocates 8 v.heap.state n a None t → ⊥
  denied t n a fits step =
      let (all, store, at) = budget.has in
      let part = aligned_part (range_of v.heap.memory) in
      let long = long_part (range_of v.heap.memory) live size align budget.bytes in
      let count : length all ≡ length places = sym (length-map all place_of) ∙ ap length at in
      let few : length v.heap.state.used ≤ live = omega (arith, length-used_le store, budget.few, count) in
      let small = AreAtMost-stored store (request_size size align)
      (small_stored size align all (subst (AllByRecursion (λ (p : Place). (p.len ≤ size) × (p.align ≡ align))) (sym at) budget.small)) in
      let fronts = AreFronts-one part v.heap.state.chunks (subst (IsIn part) (sym (one_chunk store long)) (inl refl)) (omega arith) in
      not_denied live (request_size size align) (well_formed v.heap store.stands) (part ∷ []) fronts small budget.bytes few n a fits t step

  -- an allocation has room
  pub budget_has_room : (w : Allocator) (n : ℕ) → n ≤ size → Steps 59 8 v.heap w (Allocates 8 v.heap.state n align None) → ⊥
  budget_has_room w n short steps = denied w.state n align (request_size-mono n align size align short (omega arith))
      (opened 59 8 v.heap w (Allocates 8 v.heap.state n align None) steps).0

  -- a reallocation too
  pub budget_has_room_again : (w : Allocator) (addr n : ℕ) → align_at v.heap.state addr ≡ Some align → n ≤ size
      → Steps 59 8 v.heap w (Reallocates 8 v.heap.state addr n None) → ⊥
  budget_has_room_again w addr n live short steps =
      let s = v.heap.state in
      let (all, store, at) = budget.has in
      let step = (opened 59 8 v.heap w (Reallocates 8 s addr n None) steps).0 in
      let u = step.block in
      let aligned : u.align ≡ align = same (sym (align_at-held (well_formed v.heap store.stands) addr u step.holds) ∙ live) in
      let fits : request_size n u.align ≤ request_size size align = omega (arith, ap (request_size n) aligned, request_size-mono n align size align short (omega arith)) in
      none_left u fits (plan s u n) step.step
    where
      same : {m n : ℕ} → Some m ≡ Some n → m ≡ n
      same e = cc

      none_left : (u : Used) → request_size n u.align ≤ request_size size align → (o : Option Plan) → ReallocatesBy 8 v.heap.state u n o None w.state → ⊥
      none_left u fits (Some p) impossible = impossible
      none_left u fits None allocated = denied w.state n u.align fits allocated

-- ---- pools of computed lengths

-- a pool that fits payloads has the bytes for them
pub bytes_for-fits : (memory : Range) (count size align : ℕ) → FitsPayloads memory count size align → HasBytesFor memory count size align
bytes_for-fits memory count size align (layout, (e, told, long)) =
    HasBudget-pool count (request_size size align) 8 e (aligned_part memory)
    (IsPayloadPool-some 59 8 count (request_size size align) e refl (IsSize-request_size size align) told) long

-- ---- budgets of lists of bytes

small_places : (size align : ℕ) (all : List Stored) → AllByRecursion (λ (b : List ℕ). length b ≤ size) (map bytes_of all)
    → AllByRecursion (λ (p : Place). p.align ≡ align) (map place_of all)
    → AllByRecursion (λ (p : Place). (p.len ≤ size) × (p.align ≡ align)) (map place_of all)
small_places size align [] short aligned = tt
small_places size align (k ∷ ks) (short, shorts) (aligned, rest) = ((short, aligned), small_places size align ks shorts rest)

-- a store has a budget if its lists of bytes are short and have one alignment
pub HasBudgetFor-lists : {v : StoreContents} {places : List Place} {live size align : ℕ} → KeepsAt v places → length places ≤ live → IsLayout size align
    → AllByRecursion (λ (b : List ℕ). length b ≤ size) (lists_at v places)
    → AllByRecursion (λ (p : Place). p.align ≡ align) places → HasBytesFor (range_of v.heap.memory) live size align → HasBudgetFor v places live size align
HasBudgetFor-lists {v} {places} {live} {size} {align} (all, store, at) few layout short aligned bytes =
    let are : lists_at v places ≡ map bytes_of all = ap (lists_at v) (sym at) ∙ bytes_at_place-stored v all store in
    let small = small_places size align all (subst (AllByRecursion (λ (b : List ℕ). length b ≤ size)) are short)
    (subst (AllByRecursion (λ (p : Place). p.align ≡ align)) (sym at) aligned) in
    record { has = (all, store, at); few = few; layout = layout; small = subst (AllByRecursion (λ (p : Place). (p.len ≤ size) × (p.align ≡ align))) at small; bytes = bytes }

-- few short strings have a budget
pub HasBudgetOf-strings : (h : Handled) (next : ℕ) (count longest : ℕ) → h.align ≡ 1 → AreFewStrings
    (record { strings = h.lists; next = next; memory = h.memory }) count longest → HasBudgetOf h count longest
HasBudgetOf-strings h next count longest one few = record {
  few = few.few;
  layout = subst (IsLayout longest) (sym one) few.fits.0;
  small = few.short;
  bytes = subst (HasBytesFor h.memory count longest) (sym one) (bytes_for-fits h.memory count longest 1 few.fits);
}
