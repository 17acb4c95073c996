-- What a store keeps, over the allocator's steps.
use mathlib.Core.Path.{ap₂}
use Rattle.std.proofs.Common.{◌≡◌, ◌≢◌, ℕ, ◌+◌, ◌-◌, ◌<◌, ◌≤◌, cond, lit<, List, [], ◌∷◌, ◌++◌, length, map, take, drop, Option, Some}
use Rattle.std.proofs.Common.{None, IsSome, arith, refl, sym, ◌∙◌, ap, subst, inl, inr}
use Rattle.std.proofs.lemmas.Bool.{cases_lt, le-leb, lt-leb}
use Rattle.std.proofs.lemmas.List.{length-take-le, take-take}
use Rattle.std.specs.Option.{unwrap_or}
use Rattle.rlsf_model_sizes.specs.PowerOfTwo.{IsPowerOfTwo}
use Rattle.rlsf_base.specs.Range.{end_of, range_at}
use Rattle.rlsf_model_sizes.specs.Rounding.{round32}
use Rattle.rlsf_model_sizes.specs.SizeClass.{IsValid}
use Rattle.rlsf_model_sizes.specs.Sizes.{max_pool_size}
use Rattle.rlsf_base.specs.Space.{SamePlace, range_of}
use Rattle.rlsf_base.specs.declared.memory.range.Range.{Range}
use Rattle.rlsf_base.proofs.Numbers.Roundings.{round32-le}
use Rattle.rlsf_base.proofs.SizeMaps.Laws.{pool_contains_its_allocation}
use Rattle.rlsf_model.specs.Allocate.{Allocates}
use Rattle.rlsf_model.specs.Callers.{align_at, bytes_at}
use Rattle.rlsf_model.specs.ChunkRows.{IsRow}
use Rattle.rlsf_model.specs.Insert.{aligned_part, bytes_taken, cut, with_chunks, Inserts}
use Rattle.rlsf_model.specs.Lists.{IsIn}
use Rattle.rlsf_model.specs.Reallocate.{Reallocates}
use Rattle.rlsf_model.specs.Release.{Deallocates}
use Rattle.rlsf_model.specs.Run.{Fills, reallocate}
use Rattle.rlsf_model.specs.State.{State, Used, Holds, empty, usable}
use Rattle.rlsf_model.proofs.CallerWords.{SeesGone, SeesResized, align_at-held, align_at-live, align_at-none, align_at-some, bytes_at-held, filled_seen, gone_seen, new_seen}
use Rattle.rlsf_model.proofs.CallerWords.{resized_seen}
use Rattle.rlsf_model.proofs.Callers.{callers_see_map}
use Rattle.rlsf_model.proofs.ChunkRows.{IsRow-inserted, IsRow-same}
use Rattle.rlsf_model.proofs.Chunks.{chunks-allocated, chunks-deallocated, chunks-filled, chunks-reallocated, used-inserted}
use Rattle.rlsf_model.proofs.Pools.{idle_chunk_has_room}
use Rattle.rlsf_blocks.specs.Blocks.{walked}
use Rattle.rlsf_tlsf.specs.Allocator.{Allocator, Stands, Steps}
use Rattle.rlsf_tlsf.proofs.Arrivals.{opened, well_formed}
use Rattle.rlsf_tlsf.proofs.Standing.{in_state}
use Rattle.rlsf_example_libraries.specs.Stored.{FitsPool, IsStore, KeepsPlaces, KeepsOnly, Stored, StoreContents, bytes_at_place, place_of, store_contents, stored}
use Rattle.rlsf_example_libraries.proofs.Fronts.{front-kept, front-le}
use Rattle.rlsf_example_libraries.proofs.Kept.{IsIn-middle, KeepsOnly-changed, KeepsOnly-gone, KeepsOnly-new}

-- ---- a store after a call

-- another allocator in its place, with the same chunks
IsStore-after : {v : StoreContents} {all : List Stored} (store : IsStore v all) (w : Allocator) (now : List Stored) → Stands 59 8 w → SamePlace v.heap.memory w.memory
    → w.state.chunks ≡ v.heap.state.chunks
    → KeepsOnly w.state now → IsStore (store_contents w v.pool) now
IsStore-after {v} store w now stands place chunks keeps = record {
  stands = stands;
  payloads = keeps;
  chunks = chunks ∙ store.chunks ∙ ap (λ r. cut (max_pool_size 59) (aligned_part r)) (ap₂ range_at (sym place.0) (sym place.1));
  row = IsRow-same v.heap.state w.state (walked v.pool) chunks store.row;
  whole = λ c i. store.whole c (subst (IsIn c) chunks i);
}

-- a refused call leaves the store
pub IsStore-refused : {v : StoreContents} (w : Allocator) (step : State → Type 0) (all : List Stored) → Steps 59 8 v.heap w step → w.state ≡ v.heap.state
    → SamePlace v.heap.memory w.memory → IsStore v all
    → IsStore (store_contents w v.pool) all
IsStore-refused {v} w step all steps same place store =
    IsStore-after store w all (opened 59 8 v.heap w step steps).1 place (ap (λ s. s.chunks) same) (subst (λ s. KeepsOnly s all) (sym same) store.payloads)

-- the bytes that were asked for, of the payload at an address
abbrev pub asked_at : Allocator → ℕ → ℕ → List ℕ
asked_at w addr size = take size (bytes_at w.state addr)

-- they are as many as were asked for
pub length-asked_at : (w : Allocator) (addr size : ℕ) → size ≤ length (bytes_at w.state addr) → length (asked_at w addr size) ≡ size
length-asked_at w addr size sized = length-take-le size (bytes_at w.state addr) sized

-- an allocated payload keeps what it has, as many bytes as were asked for
pub IsStore-allocated : {v : StoreContents} (w : Allocator) (size align addr : ℕ) → IsPowerOfTwo align → (before after : List Stored)
    → Steps 59 8 v.heap w (Allocates 8 v.heap.state size align (Some addr))
    → SamePlace v.heap.memory w.memory → IsStore v (before ++ after) → IsStore (store_contents w v.pool) (before ++ stored addr align (asked_at w addr size) ∷ after)
IsStore-allocated {v} w size align addr power before after steps place store =
    let s = v.heap.state in
    let (step, stands, _) = opened 59 8 v.heap w (Allocates 8 s size align (Some addr)) steps in
    let new = new_seen (well_formed v.heap store.stands) w.state size align addr power step in
    let long = length-asked_at w addr size new.sized in
    IsStore-after store w (before ++ stored addr align (asked_at w addr size) ∷ after) stands place (chunks-allocated 8 s w.state size align (Some addr) step)
    (KeepsOnly-new before after addr align (asked_at w addr size) (ap (λ n. take n (bytes_at w.state addr)) long) (omega (arith, new.few, long)) new store.payloads)

-- what is kept among other lists of bytes, in the payload at an address
module _ {v : StoreContents} {addr : ℕ} (before after : List Stored) (k : Stored) (at : k.addr ≡ addr) (store : IsStore v (before ++ k ∷ after)) where
  kept_there : KeepsPlaces v.heap.state k
  kept_there = store.payloads.kept k (IsIn-middle k before after)

  -- its payload is live, and begins with it
  pub live_stored : align_at v.heap.state addr ≡ Some k.align
  live_stored = ap (align_at v.heap.state) (sym at) ∙ kept_there.live

  pub front_stored : take (length k.bytes) (bytes_at v.heap.state addr) ≡ k.bytes
  front_stored = ap (λ a. take (length k.bytes) (bytes_at v.heap.state a)) (sym at) ∙ kept_there.front

  pub few_stored : length (bytes_at v.heap.state addr) < length k.bytes + 32
  few_stored = omega (arith, kept_there.few, ap (λ a. length (bytes_at v.heap.state a)) at)

  -- its payload is filled with other bytes
  pub IsStore-filled : (w : Allocator) (bytes front : List ℕ) → take (length front) bytes ≡ front → length bytes < length front + 32
      → Steps 59 8 v.heap w (Fills v.heap.state addr bytes) → SamePlace v.heap.memory w.memory
      → IsStore (store_contents w v.pool) (before ++ stored k.addr k.align front ∷ after)
  IsStore-filled w bytes front begins few steps place =
      let s = v.heap.state in
      let j = stored k.addr k.align front in
      let (step, stands, _) = opened 59 8 v.heap w (Fills s addr bytes) steps in
      let filled = filled_seen (well_formed v.heap store.stands) w.state addr bytes step in
      let here = ap (bytes_at w.state) at ∙ filled.here in
      let keeps : KeepsPlaces w.state j = record {
        live = filled.aligns k.addr ∙ kept_there.live;
        front = ap (take (length front)) here ∙ begins;
        few = omega (arith, ap length here, few);
      } in
      IsStore-after store w (before ++ j ∷ after) stands place (chunks-filled s w.state addr bytes step)
      (KeepsOnly-changed before after k j keeps (λ off. absurd (off refl)) (λ off. absurd (off refl)) (λ a _ _. filled.aligns a)
      (λ a off _. filled.bytes a (λ e. off (e ∙ sym at))) store.payloads)

  -- its payload gets another size
  resized_stored : (w : Allocator) (size to : ℕ) → Steps 59 8 v.heap w (Reallocates 8 v.heap.state addr size (Some to))
      → SeesResized v.heap.state w.state addr size k.align to
  resized_stored w size to steps =
      let s = v.heap.state in
      resized_seen (well_formed v.heap store.stands) w.state addr size k.align to (align_at-live s addr k.align live_stored)
      (opened 59 8 v.heap w (Reallocates 8 s addr size (Some to)) steps).0

  -- in which it has room
  pub front-resized : (w : Allocator) (size to : ℕ) → length k.bytes ≤ size → Steps 59 8 v.heap w (Reallocates 8 v.heap.state addr size (Some to))
      → take (length k.bytes) (bytes_at w.state to) ≡ k.bytes
  front-resized w size to room steps =
      let moved = resized_stored w size to steps in
      front-kept k.bytes (bytes_at v.heap.state addr) (bytes_at w.state to) front_stored (omega (arith, moved.sized, room)) moved.kept

  pub IsStore-resized : (w : Allocator) (size to : ℕ) → Steps 59 8 v.heap w (Reallocates 8 v.heap.state addr size (Some to)) → SamePlace v.heap.memory w.memory
      → IsStore (store_contents w v.pool) (before ++ stored to k.align (asked_at w to size) ∷ after)
  IsStore-resized w size to steps place =
      let s = v.heap.state in
      let j = stored to k.align (asked_at w to size) in
      let (step, stands, _) = opened 59 8 v.heap w (Reallocates 8 s addr size (Some to)) steps in
      let formed = well_formed v.heap store.stands in
      let live = align_at-live s addr k.align live_stored in
      let moved = resized_stored w size to steps in
      let long = length-asked_at w to size moved.sized in
      let left = (callers_see_map 59 8 (range_of v.heap.memory) s w.state (reallocate addr size (Some to)) formed (live.0, live.1) step).left in
      let off : (a : ℕ) → a ≢ k.addr → a ≢ addr = λ a apart e. apart (e ∙ sym at) in
      let keeps : KeepsPlaces w.state j = record { live = moved.live; front = ap (λ n. take n (bytes_at w.state to)) long; few = omega (arith, moved.few, long) } in
      IsStore-after store w (before ++ j ∷ after) stands place (chunks-reallocated 8 s w.state addr size (Some to) step)
      (KeepsOnly-changed before after k j keeps (λ apart. moved.new (off to apart)) (λ apart. ap (align_at w.state) at ∙ align_at-none w.state addr (left (off to apart)))
      (λ a apart other. moved.aligns a (off a apart) other) (λ a apart other. moved.bytes a (off a apart) other) store.payloads)

  -- its payload is deallocated
  pub IsStore-removed : (w : Allocator) → Steps 59 8 v.heap w (Deallocates v.heap.state addr) → SamePlace v.heap.memory w.memory
      → IsStore (store_contents w v.pool) (before ++ after)
  IsStore-removed w steps place =
      let s = v.heap.state in
      let (step, stands, _) = opened 59 8 v.heap w (Deallocates s addr) steps in
      let gone = gone_seen (well_formed v.heap store.stands) w.state addr (align_at-some s addr (subst IsSome (sym live_stored) refl)) step in
      IsStore-after store w (before ++ after) stands place (chunks-deallocated s w.state addr step)
      (KeepsOnly-gone before after k (subst (SeesGone s w.state) (sym at) gone) store.payloads)

-- the block of what is kept
pub block_of : {v : StoreContents} {all : List Stored} (store : IsStore v all) (k : Stored) → IsIn k all → (u : Used) × Holds v.heap.state k.addr u
block_of {v} store k i = align_at-some v.heap.state k.addr (subst IsSome (sym (store.payloads.kept k i).live) refl)

-- ---- what is read, and room

module _ (v : StoreContents) (all : List Stored) (store : IsStore v all) where
  -- the bytes of a memory at a place are those that are kept there
  pub bytes_at_place-kept : (k : Stored) → IsIn k all → bytes_at_place v.heap.memory (place_of k) ≡ k.bytes
  bytes_at_place-kept k i =
      let stands = (in_state 59 8 v.heap store.stands).stands in
      let (u, held) = block_of store k i in
      let m = v.heap.memory in
      let n = length k.bytes in
      let front : take n u.bytes ≡ k.bytes = ap (take n) (sym (bytes_at-held stands.well_formed k.addr u held)) ∙ (store.payloads.kept k i).front in
      let room = front-le k.bytes u.bytes front in
      let long = (stands.well_formed.used u held.0).bytes in
      let begin = k.addr - m.start in
      let whole : take (usable u).len (drop begin m.bytes) ≡ u.bytes = ap (λ a. take (usable u).len (drop (a - m.start) m.bytes)) (sym held.1)
      ∙ stands.payloads u held.0 in
      sym (take-take n (usable u).len (drop begin m.bytes) (omega arith)) ∙ ap (take n) whole ∙ front

  -- and so at the places of some of them
  pub bytes_at_place-some : (ks : List Stored) → ((k : Stored) → IsIn k ks → IsIn k all) → map (bytes_at_place v.heap.memory) (map place_of ks) ≡ map (λ k. k.bytes) ks
  bytes_at_place-some [] within = refl
  bytes_at_place-some (k ∷ ks) within = ap₂ (λ x xs. x ∷ xs) (bytes_at_place-kept k (within k (inl refl))) (bytes_at_place-some ks (λ j i. within j (inr i)))

  pub bytes_at_place-stored : map (bytes_at_place v.heap.memory) (map place_of all) ≡ map (λ k. k.bytes) all
  bytes_at_place-stored = bytes_at_place-some all (λ k i. i)

-- an empty store has nothing used
none_used : {v : StoreContents} (store : IsStore v []) → v.heap.state.used ≡ []
none_used {v} store = go v.heap.state.used (λ u i. i)
  where
    go : (us : List Used) → ((u : Used) → IsIn u us → IsIn u v.heap.state.used) → us ≡ []
    go [] within = refl
    go (u ∷ us) within =
        let there = align_at-held (well_formed v.heap store.stands) u.payload u (within u (inl refl), refl) in
        let (k, bad, at) = store.payloads.no_other u.payload u.align there in
        absurd bad

-- an empty store has room for each payload that fits its pool
pub empty_has_room : {v : StoreContents} (w : Allocator) (size align : ℕ) → FitsPool (range_of v.heap.memory) size align
    → Steps 59 8 v.heap w (Allocates 8 v.heap.state size align None) → IsStore v [] → ⊥
empty_has_room {v} w size align (e, told, long) steps store =
    let s = v.heap.state in
    let part = aligned_part (range_of v.heap.memory) in
    let valid : IsValid 64 64 59 8 = record { some_rows = lit< tt; rows_fit = omega arith; power_of_two = refl; classes_fit = omega arith } in
    let room = (pool_contains_its_allocation 64 64 59 8 size align e valid told).0 in
    let enough : 64 ≤ part.len = omega (arith, long, room) in
    let one : s.chunks ≡ range_at part.start part.len ∷ [] = store.chunks ∙ ap (λ b. cond b (range_at part.start part.len ∷ []) []) (le-leb 64 part.len enough) in
    let step = (opened 59 8 v.heap w (Allocates 8 s size align None) steps).0 in
    idle_chunk_has_room 64 64 59 8 size align e (range_of v.heap.memory) s w.state part None valid (well_formed v.heap store.stands) told (none_used store)
    (subst (IsIn part) (sym one) (inl refl)) long step refl

-- ---- a new store

-- an empty machine keeps nothing
KeepsOnly-empty : (s : State) → s.used ≡ [] → KeepsOnly s []
KeepsOnly-empty s none = record {
  kept = λ k bad. absurd bad;
  apart = tt;
  no_other = λ a align there. let (u, held, _) = align_at-live s a align there in absurd (subst (IsIn u) none held.0);
}

-- the chunks that are cut of a pool
chunks-first : (part : Range) → (with_chunks (cut (max_pool_size 59) part) empty).chunks ≡ cut (max_pool_size 59) part
chunks-first part = elim (cases_lt part.len 64) [
  | inl few ↦ ap (λ cs. (with_chunks cs empty).chunks) (none few) ∙ sym (none few)
  | inr enough ↦ ap (λ cs. (with_chunks cs empty).chunks) (one enough) ∙ sym (one enough)
]
  where
    none : part.len < 64 → cut (max_pool_size 59) part ≡ []
    none few = ap (λ b. cond b (range_at part.start part.len ∷ []) []) (lt-leb 64 part.len few)

    one : 64 ≤ part.len → cut (max_pool_size 59) part ≡ range_at part.start part.len ∷ []
    one enough = ap (λ b. cond b (range_at part.start part.len ∷ []) []) (le-leb 64 part.len enough)

-- what an insert takes, or nothing, is a row
row-first : (t : State) (r : Range) (reply : Option ℕ) → Inserts 59 empty r reply t → IsRow t (walked (range_at r.start (unwrap_or reply 0)))
row-first t r (Some len) step = IsRow-inserted 59 empty t r len step
row-first t r None step = λ a low high. absurd (omega (arith, round32-le r.start))

-- the chunk that is cut of a pool lies in what is taken
chunks_lie-first : (r : Range) (reply : Option ℕ) → reply ≡ bytes_taken r.start (cut (max_pool_size 59) (aligned_part r)) → (c : Range)
    → IsIn c (cut (max_pool_size 59) (aligned_part r))
    → ((walked (range_at r.start (unwrap_or reply 0))).start ≤ c.start) × (end_of c ≤ end_of (walked (range_at r.start (unwrap_or reply 0))))
chunks_lie-first r reply answer c i = elim (cases_lt part.len 64) [
  | inl few ↦ absurd (subst (IsIn c) (ap (λ b. cond b (part ∷ []) []) (lt-leb 64 part.len few)) i)
  | inr enough ↦
      let one : cut (max_pool_size 59) part ≡ part ∷ [] = ap (λ b. cond b (part ∷ []) []) (le-leb 64 part.len enough) in
      let taken : reply ≡ Some (end_of part - r.start) = answer ∙ ap (bytes_taken r.start) one in
      let lies : (round32 r.start ≤ part.start) × (end_of part ≤ end_of (walked (range_at r.start (end_of part - r.start)))) =
      (omega arith, omega (arith, round32-le r.start)) in
      elim (subst (IsIn c) one i) [
        | inl same ↦ subst (λ o. (round32 r.start ≤ c.start) × (end_of c ≤ end_of (walked (range_at r.start (unwrap_or o 0))))) (sym taken)
            (subst (λ p. (round32 r.start ≤ p.start) × (end_of p ≤ end_of (walked (range_at r.start (end_of part - r.start))))) (sym same) lies)
        | inr bad ↦ absurd bad
      ]
]
  where
    part : Range
    part = aligned_part r

pub IsStore-new : (v w : Allocator) (r : Range) (reply : Option ℕ) → v.state ≡ empty → range_of v.memory ≡ r → Steps 59 8 v w (Inserts 59 v.state r reply)
    → SamePlace v.memory w.memory
    → IsStore (store_contents w (range_at r.start (unwrap_or reply 0))) []
IsStore-new v w r reply none whole steps place =
    let (first, stands, _) = opened 59 8 v w (Inserts 59 v.state r reply) steps in
    let step = subst (λ s. Inserts 59 s r reply w.state) none first in
    let there : range_of w.memory ≡ r = ap₂ range_at place.0 place.1 ∙ whole in
    let chunks = ap (λ x. x.chunks) step.after ∙ chunks-first (aligned_part r) in
    record {
      stands = stands;
      payloads = KeepsOnly-empty w.state (used-inserted 59 empty w.state r reply step);
      chunks = chunks ∙ ap (λ q. cut (max_pool_size 59) (aligned_part q)) (sym there);
      row = row-first w.state r reply step;
      whole = λ c i. chunks_lie-first r reply step.answer c (subst (IsIn c) chunks i);
    }
