-- Stores whose blocks all have one length, over the allocator's steps.
use Rattle.std.proofs.Common.{◌≡◌, ℕ, ◌+◌, ◌*◌, ◌≤◌, cond, List, [], ◌∷◌, length, Option, None, arith, refl, sym, ◌∙◌, ap, subst, inl, inr}
use Rattle.std.proofs.lemmas.Bool.{le-leb}
use Rattle.std.proofs.Math.Nat.{mul-le-mul_right}
use Rattle.rlsf_model_sizes.specs.PowerOfTwo.{IsPowerOfTwo}
use Rattle.rlsf_base.specs.Range.{range_at}
use Rattle.rlsf_model_sizes.specs.Sizes.{request_size}
use Rattle.rlsf_base.specs.Space.{range_of}
use Rattle.rlsf_base.specs.declared.memory.range.Range.{Range}
use Rattle.rlsf_model.specs.Allocate.{Allocates}
use Rattle.rlsf_model.specs.Insert.{aligned_part, with_chunks, Inserts}
use Rattle.rlsf_model.specs.Lists.{IsIn}
use Rattle.rlsf_model.specs.Release.{Deallocates}
use Rattle.rlsf_model.specs.Run.{Event, Fills, fill}
use Rattle.rlsf_model.specs.State.{empty}
use Rattle.rlsf_model.specs.Uniform.{AsksUniformly, IsUniform}
use Rattle.rlsf_model.proofs.Uniform.{allocation_keeps_uniform, deallocation_keeps_uniform, runs_keep_uniform, uniform_is_full}
use Rattle.rlsf_tlsf.specs.Allocator.{Allocator, Stands, Steps}
use Rattle.rlsf_tlsf.proofs.Arrivals.{opened, well_formed}
use Rattle.rlsf_example_libraries.specs.Stored.{IsStore, Stored, StoreContents}
use Rattle.rlsf_example_libraries.specs.Tiles.{HasTileFor, KeepsUniform}
use Rattle.rlsf_example_libraries.proofs.Rooms.{length-used_le}

-- ---- steps

-- an empty pool that is long enough is one chunk, which blocks of any length fill
pub IsUniform-new : (v w : Allocator) (r : Range) (reply : Option ℕ) (len : ℕ) → v.state ≡ empty → Steps 59 8 v w (Inserts 59 v.state r reply)
    → 64 ≤ (aligned_part r).len → IsUniform len (aligned_part r) w.state
IsUniform-new v w r reply len none steps enough =
    let part = aligned_part r in
    let step = subst (λ s. Inserts 59 s r reply w.state) none (opened 59 8 v w (Inserts 59 v.state r reply) steps).0 in
    let after : w.state ≡ with_chunks (part ∷ []) empty = step.after ∙ ap (λ b. with_chunks (cond b (range_at part.start part.len ∷ []) []) empty)
    (le-leb 64 part.len enough) in
    subst (IsUniform len part) (sym after) (record {
      chunks = refl;
      used = λ u i. absurd i;
      free = λ f. elim [ inl same ↦ (0, ap (λ x. x.start) same ∙ omega arith) | inr bad ↦ absurd bad ];
    })

module _ (h : Allocator) (stands : Stands 59 8 h) (w : Allocator) where
  pub KeepsUniform-allocated : (size align : ℕ) (reply : Option ℕ) → IsPowerOfTwo align → align ≤ 32 → Steps 59 8 h w (Allocates 8 h.state size align reply)
      → KeepsUniform h.state w.state (request_size size align)
  KeepsUniform-allocated size align reply power small steps c is =
      allocation_keeps_uniform 59 8 (range_of h.memory) h.state w.state c size align reply (well_formed h stands) power small is
      (opened 59 8 h w (Allocates 8 h.state size align reply) steps).0

  pub KeepsUniform-filled : (addr len : ℕ) (bytes : List ℕ) → Steps 59 8 h w (Fills h.state addr bytes) → KeepsUniform h.state w.state len
  KeepsUniform-filled addr len bytes steps c is =
      let step = (opened 59 8 h w (Fills h.state addr bytes) steps).0 in
      let asks : (e : Event) → IsIn e (fill addr bytes ∷ []) → AsksUniformly len e =
      λ e. elim [ inl same ↦ subst (AsksUniformly len) (sym same) tt | inr bad ↦ absurd bad ] in
      runs_keep_uniform len 59 8 (range_of h.memory) h.state w.state c (fill addr bytes ∷ []) (well_formed h stands) is (w.state, (step.block, step.holds), step, refl) asks

pub KeepsUniform-released : (h w : Allocator) (addr len : ℕ) → Steps 59 8 h w (Deallocates h.state addr) → KeepsUniform h.state w.state len
KeepsUniform-released h w addr len steps c is = deallocation_keeps_uniform len h.state w.state c addr is (opened 59 8 h w (Deallocates h.state addr) steps).0

-- ---- room

-- where the chunk is long enough for one more, an allocation has room
pub tile_has_room : {v : StoreContents} {all : List Stored} → IsStore v all → (w : Allocator) (c : Range) (size align : ℕ)
    → HasTileFor v.heap.state c size align (length all)
    → Steps 59 8 v.heap w (Allocates 8 v.heap.state size align None) → ⊥
tile_has_room {v} {all} store w c size align tile steps =
    let s = v.heap.state in
    let len = request_size size align in
    let step = (opened 59 8 v.heap w (Allocates 8 s size align None) steps).0 in
    let full = (uniform_is_full 59 8 (range_of v.heap.memory) s w.state c size align None (well_formed v.heap store.stands) tile.uniform tile.begins step).0 refl in
    let fewer : (length s.used + 1) * len ≤ (length all + 1) * len = mul-le-mul_right len (omega (arith, length-used_le store)) in
    omega (arith, full, fewer, tile.room)
