-- The first bytes of a payload that is resized.
use Rattle.std.proofs.Common.{◌≡◌, ℕ, ◌≤◌, Bool, true, false, cond, length, min, take, Ok, arith, sym, ◌∙◌, ap, subst}
use Rattle.std.proofs.lemmas.List.{take-take}
use Rattle.std.specs.declared.num.NonZeroUsize.{NonZeroUsize}
use Rattle.rlsf_base.specs.Addr.{at}
use Rattle.rlsf_base.specs.Space.{range_of}
use Rattle.rlsf_base.specs.declared.memory.layout.Layout.{Layout}
use Rattle.rlsf_global.proofs.Heaps.{locked_heap}
use Rattle.rlsf_global.proofs.Layouts.{content_at-is}
use Rattle.rlsf_global.proofs.Placements.{locked_stands}
use Rattle.rlsf_global.specs.Kept.{KeepsFirst}
use Rattle.rlsf_global.specs.Locked.{IsLocked, LockedContents, flex_of}
use Rattle.rlsf_model.specs.Callers.{bytes_at}
use Rattle.rlsf_model_global.proofs.Histories.{steps_keep_heap}
use Rattle.rlsf_model_global.proofs.AddressesLeft.{payloads_serve}
use Rattle.rlsf_model_global.proofs.Moved.{reallocation_as_leaves, reallocation_leaves, reallocation_there_leaves}
use Rattle.rlsf_model_global.specs.Heap.{Heap, content_at}
use Rattle.rlsf_model_global.specs.History.{reallocate_as}
use Rattle.rlsf_model_global.specs.Left.{IsMovedTo, in_both}
use Rattle.rlsf_model_global.specs.Moves.{HeapReallocates, HeapReallocatesAs, HeapReallocatesThere}
use Rattle.rlsf_model_global.specs.Standing.{IsHeap}

-- who keeps more bytes keeps fewer
fewer : (n m : ℕ) (before after : Heap) (addr to : ℕ) → n ≤ m → KeepsFirst m before addr after to → KeepsFirst n before addr after to
fewer n m before after addr to le kept =
    sym (take-take n m (content_at after to) le) ∙ ap (take n) kept ∙ take-take n m (content_at before addr) le

module _ (v : LockedContents) (is : IsLocked (flex_of v) v.heap.asked) (g : Heap) (to : NonZeroUsize) (addr : ℕ) where
  heap : IsHeap (range_of v.memory) v.heap
  heap = locked_heap v (locked_stands v is)

  -- another layout
  pub kept_elsewhere : (wanted : Layout) → HeapReallocates v.heap addr wanted (Ok to) g → KeepsFirst (min wanted.size (length (content_at v.heap addr))) v.heap addr g (at to)
  kept_elsewhere wanted step = (reallocation_leaves (range_of v.memory) v.heap g addr wanted to heap step).1.bytes

  module _ (layout : Layout) (n : ℕ) where
    -- another size in place
    pub kept_there : HeapReallocatesThere v.heap addr layout n (Ok to) g → KeepsFirst (in_both v.heap g addr (at to)) v.heap addr g (at to)
    kept_there step = (reallocation_there_leaves (range_of v.memory) v.heap g addr layout n to heap step).1.3.bytes

    -- another size, there or elsewhere
    module _ (enabled : Bool) (step : HeapReallocatesAs enabled v.heap addr layout n (Ok to) g) where
      moved : IsMovedTo v.heap g addr (at to) (cond enabled (in_both v.heap g addr (at to)) (min layout.size n)) layout n
      moved = reallocation_as_leaves (range_of v.memory) enabled v.heap g addr layout n to heap step

      pub kept_usable : enabled ≡ true → KeepsFirst (in_both v.heap g addr (at to)) v.heap addr g (at to)
      kept_usable on = subst (λ b. KeepsFirst (cond b (in_both v.heap g addr (at to)) (min layout.size n)) v.heap addr g (at to)) on moved.3.bytes

      pub kept_asked : layout.size ≤ length (bytes_at v.heap.flex.machine addr) → KeepsFirst (min layout.size n) v.heap addr g (at to)
      kept_asked sized = by enabled moved.3.bytes
        where
          usable : layout.size ≤ length (content_at v.heap addr)
          usable = subst (λ l. layout.size ≤ length l) (sym (content_at-is v.heap addr)) sized

          enough : n ≤ length (content_at g (at to))
          enough = subst (λ k. k ≤ length (content_at g (at to))) moved.1
              (payloads_serve (range_of v.memory) g (at to) moved.0 (steps_keep_heap (range_of v.memory) v.heap g (reallocate_as enabled addr layout n (Ok to)) heap step)
              moved.3.layout).enough

          by : (b : Bool) → KeepsFirst (cond b (in_both v.heap g addr (at to)) (min layout.size n)) v.heap addr g (at to) → KeepsFirst (min layout.size n) v.heap addr g (at to)
          by true kept = fewer (min layout.size n) (in_both v.heap g addr (at to)) v.heap g addr (at to) (omega (arith, usable, enough)) kept
          by false kept = kept
