-- What the reallocations of a heap return, as the exports say it.
use Rattle.std.proofs.Common.{◌≡◌, ◌≢◌, ℕ, ◌≤◌, length, Some, None, refl, sym, subst, ◌∙◌, ap}
use Rattle.rlsf_base.specs.Layout.{IsLayout}
use Rattle.rlsf_model.specs.Callers.{align_at}
use Rattle.rlsf_model.specs.NoMove.{ReallocatesWithoutMove}
use Rattle.rlsf_model.specs.Reallocate.{Reallocates}
use Rattle.rlsf_model.specs.Sized.{live_count}
use Rattle.rlsf_model.specs.State.{filled}
use Rattle.rlsf_heap.specs.Heap.{HeapView, IsWritten, PayloadView}
use Rattle.rlsf_heap.specs.Replies.{IsRefused as IsHeapRefused, IsResized}
use Rattle.rlsf_heap.specs.Thin.{reply_of}
use Rattle.rlsf_heap.specs.ThinReplies.{LeavesOthers}
use Rattle.rlsf_heap.specs.ThinUnknownAlign.{StaysOrMoves}
use Rattle.rlsf_malloc_calls.specs.Calls.{IsSameHeap}
use Rattle.rlsf_malloc_calls.specs.Resizing.{IsResizeRefused, IsPayloadResized, Resizes, ResizesThere, ResizesWide}
use Rattle.rlsf_blocks.proofs.Reallocate.Addresses.{some_reply}

-- where nothing is done, nothing changes
pub unchanged : (v : HeapView) (p : PayloadView) → IsWritten p → IsResizeRefused v p p v
unchanged v p written = record {
  kept = record { heap = refl; start = refl; align = refl; bytes = refl; written = written };
  alike = record { chunks = refl; used = refl; free = refl };
  aligns = refl;
}

module _ (old new : HeapView) (same : IsSameHeap old new) (p : PayloadView) (addr : ℕ) (at : p.start ≡ addr) (some : addr ≢ 0) (size : ℕ) where
  -- the payload has its new size
  pub is_resized : (align : ℕ) (q : PayloadView) → IsResized old new size align p q → IsWritten q → LeavesOthers old.state new.state addr q.start
      → (q.start ≢ addr → align_at new.state addr ≡ None) → IsPayloadResized old p size align q new
  is_resized align q made written others gone = record {
    at = record { start = refl; heap = λ _. made.identity ∙ sym same.identity; written = λ _. written };
    sized = record { live = made.live; requested = made.requested; aligned = made.aligned; sized = made.sized; few = made.few; long = made.long };
    held = made.kept;
    new = λ apart. others.new (λ e. apart (e ∙ sym at));
    gone = λ apart. subst (λ (n : ℕ). align_at new.state n ≡ None) (sym at) (gone (λ e. apart (e ∙ sym at)));
    aligns = λ a off off_new. others.aligns a (λ e. off (e ∙ sym at)) off_new;
  }

  -- it is as it was
  pub is_refused : (align : ℕ) (q : PayloadView) → p.identity ≡ old.identity → p.align ≡ align → IsHeapRefused old new addr align p q → IsResizeRefused old p q new
  is_refused align q heap wide is = record {
    kept = record {
      heap = is.identity ∙ sym heap;
      start = is.start ∙ sym at;
      align = is.requested ∙ sym wide;
      bytes = is.bytes;
      written = is.written;
    };
    alike = is.alike;
    aligns = is.aligns;
  }

  module _ (sllen align : ℕ) where
    pub resized : (q : PayloadView) (to : ℕ) → to ≡ q.start → q.start ≢ 0 → IsLayout size align
        → (IsLayout size align → Reallocates sllen (filled old.state p.start p.bytes) addr size (Some q.start) new.state) → IsPayloadResized old p size align q new
        → live_count new.state ≡ live_count old.state → Resizes sllen old p size align to q new
    resized q to is nonzero layout step done count = record {
      no_layout = λ never. absurd (never layout);
      step = λ l. subst (λ (n : ℕ). Reallocates sllen (filled old.state p.start p.bytes) n size (reply_of to) new.state) (sym at)
          (subst (λ o. Reallocates sllen (filled old.state p.start p.bytes) addr size o new.state) (some_reply q.start nonzero ∙ ap reply_of (sym is)) (step l));
      heap = same;
      at = λ _. sym is;
      resized = λ _. done;
      refused = λ e. absurd (nonzero (sym is ∙ e));
      count = count;
    }

    pub not_resized : (q : PayloadView) → (IsLayout size align → Reallocates sllen (filled old.state p.start p.bytes) addr size None new.state) → IsResizeRefused old p q new
        → live_count new.state ≡ live_count old.state → Resizes sllen old p size align 0 q new
    not_resized q step refused count = record {
      no_layout = λ _. refl;
      step = λ l. subst (λ (n : ℕ). Reallocates sllen (filled old.state p.start p.bytes) n size None new.state) (sym at) (step l);
      heap = same;
      at = λ apart. absurd (apart refl);
      resized = λ apart. absurd (apart refl);
      refused = λ _. refused;
      count = count;
    }

  pub resized_there : (q : PayloadView) (to : ℕ) → to ≡ q.start → q.start ≡ addr → IsLayout size 16
      → ReallocatesWithoutMove (filled old.state p.start p.bytes) addr size (Some q.start) new.state → IsPayloadResized old p size p.align q new
      → live_count new.state ≡ live_count old.state → ResizesThere old p size to q new
  resized_there q to is there layout step done count = record {
    stays = λ _ enough. is ∙ there ∙ sym at;
    there = there ∙ sym at;
    at = λ _. is ∙ there ∙ sym at;
    no_layout = λ never. absurd (never layout);
    step = λ _. subst (λ (n : ℕ). ReallocatesWithoutMove (filled old.state p.start p.bytes) n size (reply_of to) new.state) (sym at)
        (subst (λ o. ReallocatesWithoutMove (filled old.state p.start p.bytes) addr size o new.state) (some_reply q.start (λ e. some (sym there ∙ e)) ∙ ap reply_of (sym is)) step);
    heap = same;
    resized = λ _. done;
    refused = λ e. absurd (some (sym there ∙ sym is ∙ e));
    count = count;
  }

  pub not_resized_there : (q : PayloadView) → q.start ≡ addr → ReallocatesWithoutMove (filled old.state p.start p.bytes) addr size None new.state → (size ≤ length p.bytes → ⊥)
      → IsResizeRefused old p q new → live_count new.state ≡ live_count old.state → ResizesThere old p size 0 q new
  not_resized_there q there step short refused count = record {
    stays = λ _ enough. absurd (short enough);
    there = there ∙ sym at;
    at = λ apart. absurd (apart refl);
    no_layout = λ _. refl;
    step = λ _. subst (λ (n : ℕ). ReallocatesWithoutMove (filled old.state p.start p.bytes) n size None new.state) (sym at) step;
    heap = same;
    resized = λ apart. absurd (apart refl);
    refused = λ _. refused;
    count = count;
  }

  module _ (sllen : ℕ) where
    pub resized_wide : (q : PayloadView) (to : ℕ) → to ≡ q.start → q.start ≢ 0 → IsLayout size 16
        → StaysOrMoves sllen (filled old.state p.start p.bytes) addr size 16 (Some q.start) new.state → (size ≤ length p.bytes → q.start ≡ addr)
        → (q.start ≡ addr → q.align ≡ p.align) → (q.start ≢ addr → q.align ≡ 16) → IsPayloadResized old p size q.align q new
        → live_count new.state ≡ live_count old.state → ResizesWide sllen old p size to q new
    resized_wide q to is nonzero layout step enough there moved done count = record {
      stays = λ _ long. is ∙ enough long ∙ sym at;
      no_layout = λ never. absurd (never layout);
      step = λ _. subst (λ (n : ℕ). StaysOrMoves sllen (filled old.state p.start p.bytes) n size 16 (reply_of to) new.state) (sym at)
          (subst (λ o. StaysOrMoves sllen (filled old.state p.start p.bytes) addr size 16 o new.state) (some_reply q.start nonzero ∙ ap reply_of (sym is)) step);
      heap = same;
      at = λ _. sym is;
      there = λ e. there (sym is ∙ e ∙ at);
      moved = λ _ apart. moved (λ e. apart (is ∙ e ∙ sym at));
      resized = λ _. done;
      refused = λ e. absurd (nonzero (sym is ∙ e));
      count = count;
    }

    pub not_resized_wide : (q : PayloadView) → StaysOrMoves sllen (filled old.state p.start p.bytes) addr size 16 None new.state → (size ≤ length p.bytes → ⊥)
        → IsResizeRefused old p q new → live_count new.state ≡ live_count old.state → ResizesWide sllen old p size 0 q new
    not_resized_wide q step short refused count = record {
      stays = λ _ long. absurd (short long);
      no_layout = λ _. refl;
      step = λ _. subst (λ (n : ℕ). StaysOrMoves sllen (filled old.state p.start p.bytes) n size 16 None new.state) (sym at) step;
      heap = same;
      at = λ apart. absurd (apart refl);
      there = λ e. absurd (some (sym at ∙ sym e));
      moved = λ apart. absurd (apart refl);
      resized = λ apart. absurd (apart refl);
      refused = λ _. refused;
      count = count;
    }
