-- What an owner has after it collected payloads, and after it allocated one behind them.
use Rattle.std.proofs.Common.{◌≡◌, ℕ, ◌+◌, ◌≤◌, List, [], ◌∷◌, ◌++◌, length, length-append, replicate, Option, None, Some, IfSome, arith, refl, sym, subst, ◌∙◌}
use Rattle.rlsf_model.specs.Release.{Deallocates}
use Rattle.rlsf_heap.specs.Heap.{HeapView, PayloadView, Steps}
use Rattle.rlsf_heap.specs.Frame.{KeepsAllBounds, KeepsFrame}
use Rattle.rlsf_heap.specs.Replies.{IsAllocated, IsAllocatedZeroed, IsDeallocated}
use Rattle.rlsf_shared_heap.specs.Owners.{CollectsBySteps, Deallocated, IsCollected, IsServed}

module _ (fllen sllen : ℕ) where
  joined : (xs ys : List ℕ) (a b c : HeapView) → Deallocated fllen sllen ys a b → Deallocated fllen sllen xs b c → Deallocated fllen sllen (xs ++ ys) a c
  unfolding Deallocated
  joined [] ys a b c d e = subst (λ h. Deallocated fllen sllen ys a h) (sym e) d
  joined (x ∷ xs) ys a b c d e = (e.0, joined xs ys a b e.0 d e.1, e.2)

  -- nothing was collected
  pub none : (h : HeapView) → IsCollected fllen sllen h h 0
  unfolding CollectsBySteps Deallocated
  none h = record {
    steps = ([], refl, refl);
    identity = refl;
    chunks = refl;
    settled = λ s. s;
    bounds = λ count most wide s. s;
    live = omega arith;
    touches = omega arith;
  }

  -- one payload was deallocated
  pub one : (before after : HeapView) (addr : ℕ) (p : PayloadView) → Steps fllen sllen after (Deallocates before.state addr) → IsDeallocated before after addr p
      → KeepsAllBounds sllen before.state after.state → KeepsFrame before after → after.memory.touches ≤ before.memory.touches + 32
      → IsCollected fllen sllen before after 1
  unfolding CollectsBySteps Deallocated
  one before after addr p step did bounds frame touches = record {
    steps = (addr ∷ [], refl, (before, refl, step));
    identity = frame.heap.identity;
    chunks = frame.chunks;
    settled = frame.settled;
    bounds = bounds;
    live = did.gone.count;
    touches = omega (arith, touches);
  }

  -- some were collected, and then some more
  pub both : (a b c : HeapView) (m n : ℕ) → IsCollected fllen sllen a b m → IsCollected fllen sllen b c n → IsCollected fllen sllen a c (m + n)
  unfolding CollectsBySteps Deallocated
  both a b c m n h k = record {
    steps = (k.steps.0 ++ h.steps.0, omega (arith, length-append k.steps.0 h.steps.0, h.steps.1, k.steps.1), joined k.steps.0 h.steps.0 a b c h.steps.2 k.steps.2);
    identity = k.identity ∙ h.identity;
    chunks = k.chunks ∙ h.chunks;
    settled = λ s. k.settled (h.settled s);
    bounds = λ count most wide s. k.bounds count most wide (h.bounds count most wide s);
    live = omega (arith, h.live, k.live);
    touches = omega (arith, h.touches, k.touches);
  }

  empty : (addrs : List ℕ) (a b : HeapView) → length addrs ≡ 0 → Deallocated fllen sllen addrs a b → b ≡ a
  unfolding Deallocated
  empty [] a b short d = d
  empty (x ∷ xs) a b short d = absurd (omega arith)

  -- an owner that collected nothing has the heap that it had
  pub unchanged : (a b : HeapView) (n : ℕ) → n ≡ 0 → IsCollected fllen sllen a b n → b ≡ a
  unfolding CollectsBySteps Deallocated
  unchanged a b n nothing h = empty h.steps.0 a b (h.steps.1 ∙ nothing) h.steps.2

  -- a payload that was allocated behind some deallocations, as the owner says it
  pub served : (before between after : HeapView) (n size align : ℕ) → IsCollected fllen sllen before between n → (o : Option PayloadView)
      → IfSome o (λ p. IsAllocated between after size align p) → IfSome o (λ p. IsServed before after size align p)
  served before between after n size align k None is = tt
  served before between after n size align k (Some p) is = record {
    identity = is.identity ∙ k.identity;
    requested = is.requested;
    aligned = is.aligned;
    sized = is.sized;
    few = is.few;
    written = λ s. is.written (k.settled s);
  }

  -- the same of a payload of zeros
  pub served_zeros : (before between after : HeapView) (n size align : ℕ) → IsCollected fllen sllen before between n → (o : Option PayloadView)
      → IfSome o (λ p. IsAllocatedZeroed between after size align p)
      → IfSome o (λ p. IsServed before after size align p) × IfSome o (λ p. p.bytes ≡ replicate (length p.bytes) 0)
  served_zeros before between after n size align k None is = (tt, tt)
  served_zeros before between after n size align k (Some p) is = (served before between after n size align k (Some p) is.made, is.zeros)
