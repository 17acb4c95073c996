-- How calls of a program in C follow each other: what a heap's creation and an added pool leave is what a check asks for, which returns 1, and what
-- the check leaves is the heap.
use Rattle.std.proofs.Common.{◌≡◌, ◌≢◌, ℕ, zero, suc, ◌≤◌, List, [], ◌∷◌, arith, inr, refl, sym, subst}
use base.Fraction.{full_share}
use base.Logic.{ent, ex, sep, emp, ex_i}
use contract.Monad.{fact, fact_i}
use denote.RawPtr.{Ptr, lies_at}
use seplogic.Ra.Ura.{Ura}
use types.Kit.{‵, raw, some, ◌$◌, ◌∵◌, !, qed, by, move, join, pick, fpick, fpack, fsplit, use0, use1, done}
use types.Logic.{Logic, sem}
use Rattle.rlsf_base.specs.Piece.{Piece}
use Rattle.rlsf_base.specs.Range.{end_of, range_at}
use Rattle.rlsf_base.specs.declared.memory.range.Range.{Range}
use Rattle.rlsf_blocks.specs.Blocks.{walked}
use Rattle.rlsf_blocks.specs.Consistency.Consistent.{AreConsistent, ArePoolsLegible}
use Rattle.rlsf_blocks.specs.Consistency.Pools.{HasPoolAt, pool_at}
use Rattle.rlsf_blocks.specs.Laws.{read_from}
use Rattle.rlsf_blocks.proofs.Consistency.Represented.{represented_are_consistent}
use Rattle.rlsf_heap.specs.Heap.{HeapView, heap_view}
use Rattle.rlsf_heap.specs.Loans.{owns_loan}
use Rattle.rlsf_heap.specs.Words.{WordsView}
use Rattle.rlsf_malloc_calls.specs.Blocks.{IsAny, IsCheckOf}
use Rattle.rlsf_malloc_calls.specs.Calls.{AddsLent, IsFreshHeap, IsReady}
use Rattle.rlsf_malloc.specs.Handle.{HoldsValue, HoldsSome, Returns}
use Rattle.rlsf_malloc.specs.Words.{AreAllPools}
use Rattle.rlsf_malloc.proofs.AsWords.{Are, as_heap, as_words}
use Rattle.rlsf_malloc.proofs.HeapKinds.{Kind, row, words}
use Rattle.rlsf_model.specs.ChunkRows.{IsRow}
use Rattle.rlsf_model.specs.Lists.{IsIn}
use Rattle.rlsf_model.specs.State.{empty}
use Rattle.rlsf_model.proofs.ChunkRows.{IsRow-inserted}
use Rattle.rlsf_model.proofs.TakenPools.{Origin, inserted_taken}

module _ (K : Kind) where
  -- the words of a heap
  abbrev pub WordsOf : HeapView → Type 0
  WordsOf v = (w : WordsView) × Are K v w

  -- what adding a range leaves: a heap, and the caller's bytes
  abbrev pub Added : HeapView → ℕ → ℕ → ℕ → Type 0
  Added before start len taken = (after : HeapView) × (back : Piece) × AddsLent K.rows before start len taken back after

  -- over pools that are all of a heap's, its words are consistent
  pub are_consistent : (v : HeapView) (w : WordsView) (pools : List ℕ) → Are K v w → AreAllPools v pools → AreConsistent K.rows K.classes pools w.memory w.table
  are_consistent v w pools are all =
      let its : AreAllPools (heap_view w.memory w.table w.state w.ledger w.lent) pools = subst (λ x. AreAllPools x pools) (sym are.view) all in
      represented_are_consistent K.rows K.classes pools w.memory w.table (read_from w.memory w.state) are.heap.stands its.rows its.all

  -- the pool that was added to a new heap is all of its pools
  pub only_pool : (before after : HeapView) (start len taken : ℕ) (back : Piece) → before.state ≡ empty → taken ≢ 0 → AddsLent K.rows before start len taken back after
      → AreAllPools after (start ∷ taken ∷ [])
  only_pool before after start len zero back none taken adds = absurd (taken refl)
  only_pool before after start len (suc n) back none taken adds = record {
    rows = its_rows;
    all = λ c i. its_chunk c ((inserted_taken K.rows before.state after.state (range_at start len) (suc n) K.valid.some_rows adds.adds.step).1.origin c i);
  }
    where
      pools : List ℕ
      pools = start ∷ suc n ∷ []

      its_rows : (k : ℕ) → HasPoolAt pools k → IsRow after.state (walked (pool_at pools k))
      its_rows zero is = IsRow-inserted K.rows before.state after.state (range_at start len) (suc n) adds.adds.step
      its_rows (suc k) is = absurd (omega (arith, is))

      its_chunk : (c : Range) → Origin before.state (range_at start len) (suc n) c
          → (k : ℕ) × HasPoolAt pools k × ((pool_at pools k).start ≤ c.start) × (end_of c ≤ end_of (pool_at pools k))
      its_chunk c (Origin.old i) = absurd (subst (λ s. IsIn c s.chunks) none i)
      its_chunk c (Origin.new low high) = (0, omega arith, low, high)
      its_chunk c (Origin.longer d i a b e) = absurd (subst (λ s. IsIn d s.chunks) none i)

  module _ {M : Type 1} {𝓤 : Ura M} (𝓛 : Logic 𝓤) (h : Ptr) where
    -- a heap that was created may get a pool
    pub created : (block : Ptr) (start len : ℕ) → ent 𝓤 (sem 𝓛 (HoldsSome (row K) h (λ v. IsFreshHeap block start len v)))
        (ex 𝓤 (λ (v : (v : HeapView) × IsFreshHeap block start len v). sem 𝓛 (HoldsValue (row K) IsReady h v.0)))
    created block start len = qed 𝓛 (‵ (HoldsSome (row K) h (λ v. IsFreshHeap block start len v)) ∷ []) ∵ fpick ! (λ v.
        fpack ! (IsReady v.0) (λ _. lies_at (row K) full_share h v.0) v.1.ready $
        by ! (ex_i 𝓤 (λ (u : (u : HeapView) × IsFreshHeap block start len u). sem 𝓛 (HoldsValue (row K) IsReady h u.0)) v))

    -- a heap that got one may be called again, and the bytes behind the pool are the caller's
    pub added : (before : HeapView) (start len taken : ℕ) → ent 𝓤 (sem 𝓛 (Returns (row K) h (λ after back. AddsLent K.rows before start len taken back after)))
        (ex 𝓤 (λ (x : Added before start len taken). sep 𝓤 (sem 𝓛 (HoldsValue (row K) IsReady h x.0)) (sem 𝓛 (owns_loan x.1))))
    added before start len taken = qed 𝓛 (‵ (Returns (row K) h (λ after back. AddsLent K.rows before start len taken back after)) ∷ []) ∵ fpick ! (λ x.
        fsplit ! $ fpack ! (IsReady x.0) (λ _. lies_at (row K) full_share h x.0) x.2.adds.heap.ready $ join ! $
        by ! (ex_i 𝓤 (λ (y : Added before start len taken). sep 𝓤 (sem 𝓛 (HoldsValue (row K) IsReady h y.0)) (sem 𝓛 (owns_loan y.1))) x))

    -- its pools may be checked
    pub checkable : (v : HeapView) (pools : List ℕ) → AreAllPools v pools → ent 𝓤 (sem 𝓛 (HoldsValue (row K) IsReady h v))
        (ex 𝓤 (λ (w : WordsOf v). sep 𝓤 (sem 𝓛 (HoldsValue (words K) IsAny h w.0)) (fact 𝓤 (ArePoolsLegible K.rows K.classes pools w.0.memory w.0.table))))
    checkable v pools all = qed 𝓛 (‵ (HoldsValue (row K) IsReady h v) ∷ []) ∵ fpick ! (λ ready.
        use1 𝓛 (some (λ (w : WordsOf v). ‵ (lies_at (words K) full_share h w.0))) (as_words K 𝓛 v h) $ pick ! (λ w.
        fpack ! (IsAny w.0) (λ _. lies_at (words K) full_share h w.0) tt $
        use0 𝓛 (raw (fact 𝓤 (ArePoolsLegible K.rows K.classes pools w.0.memory w.0.table))) (fact_i 𝓤 _ (emp 𝓤) (inr (are_consistent v w.0 pools w.1 all))) $
        move ! (1 ∷ 0 ∷ []) $ join ! $
        by ! (ex_i 𝓤 (λ (u : WordsOf v). sep 𝓤 (sem 𝓛 (HoldsValue (words K) IsAny h u.0)) (fact 𝓤 (ArePoolsLegible K.rows K.classes pools u.0.memory u.0.table))) w)))

    -- the check returns 1, and leaves the heap
    pub checked : (v : HeapView) (w : WordsView) (pools : List ℕ) (n : ℕ) → AreAllPools v pools → IsReady v → Are K v w
        → ent 𝓤 (sem 𝓛 (HoldsSome (words K) h (λ after. IsCheckOf K.rows K.classes w pools n × (after ≡ w))))
        (sep 𝓤 (sem 𝓛 (HoldsValue (row K) IsReady h v)) (fact 𝓤 (n ≡ 1)))
    checked v w pools n all ready are = qed 𝓛 (‵ (HoldsSome (words K) h (λ after. IsCheckOf K.rows K.classes w pools n × (after ≡ w))) ∷ []) ∵ fpick ! (λ x.
        use1 𝓛 (‵ (lies_at (row K) full_share h v)) (as_heap K 𝓛 v x.0 (subst (Are K v) (sym x.1.1) are) h) $
        fpack ! (IsReady v) (λ _. lies_at (row K) full_share h v) ready $
        use0 𝓛 (raw (fact 𝓤 (n ≡ 1))) (fact_i 𝓤 _ (emp 𝓤) (x.1.0.one.1 (are_consistent v w pools are all))) $ move ! (1 ∷ 0 ∷ []) $ join ! $ done !)
