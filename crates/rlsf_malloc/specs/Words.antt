-- The words of a heap that is one, and pools that are all of a heap's.
use Rattle.std.specs.Prelude.{◌≡◌, ℕ, ◌≤◌, List}
use Rattle.rlsf_base.specs.declared.memory.range.Range.{Range}
use Rattle.rlsf_base.specs.Range.{end_of}
use Rattle.rlsf_model.specs.ChunkRows.{IsRow}
use Rattle.rlsf_model.specs.Lists.{IsIn}
use Rattle.rlsf_blocks.specs.Blocks.{walked}
use Rattle.rlsf_blocks.specs.Consistency.Pools.{HasPoolAt, pool_at}
use Rattle.rlsf_heap.specs.Heap.{HeapView, IsHeapOf, heap_view}
use Rattle.rlsf_heap.specs.Words.{WordsView}

-- the words are those of a heap, whose bitmaps have so many bits, and its table so many rows and classes
pub record AreWordsOf (fl_bits sl_bits fllen sllen : ℕ) (v : HeapView) (w : WordsView) : Type 0 where
  pub heap : IsHeapOf fl_bits sl_bits fllen sllen w.memory w.table w.state w.entries w.live w.lent
  pub view : heap_view w.memory w.table w.state w.ledger w.lent ≡ v

-- the pools are all of a heap's: each is complete contiguous chunks, and each chunk lies in one
pub record AreAllPools (v : HeapView) (pools : List ℕ) : Type 0 where
  pub rows : (k : ℕ) → HasPoolAt pools k → IsRow v.state (walked (pool_at pools k))
  pub all : (c : Range) → IsIn c v.state.chunks → (k : ℕ) × HasPoolAt pools k × ((pool_at pools k).start ≤ c.start) × (end_of c ≤ end_of (pool_at pools k))
