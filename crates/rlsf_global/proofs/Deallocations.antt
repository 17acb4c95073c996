-- What deallocations leave of a heap.
use Rattle.std.proofs.Common.{◌≡◌, ◌≢◌, ℕ}
use Rattle.rlsf_global.proofs.Layouts.{content_at-bytes, layout_at-without_here, layout_at-without_other}
use Rattle.rlsf_global.specs.Results.{HeapDeallocated}
use Rattle.rlsf_model.specs.Callers.{bytes_at}
use Rattle.rlsf_model_global.specs.Heap.{Heap}
use Rattle.rlsf_model_global.specs.Rows.{without_row}

-- the entry is taken out, and the bytes at all other addresses stay
pub deallocated : (h g : Heap) (addr : ℕ) → g.asked ≡ without_row addr h.asked → ((a : ℕ) → a ≢ addr → bytes_at g.flex.machine a ≡ bytes_at h.flex.machine a)
    → HeapDeallocated h g addr
deallocated h g addr asked bytes = record {
  gone = layout_at-without_here h g addr asked;
  layouts = layout_at-without_other h g addr asked;
  contents = λ a off. content_at-bytes h g a a (bytes a off);
}
