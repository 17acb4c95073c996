-- What is true of every heap that steps lead to.
use Rattle.rlsf_base.specs.declared.memory.range.Range.{Range}
use Rattle.rlsf_model.specs.FlexWellFormed.{IsFlexWellFormed}
use Rattle.rlsf_model_global.specs.Cursor.{terms_of}
use Rattle.rlsf_model_global.specs.Heap.{Heap, Lists}
use Rattle.rlsf_model_global.specs.Pages.{MayOwe}
use Rattle.rlsf_model_global.specs.Rows.{IsSorted}

-- The reference model's state is well-formed over the page source, whose cursor is behind what it provided; and the entries list exactly
-- the live payloads, in the order of their addresses.
pub record IsHeap (memory : Range) (h : Heap) : Type 0 where
  pub flex : IsFlexWellFormed 64 64 memory (terms_of h.source) h.flex
  pub owed : MayOwe h.source h.flex.pools
  pub sorted : IsSorted h.asked
  pub lists : Lists h.asked h.flex.machine
