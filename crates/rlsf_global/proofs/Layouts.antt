-- What users see of a step: the layouts and the bytes at addresses.
use Rattle.std.proofs.Common.{◌≡◌, ◌≢◌, ℕ, List, Some, None, ◌∙◌, ap, sym}
use Rattle.std.specs.Option.{option_map}
use Rattle.rlsf_model.specs.Callers.{bytes_at}
use Rattle.rlsf_model_global.proofs.Maps.{row_at-put_here, row_at-put_other, row_at-without_here, row_at-without_other}
use Rattle.rlsf_model_global.specs.Heap.{Heap, content_at, layout_at}
use Rattle.rlsf_model_global.specs.Rows.{Row, key, put, row_at, without_row}

-- the layout of an address is that of its entry
pub layout_at-row : (h g : Heap) (a b : ℕ) → row_at a g.asked ≡ row_at b h.asked → layout_at g a ≡ layout_at h b
unfolding layout_at
layout_at-row h g a b same = ap (option_map (λ (r : Row). r.1)) same

pub layout_at-some : (h : Heap) (a : ℕ) (r : Row) → row_at a h.asked ≡ Some r → layout_at h a ≡ Some r.1
unfolding layout_at
layout_at-some h a r there = ap (option_map (λ (r : Row). r.1)) there

pub layout_at-none : (h : Heap) (a : ℕ) → row_at a h.asked ≡ None → layout_at h a ≡ None
unfolding layout_at
layout_at-none h a none = ap (option_map (λ (r : Row). r.1)) none

-- the bytes at an address are those of the model's payload
pub content_at-bytes : (h g : Heap) (a b : ℕ) → bytes_at g.flex.machine a ≡ bytes_at h.flex.machine b → content_at g a ≡ content_at h b
unfolding content_at
content_at-bytes h g a b same = same

pub content_at-is : (h : Heap) (a : ℕ) → content_at h a ≡ bytes_at h.flex.machine a
unfolding content_at
content_at-is h a i = bytes_at h.flex.machine a

module _ (h g : Heap) where
  -- an entry more
  pub layout_at-put_here : (row : Row) (rows : List Row) → g.asked ≡ put row rows → layout_at g (key row) ≡ Some row.1
  layout_at-put_here row rows now = layout_at-some g (key row) row (ap (row_at (key row)) now ∙ row_at-put_here row rows)

  pub layout_at-put_other : (row : Row) → g.asked ≡ put row h.asked → (a : ℕ) → a ≢ key row → layout_at g a ≡ layout_at h a
  layout_at-put_other row now a other = layout_at-row h g a a (ap (row_at a) now ∙ row_at-put_other row h.asked a other)

  -- an entry less
  pub layout_at-without_here : (addr : ℕ) → g.asked ≡ without_row addr h.asked → layout_at g addr ≡ None
  layout_at-without_here addr now = layout_at-none g addr (ap (row_at addr) now ∙ row_at-without_here addr h.asked)

  pub layout_at-without_other : (addr : ℕ) → g.asked ≡ without_row addr h.asked → (a : ℕ) → a ≢ addr → layout_at g a ≡ layout_at h a
  layout_at-without_other addr now a other = layout_at-row h g a a (ap (row_at a) now ∙ row_at-without_other addr h.asked a other)

  -- an entry in the place of another
  pub layout_at-moved_other : (addr : ℕ) (row : Row) → g.asked ≡ put row (without_row addr h.asked) → (a : ℕ) → a ≢ addr → a ≢ key row
      → layout_at g a ≡ layout_at h a
  layout_at-moved_other addr row now a other new =
      layout_at-row h g a a (ap (row_at a) now ∙ row_at-put_other row (without_row addr h.asked) a new ∙ row_at-without_other addr h.asked a other)

  -- where it went to another address, none is at the old one
  pub layout_at-moved_left : (addr : ℕ) (row : Row) → g.asked ≡ put row (without_row addr h.asked) → key row ≢ addr → layout_at g addr ≡ None
  layout_at-moved_left addr row now apart =
      layout_at-none g addr (ap (row_at addr) now ∙ row_at-put_other row (without_row addr h.asked) addr (λ same. apart (sym same)) ∙ row_at-without_here addr h.asked)
