-- The page source as the reference model sees it: it provides complete pages of its space, from a cursor on.
use Rattle.std.specs.Prelude.{◌≡◌, ◌≢◌, ℕ, ◌+◌, ◌≤◌, ◌<◌, ◌⊎◌, Bool, false, Some, None, min}
use Rattle.std.specs.Int.{next_multiple_of}
use Rattle.rlsf_base.specs.declared.memory.range.Range.{Range}
use Rattle.rlsf_base.specs.Range.{end_of, range_at}
use Rattle.rlsf_model_sizes.specs.Rounding.{round32}
use Rattle.rlsf_model.specs.Note.{Note, alloc, dealloc, grow}
use Rattle.rlsf_model.specs.Terms.{Terms}

-- the space, the address from which on nothing was provided yet, and whether the last range grows
pub record PageCursor : Type 0 where
  pub space : Range
  pub at : ℕ
  pub grows : Bool

-- the same by its parts
abbrev pub page_cursor : Range → ℕ → Bool → PageCursor
page_cursor space at grows = record { space = space; at = at; grows = grows }

-- a length rounded up to complete pages of 65536 bytes
abbrev pub pages : ℕ → ℕ
pages n = next_multiple_of n 65536

-- where the first page begins: at the space's start rounded up to 32; where the space ends before that, at its end
abbrev pub first_page : Range → ℕ
first_page space = min (round32 space.start) (end_of space)

-- it takes nothing back, and isn't one range
abbrev pub terms_of : PageCursor → Terms
terms_of c = record { space = c.space; dealloc = false; grow = c.grows; contiguous = false; min_align = 32 }

-- complete pages are provided at the cursor, which moves to their end; the range that ends at the cursor grows in the same
-- way; what doesn't fit is refused, and then nothing changes
abbrev pub PageLeads : PageCursor → Note → PageCursor → Type 0
PageLeads x (alloc size None) y = (end_of x.space < x.at + pages size) × (y ≡ x)
PageLeads x (alloc size (Some r)) y =
    (x.at + pages size ≤ end_of x.space) × (r ≡ range_at x.at (pages size)) × (y ≡ record { space = x.space; at = x.at + pages size; grows = x.grows })
PageLeads x (grow r len None) y = ((end_of r ≢ x.at) ⊎ (end_of x.space < r.start + pages len)) × (y ≡ x)
PageLeads x (grow r len (Some given)) y =
    (end_of r ≡ x.at) × (r.start + pages len ≤ end_of x.space) × (given ≡ pages len)
    × (y ≡ record { space = x.space; at = r.start + pages len; grows = x.grows })
PageLeads x (dealloc r) y = y ≡ x
