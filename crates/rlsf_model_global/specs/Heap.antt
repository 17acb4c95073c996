-- The state of the allocator behind the lock.
use Rattle.std.specs.Prelude.{◌≡◌, ℕ, ◌+◌, ◌<◌, ◌≤◌, Bool, List, [], length, Option, Some, None}
use Rattle.std.specs.Option.{option_map}
use Rattle.rlsf_base.specs.declared.memory.layout.Layout.{Layout}
use Rattle.rlsf_base.specs.declared.memory.range.Range.{Range}
use Rattle.rlsf_model.specs.Callers.{align_at, bytes_at}
use Rattle.rlsf_model.specs.FlexState.{FlexState, flex_empty, with_machine}
use Rattle.rlsf_model.specs.State.{AreSimilar, State}
use Rattle.rlsf_model_global.specs.Cursor.{PageCursor, first_page, page_cursor}
use Rattle.rlsf_model_global.specs.Rows.{Row, row_at}

-- the reference model that asks a source for memory, with its source's cursor, and the layout last asked for each live address
pub record Heap : Type 0 where
  pub flex : FlexState
  pub source : PageCursor
  pub asked : List Row

-- nothing was placed in the space yet
abbrev pub beginning : Range → Bool → Heap
beginning space grows = record { flex = flex_empty; source = page_cursor space (first_page space) grows; asked = [] }

-- with another state of the reference model, and other entries
abbrev pub with_state : Heap → State → List Row → Heap
with_state h m rows = record { flex = with_machine h.flex m; source = h.source; asked = rows }

-- two heaps have the same placement: they are the same except for the bytes of payloads, and for the order of chunks and used blocks
pub record HaveSamePlacement (h g : Heap) : Type 0 where
  pub machine : AreSimilar h.flex.machine g.flex.machine
  pub pools : h.flex.pools ≡ g.flex.pools
  pub kept : h.flex.kept ≡ g.flex.kept
  pub source : h.source ≡ g.source
  pub asked : h.asked ≡ g.asked

-- the last requested layout of the payload at an address, that of its entry, or none if no payload is there
unfoldable pub layout_at : Heap → ℕ → Option Layout
layout_at h addr = option_map (λ r. r.1) (row_at addr h.asked)

-- a payload of a layout with this size and this alignment is at the address
abbrev pub HasLayout : Heap → ℕ → ℕ → ℕ → Type 0
HasLayout h addr size align = (l : Layout) × (layout_at h addr ≡ Some l) × (l.size ≡ size) × (l.align ≡ align)

-- the bytes of the payload at an address, or none where no payload is
unfoldable pub content_at : Heap → ℕ → List ℕ
content_at h addr = bytes_at h.flex.machine addr

-- an entry agrees with what is at its address: a payload of its alignment, with the bytes that were asked for and less than 32 more;
-- no entry, with no payload
abbrev pub Agrees : Option Row → Option ℕ → List ℕ → Type 0
Agrees None align bytes = align ≡ None
Agrees (Some r) align bytes = (align ≡ Some r.1.align) × (r.1.size ≤ length bytes) × (length bytes < r.1.size + 32)

-- the entries list exactly the live payloads
abbrev pub Lists : List Row → State → Type 0
Lists rows m = (a : ℕ) → Agrees (row_at a rows) (align_at m a) (bytes_at m a)
