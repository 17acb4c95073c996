-- A payload whose ticket is redeemed, and issued again.
use Rattle.std.specs.Prelude.{◌≡◌, ℕ, List, length, set, false}
use Rattle.rlsf_base.specs.Ledger.{Entry, entry_of, extent, IsIssued}
use Rattle.rlsf_heap.specs.Heap.{PayloadView}

-- the ticket of the payload was live, and is not live any more; no other entry changes
unfoldable pub IsRedeemed : PayloadView → List Entry → List Entry → Type 0
IsRedeemed p es fs = (k : ℕ) × IsIssued es k (extent p.start (length p.bytes) p.align) × (fs ≡ set es k (entry_of (extent p.start (length p.bytes) p.align) false))
