-- The heap and its payloads, as contracts see them, and the steps that the calls make.
use Rattle.std.specs.Prelude.{◌≡◌, ◌+◌, ◌≤◌, ◌<◌, ℕ, Bool, true, false, ◌&&◌, ◌||◌, leb, List, length, Option, Some, None, Result, Ok, Err, All, IfSome}
use Rattle.rlsf_base.specs.Ledger.{Entry, Extent, IsIssued}
use Rattle.rlsf_base.specs.Changes.{AreBytesHere}
use Rattle.rlsf_base.specs.OpenSpace.{Home, home_of, IsAway}
use Rattle.rlsf_base.specs.Out.{Change, is_own}
use Rattle.rlsf_base.specs.Piece.{Piece}
use Rattle.rlsf_base.specs.declared.memory.range.Range.{Range}
use Rattle.rlsf_base.specs.Range.{end_of, range_at}
use Rattle.rlsf_model_sizes.specs.SizeClass.{IsValid}
use Rattle.rlsf_base.specs.Space.{Space, out_at, range_of}
use Rattle.rlsf_model.specs.Lists.{IsIn as IsListed}
use Rattle.rlsf_model.specs.Sized.{live_count}
use Rattle.rlsf_model.specs.State.{State, Used, usable}
use Rattle.rlsf_model.specs.WellFormed.{coverage, IsWellFormed, itself}
use Rattle.rlsf_table.specs.Table.{Table}
use Rattle.rlsf_blocks.specs.Laws.{read_from}
use Rattle.rlsf_blocks.specs.StandsFor.{contents, StandsFor}
use Rattle.rlsf_tlsf.specs.Steps.Moves.{bare}

-- which heap it is: its memory, and its ledger
pub record Identity : Type 0 where
  pub home : Home
  pub ledger : ℕ

-- a heap: which one it is, its memory, its class table, and its state of the reference model; the bytes of a payload that is out are
-- the last ones that the memory had there; and whether its memory's bytes are lent to it in ranges, so that some may not be its own
pub record HeapView : Type 0 where
  pub identity : Identity
  pub memory : Space
  pub table : Table
  pub state : State
  pub lent : Bool

-- the heap by its fields
abbrev pub heap_view : Space → Table → State → ℕ → Bool → HeapView
heap_view m t s ledger lent = record { identity = record { home = home_of m; ledger = ledger }; memory = m; table = t; state = read_from m s; lent = lent }

-- an address in no chunk
abbrev pub IsOutsideChunks : State → ℕ → Type 0
IsOutsideChunks s a = coverage itself s.chunks a ≡ 0

-- each byte outside of all chunks is the memory's own
abbrev pub OwnsRest : Space → State → Type 0
OwnsRest m s = (a : ℕ) → m.start ≤ a → IsOutsideChunks s a → is_own (out_at m a) ≡ true

-- which bytes are lent to the heap: those that are the memory's own, or in a chunk
unfoldable pub lent_bytes : HeapView → ℕ → Bool
lent_bytes v = λ a. leb v.memory.start a && (is_own (out_at v.memory a) || leb 1 (coverage itself v.state.chunks a))

-- each byte of a range is among these
unfoldable pub AreAmong : (ℕ → Bool) → Range → Type 0
AreAmong bytes r = (a : ℕ) → r.start ≤ a → a < end_of r → bytes a ≡ true

-- each byte of a range is lent to the heap
abbrev pub IsLent : HeapView → Range → Type 0
IsLent v r = AreAmong (lent_bytes v) r

-- a range is the heap's to use: any range of its memory is, unless bytes are lent to it in ranges
abbrev pub IsUsable : HeapView → Range → Type 0
IsUsable v r = v.lent ≡ true → IsLent v r

-- a payload that is out: its heap, its address, its alignment, its bytes, and the changes of their states
pub record PayloadView : Type 0 where
  pub identity : Identity
  pub start : ℕ
  pub align : ℕ
  pub bytes : List ℕ
  pub out : List Change

-- the payload by its fields
abbrev pub payload_view : Piece → ℕ → ℕ → PayloadView
payload_view p align ledger = record { identity = record { home = p.home; ledger = ledger }; start = p.start; align = align; bytes = p.bytes; out = p.out }

-- a ticket shows the address and the length of a part, and an alignment
abbrev pub IsTicketOf : Piece → ℕ → Extent → Type 0
IsTicketOf p align shown = (p.start ≡ shown.addr) × (length p.bytes ≡ shown.len) × (align ≡ shown.align)

-- each byte of a payload is here
abbrev pub IsWritten : PayloadView → Type 0
IsWritten p = AreBytesHere p.out 0 (length p.bytes)

-- the addresses of a payload's bytes
abbrev pub payload_range : PayloadView → Range
payload_range p = range_at p.start (length p.bytes)

-- the address of a payload, if there is one
abbrev pub addr_of : Option PayloadView → Option ℕ
addr_of None = None
addr_of (Some p) = Some p.start

-- the address of a reallocated payload, or none if the reallocation was refused
abbrev pub moved_to : Result PayloadView PayloadView → Option ℕ
moved_to (Ok p) = Some p.start
moved_to (Err p) = None

-- each payload in a list is one of this heap
abbrev pub AreOf : Identity → List (Option PayloadView) → Type 0
AreOf heap slots = All (λ slot. IfSome slot (λ payload. payload.identity ≡ heap)) slots

-- a ticket shows a payload of the state: its address, its length, and the alignment that was requested
abbrev pub IsPayload : State → Extent → Type 0
IsPayload s v = (u : Used) × IsListed u s.used × (u.payload ≡ v.addr) × ((usable u).len ≡ v.len) × (u.align ≡ v.align)

-- each live entry is that of a live payload, and no two of them have the same address
pub record AreIssued (s : State) (es : List Entry) : Type 0 where
  pub issued : (k : ℕ) (v : Extent) → IsIssued es k v → IsPayload s v
  pub apart : (j k : ℕ) (v w : Extent) → IsIssued es j v → IsIssued es k w → v.addr ≡ w.addr → j ≡ k

-- what is true of every heap's fields: the parameters are valid, memory and table represent the state, the ghost state has no bytes of
-- payloads, the live entries of the ledger are those of live payloads, the count is that of the live payloads, and unless its bytes are lent to it
-- in ranges, it owns those outside of all chunks
pub record IsHeapOf (fl_bits sl_bits fllen sllen : ℕ) (m : Space) (t : Table) (s : State) (es : List Entry) (count : ℕ) (lent : Bool) : Type 0 where
  pub valid : IsValid fl_bits sl_bits fllen sllen
  pub stands : StandsFor fllen sllen (contents m t) (read_from m s)
  pub is_bare : bare s ≡ s
  pub tickets : AreIssued (read_from m s) es
  pub counted : count ≡ live_count (read_from m s)
  pub rest : lent ≡ false → OwnsRest m s

-- the state is well-formed in the heap's memory
unfoldable pub Stands : ℕ → ℕ → HeapView → Type 0
Stands fllen sllen v = IsWellFormed fllen sllen (range_of v.memory) v.state

-- the words in the memory and the class table encode the state
unfoldable pub IsRepresented : ℕ → ℕ → HeapView → Type 0
IsRepresented fllen sllen v = StandsFor fllen sllen (contents v.memory v.table) v.state

-- the model's step leads to the state after, which is well-formed
unfoldable pub Steps : ℕ → ℕ → HeapView → (State → Type 0) → Type 0
Steps fllen sllen after step = step after.state × Stands fllen sllen after

-- the range lies in one chunk, behind 16 bytes or more and before the 32 bytes of the sentinel
unfoldable pub LiesInChunk : State → Range → Type 0
LiesInChunk s r = (c : Range) × IsListed c s.chunks × (c.start + 16 ≤ r.start) × (end_of r + 32 ≤ end_of c)

-- each byte of a payload is its owner's: it is out of the heap's memory
unfoldable pub IsOwners : HeapView → PayloadView → Type 0
IsOwners v p = IsAway v.memory (payload_range p)
