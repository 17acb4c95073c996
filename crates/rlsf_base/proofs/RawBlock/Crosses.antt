-- The parts of a memory may cross threads.
use base.Share.{quarter, three_quarters}
use types.Keyed.{entry_keyless, entries_keyless}
use Rattle.rlsf_base.specs.Ledger.{Entry, Extent, entry_shares, entry_owns, extent, ledger_owns, nowhere, shown_by}
use Rattle.rlsf_base.specs.contracts.memory.ledger.Ledger as Ledger
use Rattle.rlsf_base.specs.contracts.memory.ledger.Ticket as Ticket
use Rattle.std.proofs.Common.{ℕ, zero, suc, ◌+◌, ◌*◌, length, Bool, true, false, List, [], ◌∷◌}
use base.Fraction.{full_share}
use base.Shift.{Keyless}
use denote.RattleType.{RattleType}
use denote.RawPtr.{Ptr, block_ptr, null_ptr}
use denote.Builtin.{u8}
use denote.Struct.Struct.{exits_of}
use denote.Struct.Owning.{shape, fields, to}
use denote.Param.Send.{IsSend, IsSync, Common, AllSend, part_keyless, owning_send, struct_send, struct_sync, sendable}
use Rattle.core.specs.declared.alloc.Allocator.{Ghosts}
use Rattle.std_alloc.proofs.SendSync.{FreesAnywhere, quiet}
use Rattle.rlsf_base.specs.Out.{Change, Kept, here, raw, out, kept_at}
use Rattle.rlsf_base.specs.Steps.Ownership.{units_ty, byte_in, held, byte_shown, bytes_shown, way_if, ways_of, begins_in, own_unit, bytes_own, bytes_lent, deed_owns, units_own}
use Rattle.rlsf_base.specs.contracts.memory.block.Bytes as Bytes
use Rattle.rlsf_base.specs.contracts.memory.block.Deed as Deed
use Rattle.rlsf_base.specs.contracts.memory.block.Units as Units
use Rattle.rlsf_base.specs.contracts.memory.counters.Counters as Counters

u8_send : IsSend u8
u8_send = search sendable

u8_sync : IsSync u8
u8_sync = search sendable

byte-Keyless : (t : Kept) (x b o : ℕ) → Keyless (byte_in t x b o)
byte-Keyless here x b o = part_keyless u8 u8_send full_share x b o
byte-Keyless raw x b o = tt
byte-Keyless out x b o = tt

held-Keyless : (is : ℕ → Kept) (k : ℕ) (b o : ℕ) (bs : List ℕ) → Keyless (held is k bs b o)
held-Keyless is k b o [] = tt
held-Keyless is k b o (x ∷ xs) = (byte-Keyless (is k) x b o, held-Keyless is (suc k) b (o + 1) xs)

byte-Common : (t : Kept) (x b o : ℕ) → Common (byte_shown t x b o)
byte-Common here x b o κ = u8_sync.shared x b o κ
byte-Common raw x b o κ = tt
byte-Common out x b o κ = tt

bytes_shown-Common : (is : ℕ → Kept) (k : ℕ) (b o : ℕ) (bs : List ℕ) → Common (bytes_shown is k bs b o)
bytes_shown-Common is k b o [] κ = tt
bytes_shown-Common is k b o (x ∷ xs) κ = (byte-Common (is k) x b o κ, bytes_shown-Common is (suc k) b (o + 1) xs κ)

way-Keyless : (t : Bool) (b o : ℕ) → Keyless (way_if t b o)
way-Keyless true b o = (tt, tt)
way-Keyless false b o = tt

ways-Keyless : (is : ℕ → Bool) (u n b o : ℕ) → Keyless (ways_of is u n b o)
ways-Keyless is u zero b o = tt
ways-Keyless is u (suc n) b o = (way-Keyless (is u) b (u * 16 + o), ways-Keyless is (suc u) n b o)

bytes-Keyless : (p : Ptr) (skip : ℕ) (bs : List ℕ) (cs : List Change) (units : ℕ) → Keyless (bytes_own p skip bs cs units)
bytes-Keyless (block_ptr b o) skip bs cs units = (tt, (held-Keyless (kept_at cs) 0 b (skip + o) bs, ways-Keyless (own_unit cs skip (length bs)) 0 units b o))
bytes-Keyless null_ptr skip bs cs units = tt

bytes_lent-Common : (p : Ptr) (skip : ℕ) (bs : List ℕ) (cs : List Change) → Common (bytes_lent p skip bs cs)
bytes_lent-Common (block_ptr b o) skip bs cs κ = (tt, bytes_shown-Common (kept_at cs) 0 b (skip + o) bs κ)
bytes_lent-Common null_ptr skip bs cs κ = tt

pub Bytes-send : IsSend Bytes.the_row
Bytes-send =
    let O = Bytes.the_type in let all : AllSend (fields O) = (search sendable, tt) in
    owning_send O all (λ d. bytes-Keyless d.at d.skip d.bytes d.out d.units) (λ k. quiet (to O) (exits_of k (fields O)) ((struct_send (shape O) all).leaving k))

units-Keyless : (p : Ptr) (first count : ℕ) → Keyless (units_own p first count)
units-Keyless (block_ptr b o) first count = tt
units-Keyless null_ptr first count = tt

pub Units-send : IsSend Units.the_row
Units-send =
    let O = Units.the_type in let all : AllSend (fields O) = (search sendable, tt) in
    owning_send O all (λ d. units-Keyless d.at d.first d.count) (λ k. quiet (to O) (exits_of k (fields O)) ((struct_send (shape O) all).leaving k))

pub Bytes-sync : IsSync Bytes.the_row
Bytes-sync = let O = Bytes.the_type in
    record { shared = λ d b o κ. ((struct_sync (shape O) (search sendable, tt)).shared (to O d) b o κ, bytes_lent-Common d.at d.skip d.bytes d.out κ) }

module _ (A : RattleType) (g : Ghosts A.Denot) where
  deed-Keyless : FreesAnywhere A.Denot g → (a : A.Denot) (p : Ptr) (units skip len : ℕ) → Keyless (deed_owns (g.dealloc_token a) p units skip len)
  deed-Keyless f a (block_ptr b o) units skip len = (f.frees a (units_ty units) (block_ptr b o), (tt, (ways-Keyless (begins_in skip len) 0 units b o, tt)))
  deed-Keyless f a null_ptr units skip len = tt

  pub Deed-send : FreesAnywhere A.Denot g → IsSend (Deed.the_row A g)
  Deed-send f =
      let O = Deed.the_type A g in let all : AllSend (fields O) = (search sendable, tt) in
      owning_send O all (λ d. deed-Keyless f d.alloc d.at d.units d.skip d.len) (λ k. quiet (to O) (exits_of k (fields O)) ((struct_send (shape O) all).leaving k))

  pub Deed-sync : IsSync (Deed.the_row A g)
  Deed-sync = let O = Deed.the_type A g in record { shared = λ d b o κ. ((struct_sync (shape O) (search sendable, tt)).shared (to O d) b o κ, tt) }

pub Counters-send : IsSend Counters.the_row
Counters-send =
    let O = Counters.the_type in let all : AllSend (fields O) = tt in
    owning_send O all (λ d. tt) (λ k. quiet (to O) (exits_of k (fields O)) ((struct_send (shape O) all).leaving k))

pub Counters-sync : IsSync Counters.the_row
Counters-sync = record { shared = λ d b o κ q. part_keyless Counters.the_row Counters-send q d b o }

entry-Keyless : (δ k : ℕ) (t : Bool) (v : Extent) → Keyless (entry_owns δ k t v)
entry-Keyless δ k true v = entry_keyless entry_shares δ k (quarter, v)
entry-Keyless δ k false v = entry_keyless entry_shares δ k (full_share, v)

ledger-Keyless : (δ k : ℕ) (es : List Entry) → Keyless (ledger_owns δ k es)
ledger-Keyless δ k [] = entries_keyless entry_shares δ k (λ _. (full_share, nowhere))
ledger-Keyless δ k (e ∷ es) = (entry-Keyless δ k e.live (shown_by e), ledger-Keyless δ (suc k) es)

pub Ledger-send : IsSend Ledger.the_row
Ledger-send =
    let O = Ledger.the_type in let all : AllSend (fields O) = (search sendable, tt) in
    owning_send O all (λ d. ledger-Keyless d.name 0 d.entries) (λ k. quiet (to O) (exits_of k (fields O)) ((struct_send (shape O) all).leaving k))

pub Ticket-send : IsSend Ticket.the_row
Ticket-send =
    let O = Ticket.the_type in let all : AllSend (fields O) = (search sendable, tt) in
    owning_send O all (λ d. entry_keyless entry_shares d.name d.key (three_quarters, extent d.addr d.len d.align))
    (λ k. quiet (to O) (exits_of k (fields O)) ((struct_send (shape O) all).leaving k))

pub Ticket-sync : IsSync Ticket.the_row
Ticket-sync = record { shared = λ d b o κ q. part_keyless Ticket.the_row Ticket-send q d b o }
