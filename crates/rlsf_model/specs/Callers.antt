-- What callers see of the reference model: a map from addresses to payloads, and nothing of chunks, blocks or free ranges.
use Rattle.std.specs.Prelude.{◌≡◌, ◌≢◌, ℕ, ◌+◌, ◌<◌, ◌≤◌, ◌==◌, List, [], ◌∷◌, ◌++◌, length, take, drop, Option, Some, None, find}
use Rattle.std.specs.List.{splice}
use Rattle.std.specs.Option.{option_map, option_map_or}
use Rattle.rlsf_model.specs.Reallocate.{Keeps}
use Rattle.rlsf_model.specs.Run.{Event, insert, append, allocate, deallocate, reallocate, fill, remove, trim}
use Rattle.rlsf_model.specs.State.{State}

-- a payload: the requested alignment, and its bytes, all that its caller may use
pub record Payload : Type 0 where
  pub align : ℕ
  pub bytes : List ℕ

-- the payload that is live at an address, that of the used block whose caller has it, or none
abbrev pub payload_at : State → ℕ → Option Payload
payload_at s addr = option_map (λ u. record { align = u.align; bytes = u.bytes }) (find (λ u. u.payload == addr) s.used)

-- the alignment of the payload at an address, or none where no payload is
unfoldable pub align_at : State → ℕ → Option ℕ
align_at s addr = option_map (λ p. p.align) (payload_at s addr)

-- the bytes of the payload at an address, or none where no payload is
unfoldable pub bytes_at : State → ℕ → List ℕ
bytes_at s addr = option_map_or (λ p. p.bytes) (payload_at s addr) []

-- the bytes of the payload at `to` once the first `len` of the one at `from` are copied over its first: these, and behind them its own
abbrev pub copied_over : State → ℕ → ℕ → ℕ → List ℕ
copied_over s from to len = take len (bytes_at s from) ++ drop len (bytes_at s to)

-- the bytes of the payload at an address once others are written over them from an offset on
abbrev pub written_over : State → ℕ → ℕ → List ℕ → List ℕ
written_over s addr offset bytes = splice (bytes_at s addr) offset (offset + length bytes) bytes

-- a payload that serves a layout: it has the alignment, the requested bytes, and less than 32 more
pub record ServesLayout (size align : ℕ) (p : Payload) : Type 0 where
  pub aligned : p.align ≡ align
  pub enough : size ≤ length p.bytes
  pub few : length p.bytes < size + 32

-- the map is as it was
abbrev pub IsSameMap : (ℕ → Option Payload) → (ℕ → Option Payload) → Type 0
IsSameMap before after = (a : ℕ) → after a ≡ before a

-- the map has this at the address, and is as it was at all others
pub record IsSet (before : ℕ → Option Payload) (addr : ℕ) (now : Option Payload) (after : ℕ → Option Payload) : Type 0 where
  pub here : after addr ≡ now
  pub others : (a : ℕ) → a ≢ addr → after a ≡ before a

-- a payload gets another size: it is at the address `to`, its old one or one where none was, with its alignment and with the
-- bytes that both sizes have; at no other address is any other change
pub record IsResizedInMap (before : ℕ → Option Payload) (addr size to : ℕ) (after : ℕ → Option Payload) : Type 0 where
  pub old : Payload
  pub was : before addr ≡ Some old
  pub now : Payload
  pub serves : ServesLayout size old.align now
  pub kept : Keeps old.bytes now.bytes
  pub new : to ≢ addr → before to ≡ None
  pub here : after to ≡ Some now
  pub left : to ≢ addr → after addr ≡ None
  pub others : (a : ℕ) → a ≢ addr → a ≢ to → after a ≡ before a

-- what a call with its reply does to the map
abbrev pub Changes : (ℕ → Option Payload) → Event → (ℕ → Option Payload) → Type 0
Changes before (insert r reply) after = IsSameMap before after
Changes before (append r reply) after = IsSameMap before after
Changes before (allocate size align None) after = IsSameMap before after
Changes before (allocate size align (Some addr)) after = (p : Payload) × (before addr ≡ None) × ServesLayout size align p × IsSet before addr (Some p) after
Changes before (deallocate addr) after = (p : Payload) × (before addr ≡ Some p) × IsSet before addr None after
Changes before (reallocate addr size None) after = IsSameMap before after
Changes before (reallocate addr size (Some to)) after = IsResizedInMap before addr size to after
Changes before (fill addr bytes) after =
    (p : Payload) × (before addr ≡ Some p) × (length bytes ≡ length p.bytes) × IsSet before addr (Some (record { align = p.align; bytes = bytes })) after
Changes before (remove r) after = IsSameMap before after
Changes before (trim count) after = IsSameMap before after

-- what a list of calls with their replies does to the map, one after another
abbrev pub ChangesAll : (ℕ → Option Payload) → List Event → (ℕ → Option Payload) → Type 0
ChangesAll before [] after = IsSameMap before after
ChangesAll before (e ∷ es) after = (between : ℕ → Option Payload) × Changes before e between × ChangesAll between es after
