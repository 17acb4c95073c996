-- A used block gets another size, in place if possible.
use Rattle.std.specs.Prelude.{◌≡◌, ℕ, ◌-◌, List, ◌∷◌, ◌++◌, length, take, min, Option, Some, None, find, nat_le, nat_lt, if◌then◌else◌}
use Rattle.std.specs.Option.{option_and_then, option_map_or, option_or}
use Rattle.rlsf_base.specs.declared.memory.range.Range.{Range}
use Rattle.rlsf_base.specs.Range.{end_of}
use Rattle.rlsf_model.specs.Allocate.{Allocates, rest_behind}
use Rattle.rlsf_model.specs.Join.{join, ends_at, starts_at}
use Rattle.rlsf_model.specs.Lists.{without}
use Rattle.rlsf_model.specs.Payload.{payload_of, block_for}
use Rattle.rlsf_model.specs.Release.{Deallocates}
use Rattle.rlsf_model.specs.State.{State, Used, Holds, between, others}

-- a plan: where a block and its payload go, and the free ranges then
pub record Plan : Type 0 where
  pub block : Range
  pub payload : ℕ
  pub free : List Range

-- in place: the block keeps its front, and a tail that is left over is joined to the free ranges
abbrev pub in_place : State → Used → ℕ → Option Plan
in_place s u size =
    let block = block_for u.block.start u.payload size in
    let free = if nat_lt (end_of block) (end_of u.block) then join (between (end_of block) (end_of u.block)) s.free else s.free in
    if nat_le (end_of block) (end_of u.block) then Some (record { block = block; payload = u.payload; free = free }) else None

-- into the next range: the block keeps its start, the free range behind it is taken out, and its rest put in front
abbrev pub into_next : State → Used → ℕ → Option Plan
into_next s u size =
    let block = block_for u.block.start u.payload size in
    let end = option_map_or end_of (find (starts_at (end_of u.block)) s.free) (end_of u.block) in
    if nat_le (end_of block) end
    then Some (record { block = block; payload = u.payload; free = rest_behind block end ++ without (starts_at (end_of u.block)) s.free })
    else None

-- Into the previous range, if there is a free range before the block: it and one behind the block are removed. The block moves to the
-- start of all three, with its payload where an allocation would put it, and the rest is put in front
abbrev pub into_previous : State → Used → ℕ → Option Plan
into_previous s u size = option_and_then (λ previous.
    let payload = payload_of previous.start u.align in
    let block = block_for previous.start payload size in
    let rest = without (ends_at u.block.start) s.free in
    let end = option_map_or end_of (find (starts_at (end_of u.block)) rest) (end_of u.block) in
    if nat_le (end_of block) end
    then Some (record { block = block; payload = payload; free = rest_behind block end ++ without (starts_at (end_of u.block)) rest })
    else None) (find (ends_at u.block.start) s.free)

-- the first possible one of the three plans
abbrev pub plan : State → Used → ℕ → Option Plan
plan s u size = option_or (in_place s u size) (option_or (into_next s u size) (into_previous s u size))

-- as many bytes as both lists have are those of the old one; later ones are any
abbrev pub Keeps : List ℕ → List ℕ → Type 0
Keeps old new = take (min (length old) (length new)) new ≡ take (min (length old) (length new)) old

-- the reallocation by a plan: block, payload and free ranges are then as planned
pub record Replans (s : State) (u : Used) (p : Plan) (addr : ℕ) (t : State) : Type 0 where
  pub bytes : List ℕ
  pub answer : addr ≡ p.payload
  pub length : length bytes ≡ end_of p.block - p.payload
  pub kept : Keeps u.bytes bytes
  pub after : t ≡ record {
    chunks = s.chunks;
    used = record { block = p.block; payload = p.payload; align = u.align; bytes = bytes } ∷ others u.payload s.used;
    free = p.free;
  }

-- elsewhere: an allocation while the old block is live, into which the bytes are copied, and then the old
-- block is released
pub record MovesAway (sllen : ℕ) (s : State) (u : Used) (size addr : ℕ) (t : State) : Type 0 where
  pub meanwhile : State
  pub allocated : Allocates sllen s size u.align (Some addr) meanwhile
  pub block : Used
  pub holds : Holds meanwhile addr block
  pub kept : Keeps u.bytes block.bytes
  pub released : Deallocates meanwhile u.payload t

-- The used block u gets another size: by the first possible plan, or else elsewhere. With a plan it is never refused. Without one it is
-- refused exactly if an allocation of the new size is, and then nothing changes
abbrev pub ReallocatesBy : ℕ → State → Used → ℕ → Option Plan → Option ℕ → State → Type 0
ReallocatesBy sllen s u size (Some p) None t = ⊥
ReallocatesBy sllen s u size (Some p) (Some addr) t = Replans s u p addr t
ReallocatesBy sllen s u size None None t = Allocates sllen s size u.align None t
ReallocatesBy sllen s u size None (Some addr) t = MovesAway sllen s u size addr t

-- the used block at the address gets another size
pub record Reallocates (sllen : ℕ) (s : State) (addr size : ℕ) (reply : Option ℕ) (t : State) : Type 0 where
  pub block : Used
  pub holds : Holds s addr block
  pub step : ReallocatesBy sllen s block size (plan s block size) reply t

-- the payload at the address can have the size in place: in its own block, or with the free range behind it
abbrev pub HasRoomToStay : State → ℕ → ℕ → Type 0
HasRoomToStay s addr size = (u : Used) × (p : Plan) × Holds s addr u × (option_or (in_place s u size) (into_next s u size) ≡ Some p)

-- the payload at the address can have the size, here or elsewhere
abbrev pub HasRoomToResize : ℕ → State → ℕ → ℕ → Type 0
HasRoomToResize sllen s addr size = (to : ℕ) × (t : State) × Reallocates sllen s addr size (Some to) t
