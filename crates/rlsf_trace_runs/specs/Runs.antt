-- RunsOps: what the ops of a trace do to the reference model, and their answers.
use Rattle.std.specs.Prelude.{◌≡◌, ℕ, ◌+◌, ◌<◌, ◌≤◌, ◌==◌, nat_eq, if◌then◌else◌, Bool, List, [], ◌∷◌, map, Option, Some, None, IsSome}
use Rattle.std.specs.Prelude.{replicate, slice_index, slice_set}
use Rattle.std.specs.List.{slice_get}
use Rattle.std.specs.Option.{option_map}
use Rattle.rlsf_base.specs.Addr.{reply}
use Rattle.rlsf_base.specs.declared.memory.range.Range.{Range}
use Rattle.rlsf_base.specs.Layout.{IsLayout}
use Rattle.rlsf_base.specs.Range.{end_of, LiesIn, range_at}
use Rattle.rlsf_model_sizes.specs.Rounding.{round32}
use Rattle.rlsf_blocks.specs.Blocks.{AreBlocks, Block as BlockOf, walked}
use Rattle.rlsf_model.specs.Allocate.{Allocates}
use Rattle.rlsf_model.specs.Insert.{Appends, Inserts, IsVacant}
use Rattle.rlsf_model.specs.Lists.{IsIn}
use Rattle.rlsf_model.specs.NoMove.{ReallocatesWithoutMove}
use Rattle.rlsf_model.specs.Reallocate.{Reallocates}
use Rattle.rlsf_model.specs.Release.{Deallocates}
use Rattle.rlsf_model.specs.Run.{Fills}
use Rattle.rlsf_model.specs.State.{State, Used, between, empty, usable}
use Rattle.rlsf_trace_text.specs.declared.op.Op.{Op}
use Rattle.rlsf_trace_text.specs.declared.op.Op.TheVariants.{Insert, Append, Alloc, Free, FreeUnknown, Realloc, ReallocNoMove, Fill, Put, Get, Usable as OpUsable, Block as OpBlock}
use Rattle.rlsf_trace_text.specs.declared.op.Op.TheVariants.{Trim}
use Rattle.rlsf_trace_text.specs.declared.op.Answer.{Answer}
use Rattle.rlsf_trace_text.specs.declared.op.Answer.TheVariants.{Inserted, Appended, Placed, Done, Byte, Usable, Block, Refused}
use Rattle.rlsf_trace_text.specs.declared.op.TraceError.{TraceError}
use Rattle.rlsf_trace_text.specs.declared.op.TraceError.TheVariants.{UnknownName, NameTaken, BadRange, BadOffset, BadLayout, NotForTlsf}

-- The state of a run: the model's state, the address of each live payload by its name, and the pools. A pool is the contiguous
-- chunks of an inserted range and of what was appended to it.
pub record RunState : Type 0 where
  pub machine : State
  pub named : ℕ → Option ℕ
  pub pools : List Range

-- nothing is done yet
abbrev pub run_beginning : RunState
run_beginning = record { machine = empty; named = λ name. None; pools = [] }

-- the range lies in the memory, and overlaps no pool
abbrev pub MayInsert : Range → List Range → Range → Type 0
MayInsert memory pools r = IsVacant memory pools r

-- the pools with the new one of a range: it begins at the range's start rounded up to 32, and the answer has its end
abbrev pub with_new_pool : Range → Option ℕ → List Range → List Range
with_new_pool r None pools = pools
with_new_pool r (Some len) pools = between (round32 r.start) (r.start + len) ∷ pools

-- the range may be inserted, and begins where a pool ends
pub record MayAppend (memory : Range) (pools : List Range) (r : Range) : Type 0 where
  pub vacant : MayInsert memory pools r
  pub pool : Range
  pub is_pool : IsIn pool pools
  pub ends : end_of pool ≡ r.start

-- the range lies in the memory, and its start rounded up to 32 and its end are those of a pool
pub record MayWalk (memory : Range) (pools : List Range) (r : Range) : Type 0 where
  pub lies_in : LiesIn r memory.start memory.len
  pub pool : Range
  pub is_pool : IsIn pool pools
  pub begins : pool.start ≡ round32 r.start
  pub ends : end_of pool ≡ end_of r

-- a pool with so many bytes more
abbrev pub longer_pool : ℕ → Range → Range
longer_pool more pool = range_at pool.start (pool.len + more)

-- a pool that ends at an address with so many bytes more, and any other as it is
abbrev pub longer_pool_at : ℕ → ℕ → Range → Range
longer_pool_at addr more pool = if end_of pool == addr then longer_pool more pool else pool

-- the names with that of a payload that was placed, in place of what the name had
abbrev pub with_name : ℕ → Option ℕ → (ℕ → Option ℕ) → ℕ → Option ℕ
with_name name None named = named
with_name name (Some addr) named = λ other. if nat_eq name other then Some addr else named other

-- the names without one
abbrev pub without_name : ℕ → (ℕ → Option ℕ) → ℕ → Option ℕ
without_name name named = λ other. if nat_eq name other then None else named other

-- u is the block of the payload that has the name
abbrev pub Owns : RunState → ℕ → Used → Type 0
Owns s name u = IsIn u s.machine.used × (s.named name ≡ Some u.payload)

-- with another state of the model
abbrev pub run_with_machine : RunState → State → RunState
run_with_machine s machine = record { machine = machine; named = s.named; pools = s.pools }

-- the payload of a name is deallocated, and the name is free
abbrev pub FreesName : RunState → ℕ → RunState → Type 0
FreesName s name t =
    (u : Used) × Owns s name u × (machine : State) × Deallocates s.machine u.payload machine
    × (t ≡ record { machine = machine; named = without_name name s.named; pools = s.pools })

-- the answer for a block: its range, and whether it is used
abbrev pub told_of : BlockOf → Range × Bool
told_of b = (b.range, b.is_occupied)

-- why an op is refused; a trim always is, since there is no source that takes ranges back
abbrev pub IsOpRefused : Range → RunState → Op → TraceError → Type 0
IsOpRefused memory s (Insert r) BadRange = MayInsert memory s.pools r → ⊥
IsOpRefused memory s (Append r) BadRange = MayAppend memory s.pools r → ⊥
IsOpRefused memory s (Alloc name layout) NameTaken = IsSome (s.named name)
IsOpRefused memory s (Free name) UnknownName = s.named name ≡ None
IsOpRefused memory s (FreeUnknown name) UnknownName = s.named name ≡ None
IsOpRefused memory s (Realloc name size) UnknownName = s.named name ≡ None
IsOpRefused memory s (Realloc name size) BadLayout = (u : Used) × Owns s name u × (IsLayout size u.align → ⊥)
IsOpRefused memory s (ReallocNoMove name size) UnknownName = s.named name ≡ None
IsOpRefused memory s (ReallocNoMove name size) BadLayout = (u : Used) × Owns s name u × (IsLayout size u.align → ⊥)
IsOpRefused memory s (Fill name byte) UnknownName = s.named name ≡ None
IsOpRefused memory s (Put name offset byte) UnknownName = s.named name ≡ None
IsOpRefused memory s (Put name offset byte) BadOffset = (u : Used) × Owns s name u × ((usable u).len ≤ offset)
IsOpRefused memory s (Get name offset) UnknownName = s.named name ≡ None
IsOpRefused memory s (Get name offset) BadOffset = (u : Used) × Owns s name u × ((usable u).len ≤ offset)
IsOpRefused memory s (OpUsable name) UnknownName = s.named name ≡ None
IsOpRefused memory s (OpBlock r index) BadRange = MayWalk memory s.pools r → ⊥
IsOpRefused memory s Trim NotForTlsf = Unit {0}
IsOpRefused memory s op error = ⊥

-- an op and its answer: a step of the model, or a refusal, which changes nothing and has its own condition
abbrev pub Does : ℕ → ℕ → Range → RunState → Op → Answer → RunState → Type 0
Does fllen sllen memory s op (Refused error) t = IsOpRefused memory s op error × (t ≡ s)
Does fllen sllen memory s (Insert r) (Inserted len) t =
    MayInsert memory s.pools r × (machine : State) × Inserts fllen s.machine r (reply len) machine
    × (t ≡ record { machine = machine; named = s.named; pools = with_new_pool r (reply len) s.pools })
Does fllen sllen memory s (Append r) (Appended more) t =
    MayAppend memory s.pools r × (machine : State) × Appends fllen s.machine r more machine
    × (t ≡ record { machine = machine; named = s.named; pools = map (longer_pool_at r.start more) s.pools })
Does fllen sllen memory s (Alloc name layout) (Placed addr) t =
    (s.named name ≡ None) × (machine : State) × Allocates sllen s.machine layout.size layout.align (reply addr) machine
    × (t ≡ record { machine = machine; named = with_name name (reply addr) s.named; pools = s.pools })
Does fllen sllen memory s (Free name) Done t = FreesName s name t
Does fllen sllen memory s (FreeUnknown name) Done t = FreesName s name t
Does fllen sllen memory s (Realloc name size) (Placed addr) t =
    (u : Used) × Owns s name u × IsLayout size u.align × (machine : State) × Reallocates sllen s.machine u.payload size (reply addr) machine
    × (t ≡ record { machine = machine; named = with_name name (reply addr) s.named; pools = s.pools })
Does fllen sllen memory s (ReallocNoMove name size) (Placed addr) t =
    (u : Used) × Owns s name u × IsLayout size u.align × (machine : State) × ReallocatesWithoutMove s.machine u.payload size (reply addr) machine
    × (t ≡ run_with_machine s machine)
Does fllen sllen memory s (Fill name byte) Done t =
    (u : Used) × Owns s name u × (machine : State) × Fills s.machine u.payload (replicate (usable u).len byte) machine × (t ≡ run_with_machine s machine)
Does fllen sllen memory s (Put name offset byte) Done t =
    (u : Used) × Owns s name u × (offset < (usable u).len) × (machine : State) × Fills s.machine u.payload (slice_set u.bytes offset byte) machine
    × (t ≡ run_with_machine s machine)
Does fllen sllen memory s (Get name offset) (Byte byte) t =
    (u : Used) × Owns s name u × (offset < (usable u).len) × (byte ≡ slice_index u.bytes offset) × (t ≡ s)
Does fllen sllen memory s (OpUsable name) (Usable bytes) t = (u : Used) × Owns s name u × (bytes ≡ (usable u).len) × (t ≡ s)
Does fllen sllen memory s (OpBlock r index) (Block block) t =
    MayWalk memory s.pools r × (bs : List BlockOf) × AreBlocks s.machine (walked r) bs × (block ≡ option_map told_of (slice_get bs index)) × (t ≡ s)
Does fllen sllen memory s op answer t = ⊥

-- ops, one after another, each with one answer
abbrev pub RunsOps : ℕ → ℕ → Range → RunState → List Op → List Answer → RunState → Type 0
RunsOps fllen sllen memory s [] [] t = t ≡ s
RunsOps fllen sllen memory s [] (answer ∷ answers) t = ⊥
RunsOps fllen sllen memory s (op ∷ ops) [] t = ⊥
RunsOps fllen sllen memory s (op ∷ ops) (answer ∷ answers) t = (u : RunState) × Does fllen sllen memory s op answer u × RunsOps fllen sllen memory u ops answers t
