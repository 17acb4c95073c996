-- Commands: what the lines of a trace ask for.
use Rattle.std.specs.Prelude.{ℕ}
use Rattle.rlsf_trace_text.specs.declared.op.Op.{Op}
use Rattle.rlsf_trace_text.specs.declared.op.Op.TheVariants.{Insert, Append, Alloc, Free, FreeUnknown, Realloc, ReallocNoMove, Fill, Put, Get, Usable, Block, Trim}

-- a command with its numbers, as the line has them; no line asks for a trim
pub data Command : Type 0 where
  insert : (start len : ℕ) → Command
  append : (start len : ℕ) → Command
  alloc : (name size align : ℕ) → Command
  free : (name : ℕ) → Command
  free_unknown : (name : ℕ) → Command
  realloc : (name size : ℕ) → Command
  realloc_no_move : (name size : ℕ) → Command
  fill : (name byte : ℕ) → Command
  put : (name offset byte : ℕ) → Command
  get : (name offset : ℕ) → Command
  usable : (name : ℕ) → Command
  block : (start len index : ℕ) → Command
  trim : Command

-- the command that asks for an op
abbrev pub command_of : Op → Command
command_of (Insert range) = insert range.start range.len
command_of (Append range) = append range.start range.len
command_of (Alloc name layout) = alloc name layout.size layout.align
command_of (Free name) = free name
command_of (FreeUnknown name) = free_unknown name
command_of (Realloc name size) = realloc name size
command_of (ReallocNoMove name size) = realloc_no_move name size
command_of (Fill name byte) = fill name byte
command_of (Put name offset byte) = put name offset byte
command_of (Get name offset) = get name offset
command_of (Usable name) = usable name
command_of (Block range index) = block range.start range.len index
command_of Trim = trim
