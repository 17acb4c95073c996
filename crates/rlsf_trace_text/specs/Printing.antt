-- The text that is printed for ops and their answers.
use Rattle.std.specs.Prelude.{ℕ, List, [], ◌∷◌, ◌++◌, codes, Bool, true, false, Option, Some, None, if◌then◌else◌}
use Rattle.std.specs.Fmt.{decimal}
use Rattle.std.specs.Int.NonZero.{non_zero_usize_get}
use Rattle.std.specs.List.{flat_map, zip}
use Rattle.std.specs.declared.num.NonZeroUsize.{NonZeroUsize}
use Rattle.rlsf_base.specs.declared.memory.range.Range.{Range}
use Rattle.rlsf_trace_text.specs.declared.op.Op.{Op}
use Rattle.rlsf_trace_text.specs.declared.op.Op.TheVariants.{Insert, Append, Alloc, Free, FreeUnknown, Realloc, ReallocNoMove, Fill, Put, Get, Usable as OpUsable, Block as OpBlock}
use Rattle.rlsf_trace_text.specs.declared.op.Op.TheVariants.{Trim}
use Rattle.rlsf_trace_text.specs.declared.op.Answer.{Answer}
use Rattle.rlsf_trace_text.specs.declared.op.Answer.TheVariants.{Inserted, Appended, Placed, Done, Byte, Usable, Block, Trimmed, Refused}
use Rattle.rlsf_trace_text.specs.declared.op.TraceError.{TraceError}
use Rattle.rlsf_trace_text.specs.declared.op.TraceError.TheVariants.{UnknownName, NameTaken, BadRange, BadOffset, BadLayout, NotForFlex, NotForTlsf}

-- the number of an error
abbrev pub error_number : TraceError → ℕ
error_number UnknownName = 1
error_number NameTaken = 2
error_number BadRange = 3
error_number BadOffset = 4
error_number BadLayout = 5
error_number NotForFlex = 6
error_number NotForTlsf = 7

-- the word for an error
abbrev pub error_word : TraceError → List ℕ
error_word UnknownName = codes "UnknownName"
error_word NameTaken = codes "NameTaken"
error_word BadRange = codes "BadRange"
error_word BadOffset = codes "BadOffset"
error_word BadLayout = codes "BadLayout"
error_word NotForFlex = codes "NotForFlex"
error_word NotForTlsf = codes "NotForTlsf"

-- how the line of an op begins: its command, and the name of its payload if it has one
abbrev pub op_text : Op → List ℕ
op_text (Insert range) = codes "insert"
op_text (Append range) = codes "append"
op_text (Alloc name layout) = codes "alloc " ++ decimal name
op_text (Free name) = codes "free " ++ decimal name
op_text (FreeUnknown name) = codes "ufree " ++ decimal name
op_text (Realloc name size) = codes "realloc " ++ decimal name
op_text (ReallocNoMove name size) = codes "nrealloc " ++ decimal name
op_text (Fill name byte) = codes "fill " ++ decimal name
op_text (Put name offset byte) = codes "put " ++ decimal name
op_text (Get name offset) = codes "get " ++ decimal name
op_text (OpUsable name) = codes "usable " ++ decimal name
op_text (OpBlock range index) = codes "block"
op_text Trim = codes "trim"

-- how the line of an inserted range goes on: the length of its pool, if it was long enough for one
abbrev pub inserted_text : Option NonZeroUsize → List ℕ
inserted_text (Some len) = codes " some " ++ decimal (non_zero_usize_get len)
inserted_text None = codes " none"

-- how the line of a payload goes on: where it lies, if there was room
abbrev pub placed_text : Option NonZeroUsize → List ℕ
placed_text (Some addr) = codes " at " ++ decimal (non_zero_usize_get addr)
placed_text None = codes " none"

-- how the line of a block goes on: where it begins, its size, and whether it is used; none past the last one
abbrev pub block_text : Option (Range × Bool) → List ℕ
block_text (Some block) = codes " " ++ decimal block.0.start ++ codes " " ++ decimal block.0.len ++ (if block.1 then codes " used" else codes " free")
block_text None = codes " none"

-- the answer, as the line of an op shows it
abbrev pub answer_text : Answer → List ℕ
answer_text (Inserted len) = inserted_text len
answer_text (Appended len) = codes " " ++ decimal len
answer_text (Placed addr) = placed_text addr
answer_text Done = codes " done"
answer_text (Byte byte) = codes " " ++ decimal byte
answer_text (Usable bytes) = codes " " ++ decimal bytes
answer_text (Block block) = block_text block
answer_text (Trimmed count) = codes " " ++ decimal count
answer_text (Refused error) = codes "refused " ++ decimal (error_number error) ++ codes " " ++ error_word error

-- whether an op was refused
abbrev pub is_refused : Answer → Bool
is_refused (Inserted len) = false
is_refused (Appended len) = false
is_refused (Placed addr) = false
is_refused Done = false
is_refused (Byte byte) = false
is_refused (Usable bytes) = false
is_refused (Block block) = false
is_refused (Trimmed count) = false
is_refused (Refused error) = true

-- the line of an op and its answer; that of a refused op shows only why
unfoldable pub line_text : Op → Answer → List ℕ
line_text op answer = (if is_refused answer then [] else op_text op) ++ answer_text answer

-- the line of each op that has an answer, in their order, each with LF at its end
abbrev pub text_of : List Op → List Answer → List ℕ
text_of ops answers = flat_map (λ p. line_text p.0 p.1 ++ 10 ∷ []) (zip ops answers)
