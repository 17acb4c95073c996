-- The text of a trace, read.
use Rattle.std.specs.Prelude.{ℕ, ◌+◌, ◌-◌, ◌^◌, List, [], ◌∷◌, map, drop, codes, Bool, ◌&&◌, Result, Ok, Err, ◌==◌, nat_lt, nat_le, if◌then◌else◌}
use Rattle.std.specs.List.{enumerate_from}
use Rattle.std.specs.Str.{bytes_eq}
use Rattle.rlsf_model_sizes.specs.PowerOfTwo.{floor_log2}
use Rattle.rlsf_trace_text.specs.declared.configuration.Configuration.{Configuration}
use Rattle.rlsf_trace_text.specs.declared.fault.Fault.{Fault}
use Rattle.rlsf_trace_text.specs.declared.fault.Fault.TheVariants.{Config, UnknownOp, ZeroStart, TooLong, BadLayout}
use Rattle.rlsf_trace_text.specs.declared.fault.ReplayFault.{ReplayFault}
use Rattle.rlsf_trace_text.specs.declared.parse.Trace.{Trace}
use Rattle.rlsf_trace_text.specs.Commands.{Command, insert, append, alloc, free, free_unknown, realloc, realloc_no_move, fill, put, get, usable, block, command_of}
use Rattle.rlsf_trace_text.specs.Configurations.{configuration_named}
use Rattle.rlsf_trace_text.specs.FallibleSteps.{◌>>=◌, or_fault, at_line, all_or_fault}
use Rattle.rlsf_trace_text.specs.Lines.{lines, first_line}
use Rattle.rlsf_trace_text.specs.Numbers.{number_of, byte_of}
use Rattle.rlsf_trace_text.specs.Words.{words, exactly_one, exactly_two, exactly_three}

-- the one number that is there
unfoldable pub one_number : List (List ℕ) → Result ℕ Fault
one_number fields = do
  word ← exactly_one fields
  number_of word

-- the two numbers that are there
unfoldable pub two_numbers : List (List ℕ) → Result (ℕ × ℕ) Fault
two_numbers fields = do
  both ← exactly_two fields
  first ← number_of both.0
  second ← number_of both.1
  Ok (first, second)

-- the three numbers that are there
unfoldable pub three_numbers : List (List ℕ) → Result (ℕ × ℕ × ℕ) Fault
three_numbers fields = do
  all ← exactly_three fields
  first ← number_of all.0
  second ← number_of all.1
  third ← number_of all.2
  Ok (first, second, third)

-- `insert START LEN`
unfoldable pub insert_in : List (List ℕ) → Result Command Fault
insert_in fields = do
  both ← two_numbers fields
  Ok (insert both.0 both.1)

-- `append START LEN`
unfoldable pub append_in : List (List ℕ) → Result Command Fault
append_in fields = do
  both ← two_numbers fields
  Ok (append both.0 both.1)

-- there is a layout of this size and alignment, as a test
abbrev pub is_layout : ℕ → ℕ → Bool
is_layout size align = align == 2 ^ floor_log2 align && nat_le (size + align) (2 ^ 63)

-- the layout of this size and alignment
unfoldable pub layout_of : ℕ → ℕ → Result (ℕ × ℕ) Fault
layout_of size align = if is_layout size align then Ok (size, align) else Err BadLayout

-- `alloc NAME SIZE ALIGN`
unfoldable pub alloc_in : List (List ℕ) → Result Command Fault
alloc_in fields = do
  all ← three_numbers fields
  layout ← layout_of all.1 all.2
  Ok (alloc all.0 layout.0 layout.1)

-- `free NAME`
unfoldable pub free_in : List (List ℕ) → Result Command Fault
free_in fields = do
  name ← one_number fields
  Ok (free name)

-- `ufree NAME`
unfoldable pub free_unknown_in : List (List ℕ) → Result Command Fault
free_unknown_in fields = do
  name ← one_number fields
  Ok (free_unknown name)

-- `realloc NAME SIZE`: whether there is such a layout depends on the name's alignment, which the text doesn't have
unfoldable pub realloc_in : List (List ℕ) → Result Command Fault
realloc_in fields = do
  both ← two_numbers fields
  Ok (realloc both.0 both.1)

-- `nrealloc NAME SIZE`
unfoldable pub realloc_no_move_in : List (List ℕ) → Result Command Fault
realloc_no_move_in fields = do
  both ← two_numbers fields
  Ok (realloc_no_move both.0 both.1)

-- `fill NAME BYTE`
unfoldable pub fill_in : List (List ℕ) → Result Command Fault
fill_in fields = do
  both ← two_numbers fields
  byte ← byte_of both.1
  Ok (fill both.0 byte)

-- `put NAME OFFSET BYTE`
unfoldable pub put_in : List (List ℕ) → Result Command Fault
put_in fields = do
  all ← three_numbers fields
  byte ← byte_of all.2
  Ok (put all.0 all.1 byte)

-- `get NAME OFFSET`
unfoldable pub get_in : List (List ℕ) → Result Command Fault
get_in fields = do
  both ← two_numbers fields
  Ok (get both.0 both.1)

-- `usable NAME`
unfoldable pub usable_in : List (List ℕ) → Result Command Fault
usable_in fields = do
  name ← one_number fields
  Ok (usable name)

-- `block START LEN INDEX`
unfoldable pub block_in : List (List ℕ) → Result Command Fault
block_in fields = do
  all ← three_numbers fields
  Ok (block all.0 all.1 all.2)

-- what a line's words ask for: the first is the command's name
unfoldable pub command_in : List (List ℕ) → Result Command Fault
command_in [] = Err UnknownOp
command_in (name ∷ fields) =
    if bytes_eq name (codes "insert") then insert_in fields
    else (if bytes_eq name (codes "append") then append_in fields
    else (if bytes_eq name (codes "alloc") then alloc_in fields
    else (if bytes_eq name (codes "free") then free_in fields
    else (if bytes_eq name (codes "ufree") then free_unknown_in fields
    else (if bytes_eq name (codes "realloc") then realloc_in fields
    else (if bytes_eq name (codes "nrealloc") then realloc_no_move_in fields
    else (if bytes_eq name (codes "fill") then fill_in fields
    else (if bytes_eq name (codes "put") then put_in fields
    else (if bytes_eq name (codes "get") then get_in fields
    else (if bytes_eq name (codes "usable") then usable_in fields
    else (if bytes_eq name (codes "block") then block_in fields
    else Err UnknownOp)))))))))))

-- `CONFIG START LEN`
unfoldable pub header_in : List (List ℕ) → Result (Configuration × ℕ × ℕ) Fault
header_in fields = do
  all ← exactly_three fields
  configuration ← or_fault Config (configuration_named all.0)
  start ← number_of all.1
  len ← number_of all.2
  if start == 0 then Err ZeroStart else (if nat_lt (2 ^ 64 - 1) (start + len) then Err TooLong else Ok (configuration, start, len))

-- what the lines after the first ask for; the first of them is line 2
unfoldable pub commands_in : List (List ℕ) → Result (List Command) ReplayFault
commands_in others = all_or_fault (map (λ line. at_line line.0 (command_in (words line.1))) (enumerate_from 2 others))

-- a trace as its text has it
pub record TraceText : Type 0 where
  pub configuration : Configuration
  pub start : ℕ
  pub len : ℕ
  pub commands : List Command

-- a trace that was read, as its text has it
abbrev pub trace_text : Trace → TraceText
trace_text t = record { configuration = t.configuration; start = t.start; len = t.len; commands = map command_of t.ops.items }

-- the trace that a text is, or the fault of the first line that has one
unfoldable pub trace_in : List ℕ → Result TraceText ReplayFault
trace_in text = do
  header ← at_line 1 (header_in (words (first_line (lines text))))
  commands ← commands_in (drop 1 (lines text))
  Ok (record { configuration = header.0; start = header.1; len = header.2; commands = commands })
