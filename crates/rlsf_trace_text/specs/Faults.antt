-- Faults: their names, and how they are reported.
use Rattle.std.specs.Prelude.{ℕ, ◌<◌, List, ◌++◌, codes}
use Rattle.std.specs.Fmt.{decimal}
use Rattle.rlsf_trace_text.specs.declared.fault.Fault.{Fault}
use Rattle.rlsf_trace_text.specs.declared.fault.Fault.TheVariants.{FieldCount, Config, UnknownOp, BadNumber, ZeroStart, TooLong, BadLayout, OutOfMemory, Read, Write}
use Rattle.rlsf_trace_text.specs.declared.fault.ReplayFault.{ReplayFault}

-- the word for a fault
abbrev pub fault_word : Fault → List ℕ
fault_word FieldCount = codes "FieldCount"
fault_word Config = codes "Config"
fault_word UnknownOp = codes "UnknownOp"
fault_word BadNumber = codes "BadNumber"
fault_word ZeroStart = codes "ZeroStart"
fault_word TooLong = codes "TooLong"
fault_word BadLayout = codes "BadLayout"
fault_word OutOfMemory = codes "OutOfMemory"
fault_word Read = codes "Read"
fault_word Write = codes "Write"

-- the report of a fault: the number of its line, and its name
abbrev pub fault_text : ReplayFault → List ℕ
fault_text f = codes "line " ++ decimal f.line ++ codes ": " ++ fault_word f.fault

-- out of memory, on no line
abbrev pub out_of_memory : ReplayFault
out_of_memory = record { line = 0; fault = OutOfMemory }

-- a fault of a text, and not of the system or a stream
abbrev pub IsOfText : Fault → Type 0
IsOfText OutOfMemory = ⊥
IsOfText Read = ⊥
IsOfText Write = ⊥
IsOfText f = Unit {0}

-- a fault of one of a text's lines, which are numbered from 1
pub record IsOfLine (f : ReplayFault) : Type 0 where
  pub numbered : 0 < f.line
  pub of_text : IsOfText f.fault
