-- Replays: what is written for a text, and what a replay's faults are.
use Rattle.std.specs.Prelude.{◌≡◌, ℕ, List, ◌⊎◌, map, Option, Ok, Err}
use Rattle.std.specs.Io.KnownBytes.{Appends}
use Rattle.rlsf_base.specs.declared.memory.range.Range.{Range}
use Rattle.rlsf_base.specs.Range.{range_at}
use Rattle.rlsf_trace_text.specs.declared.configuration.Configuration.{Configuration}
use Rattle.rlsf_trace_text.specs.declared.configuration.Configuration.TheVariants.{EightByEight, TwelveBySixteen, FiftyNineByEight, OneByOne, EightByOne}
use Rattle.rlsf_trace_text.specs.declared.fault.Fault.TheVariants.{OutOfMemory, Read, Write}
use Rattle.rlsf_trace_text.specs.declared.fault.ReplayFault.{ReplayFault}
use Rattle.rlsf_trace_text.specs.declared.op.Answer.{Answer}
use Rattle.rlsf_trace_text.specs.declared.op.Op.{Op}
use Rattle.rlsf_trace_text.specs.Commands.{command_of}
use Rattle.rlsf_trace_text.specs.Faults.{out_of_memory}
use Rattle.rlsf_trace_runs.specs.Output.{AppendsBeginning}
use Rattle.rlsf_trace_text.specs.Printing.{text_of}
use Rattle.rlsf_trace_text.specs.Reading.{TraceText, trace_in}
use Rattle.rlsf_trace_runs.specs.Runs.{RunState, run_beginning, RunsOps}

-- the number of first-level rows of a configuration
abbrev pub rows_of : Configuration → ℕ
rows_of EightByEight = 8
rows_of TwelveBySixteen = 12
rows_of FiftyNineByEight = 59
rows_of OneByOne = 1
rows_of EightByOne = 8

-- the number of classes in a first-level row of a configuration
abbrev pub classes_of : Configuration → ℕ
classes_of EightByEight = 8
classes_of TwelveBySixteen = 16
classes_of FiftyNineByEight = 8
classes_of OneByOne = 1
classes_of EightByOne = 1

-- an allocator with these parameters over this memory does the ops from its beginning, with these answers
abbrev pub IsTraceRun : ℕ → ℕ → Range → List Op → List Answer → Type 0
IsTraceRun fllen sllen memory ops answers = (last : RunState) × RunsOps fllen sllen memory run_beginning ops answers last

-- the text is what is printed for such a run
abbrev pub IsPrintedRun : ℕ → ℕ → Range → List Op → List ℕ → Type 0
IsPrintedRun fllen sllen memory ops text = (answers : List Answer) × IsTraceRun fllen sllen memory ops answers × (text ≡ text_of ops answers)

-- the output is what is printed for a run of the input's ops, with the configuration and the memory that it names
pub record IsOutput (input output : List ℕ) : Type 0 where
  pub trace : TraceText
  pub read : trace_in input ≡ Ok trace
  pub ops : List Op
  pub asked : map command_of ops ≡ trace.commands
  pub answers : List Answer
  pub ran : IsTraceRun (rows_of trace.configuration) (classes_of trace.configuration) (range_at trace.start trace.len) ops answers
  pub printed : output ≡ text_of ops answers

-- such an output is appended
abbrev pub AppendsReplay : List ℕ → Option (List ℕ) → Option (List ℕ) → Type 0
AppendsReplay input old new = (output : List ℕ) × IsOutput input output × Appends old new output

-- a beginning of such an output is appended
abbrev pub AppendsCutReplay : List ℕ → Option (List ℕ) → Option (List ℕ) → Type 0
AppendsCutReplay input old new = (output : List ℕ) × IsOutput input output × AppendsBeginning old new output

-- there is no memory of the start and length that the first line asks for: out of memory
abbrev pub no_memory : ReplayFault
no_memory = record { line = 1; fault = OutOfMemory }

-- the input could not be read
abbrev pub not_read : ReplayFault
not_read = record { line = 0; fault = Read }

-- the output could not be written
abbrev pub not_written : ReplayFault
not_written = record { line = 0; fault = Write }

-- the text has no fault
abbrev pub IsTrace : List ℕ → Type 0
IsTrace input = (trace : TraceText) × (trace_in input ≡ Ok trace)

-- why an input has no output: its first fault, or out of memory. Out of memory on line 1 needs a text without a fault
abbrev pub IsOutputFault : List ℕ → ReplayFault → Type 0
IsOutputFault input f = (trace_in input ≡ Err f) ⊎ ((f ≡ out_of_memory) ⊎ ((f ≡ no_memory) × IsTrace input))

-- why a replay ends early: one of these, or a stream failed; nothing is written unless the text has no fault
abbrev pub IsReplayFault : List ℕ → ReplayFault → Type 0
IsReplayFault input f = IsOutputFault input f ⊎ ((f ≡ not_read) ⊎ ((f ≡ not_written) × IsTrace input))
