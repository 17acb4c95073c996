use Rattle.std.proofs.Common.{◌≡◌, ◌+◌, length, map}
use Rattle.rlsf_trace_text.specs.Commands.{command_of}
use Rattle.rlsf_trace_text.specs.Lines.{lines_left}
use Rattle.rlsf_trace_text.specs.Reading.{commands_in}
use Rattle.rlsf_trace_text.proofs.Commands.{commands_behind}
use Rattle.rlsf_trace_text.proofs.reading.read_ops.Given as goal

-- the commands so far, and those of the lines that are left, are those of all; each line is counted or left
abbrev pub invariant-loop-line : goal.invariant-loop-line
invariant-loop-line l = record {
  told : commands_behind (map command_of l.ops.items) (l.earlier + 1) (lines_left l.line-iterator) ≡ commands_in (lines_left l.fn.lines);
  counted : l.earlier + length (lines_left l.line-iterator) ≡ 1 + length (lines_left l.fn.lines);
}
