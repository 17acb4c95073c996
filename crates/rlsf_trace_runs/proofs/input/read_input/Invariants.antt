use Rattle.std.proofs.Common.{◌≡◌, length}
use Rattle.std.specs.Io.KnownBytes.{Consumes}
use Rattle.rlsf_trace_runs.proofs.input.read_input.Given as goal

-- what was taken from the input is at hand
abbrev pub invariant-loop : goal.invariant-loop
invariant-loop g l = record {
  taken : Consumes (g.R.Read.remaining l.fn.reader) (g.R.Read.remaining l.reader) l.input.items;
  room : length l.piece ≡ 4096;
}
