use Rattle.std.specs.Prelude.{string_bytes}
use Rattle.rlsf_trace_runs.proofs.PrintedOps.{IsPrinting}
use Rattle.rlsf_trace_runs.proofs.prints.print_run.Given as goal

abbrev pub invariant-loop-op : goal.invariant-loop-op
invariant-loop-op g l = IsPrinting g.row.FLLEN g.row.SLLEN l.fn.tlsf.memory l.fn.ops l.tlsf l.tables l.op-index (string_bytes l.text)
