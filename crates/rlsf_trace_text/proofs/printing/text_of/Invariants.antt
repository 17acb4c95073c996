use Rattle.std.proofs.Common.{◌≡◌, ◌++◌}
use Rattle.std.specs.Iterator.Adapters.{zip_first, zip_second}
use Rattle.std.specs.Prelude.{string_bytes}
use Rattle.std.specs.Slice.Iter.{iter_rest}
use Rattle.rlsf_trace_text.specs.Printing.{text_of}
use Rattle.rlsf_trace_text.proofs.printing.text_of.Given as goal

-- the lines so far and those of what is left are those of all
abbrev pub invariant-loop-op : goal.invariant-loop-op
invariant-loop-op l =
    string_bytes l.text ++ text_of (iter_rest (zip_first l.op-iterator)) (iter_rest (zip_second l.op-iterator)) ≡ text_of l.ops l.answers
