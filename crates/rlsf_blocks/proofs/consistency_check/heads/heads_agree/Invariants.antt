-- Each row that was passed agrees.
use Rattle.std.proofs.Common.{ℕ, ◌<◌}
use Rattle.rlsf_int.specs.Bits.{bit}
use Rattle.rlsf_blocks.specs.Consistency.Heads.{RowAgrees}
use Rattle.rlsf_blocks.proofs.consistency_check.heads.heads_agree.Given as goal

abbrev pub invariant-loop-fl : goal.invariant-loop-fl
invariant-loop-fl g l = (fl : ℕ) → fl < l.fl → RowAgrees g.row.FLLEN g.row.SLLEN l.pools l.memory l.table fl (bit l.table.first_level fl)
