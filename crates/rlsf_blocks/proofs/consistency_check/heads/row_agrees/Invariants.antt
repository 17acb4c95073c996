-- Each class that was passed agrees, and a head was found exactly if one of these classes has one.
use Rattle.std.proofs.Common.{◌≡◌, ◌≢◌, ◌↔◌, ℕ, ◌<◌, true}
use Rattle.rlsf_table.specs.Table.{head_at}
use Rattle.rlsf_blocks.specs.Consistency.Heads.{AgreesAt}
use Rattle.rlsf_blocks.proofs.consistency_check.heads.row_agrees.Given as goal

abbrev pub invariant-loop-sl : goal.invariant-loop-sl
invariant-loop-sl g l = record {
  found : (l.has_head ≡ true) ↔ ((sl : ℕ) × (sl < l.sl) × (head_at l.table l.fl sl ≢ 0));
  agreed : (sl : ℕ) → sl < l.sl → AgreesAt g.row.FLLEN g.row.SLLEN l.pools l.memory l.table l.fl sl;
}
