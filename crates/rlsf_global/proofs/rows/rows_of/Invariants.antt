use Rattle.std.proofs.Common.{◌≡◌, ◌≤◌, ◌+◌, ◌*◌, length}
use Rattle.std.specs.Vec.{vec_capacity}
use Rattle.rlsf_global.proofs.RowsBelow.{below}
use Rattle.rlsf_global.proofs.rows.rows_of.Given as goal

abbrev pub invariant-loop-place : goal.invariant-loop-place
invariant-loop-place g l = record {
  items : l.rows.items ≡ below ((l.codes.first + l.place) * 16) l.fn.table.rows;
  room : length l.fn.table.rows ≤ vec_capacity l.rows;
}
