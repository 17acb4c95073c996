use Rattle.std.proofs.Common.{◌≡◌, ℕ, ◌&&◌, nat_lt}
use Rattle.rlsf_int.specs.Bits.{bit}
use Rattle.rlsf_table.specs.Steps.Places.{row_word}
use Rattle.rlsf_table.proofs.rows.Rows.bitmap.Given as goal

abbrev pub invariant-loop-place : goal.invariant-loop-place
invariant-loop-place g l = (k : ℕ) → bit (g.B.BitPattern.pattern l.places) k ≡ (bit (row_word g.row.PLACES l.self.low l.self.high l.fl) k && nat_lt k l.place)
