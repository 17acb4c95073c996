use Rattle.std.proofs.Common.{◌+◌, ◌/◌, ℕ, ap, arith}
use Rattle.rlsf_offsets.proofs.offsets.units_for.Goals as goal

pub returns : goal.returns
returns g c = record { value = ap (λ (n : ℕ). n / g.row.UNIT + 1) c.saturating_sub.ensures; some = omega arith }
