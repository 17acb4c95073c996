use Rattle.std.proofs.Common.{◌∷◌}
use Rattle.rlsf_base.specs.Range.{range_at}
use Rattle.rlsf_flex.proofs.ranges.GhostRanges.give.Given as goal

abbrev pub ghost-advance : goal.ghost-advance
ghost-advance a = λ x y ranges. range_at x y ∷ ranges
