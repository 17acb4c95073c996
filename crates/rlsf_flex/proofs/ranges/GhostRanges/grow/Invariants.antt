use Rattle.rlsf_model.specs.Growth.{longer}
use Rattle.rlsf_flex.proofs.ranges.GhostRanges.grow.Given as goal

abbrev pub ghost-advance : goal.ghost-advance
ghost-advance a = λ x y ranges. longer x ranges
