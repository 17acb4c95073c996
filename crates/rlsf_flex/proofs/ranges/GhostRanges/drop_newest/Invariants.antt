use Rattle.rlsf_flex.specs.Steps.Trim.{older}
use Rattle.rlsf_flex.proofs.ranges.GhostRanges.drop_newest.Given as goal

abbrev pub ghost-advance : goal.ghost-advance
ghost-advance a = λ x y ranges. older ranges
