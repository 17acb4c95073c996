-- The used blocks of the iteration are among those that are left of it.
use Rattle.std.proofs.Common.{◌≡◌, true}
use Rattle.rlsf_blocks.specs.Blocks.{Block}
use Rattle.rlsf_model.specs.Lists.{IsIn}
use Rattle.rlsf_flex.proofs.trim.is_idle.Given as goal

abbrev pub invariant-loop-block : goal.invariant-loop-block
invariant-loop-block g l =
    (goal.iterator-loop-block g).can_next l.blocks × (goal.iterator-loop-block g).is_finite l.blocks × ((b : Block) → IsIn b l.blocks → IsIn b l.initial.blocks)
    × ((b : Block) → IsIn b l.initial.blocks → b.is_occupied ≡ true → IsIn b l.blocks)
