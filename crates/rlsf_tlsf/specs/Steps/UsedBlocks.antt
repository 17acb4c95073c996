-- Whether a list of blocks has a used one.
use Rattle.std.specs.Prelude.{Bool, false, ◌||◌, List, [], ◌∷◌}
use Rattle.rlsf_blocks.specs.Blocks.{Block}

-- whether one of some blocks is used
abbrev pub has_used : List Block → Bool
has_used [] = false
has_used (b ∷ bs) = b.is_occupied || has_used bs
