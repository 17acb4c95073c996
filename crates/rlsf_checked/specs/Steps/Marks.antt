-- Marks of payloads.
use Rattle.std.specs.Prelude.{ℕ, suc, Option, Some, None}
use Rattle.rlsf_model_sizes.specs.PowerOfTwo.{floor_log2}

-- the mark that is set where a payload has the alignment, if there is one
abbrev pub mark_of : Option ℕ → ℕ
mark_of None = 0
mark_of (Some align) = suc (floor_log2 align)
