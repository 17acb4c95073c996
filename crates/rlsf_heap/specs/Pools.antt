-- Pools that are removed if they can be.
use Rattle.std.specs.Prelude.{◌≡◌, Bool, true, false}
use Rattle.rlsf_base.specs.declared.memory.range.Range.{Range}
use Rattle.rlsf_model.specs.Remove.{IsIdle, Removes}
use Rattle.rlsf_model.specs.State.{State}

-- a range is removed if and only if no used block has a byte of it; otherwise nothing changes
abbrev pub RemovesIfIdle : State → Range → Bool → State → Type 0
RemovesIfIdle s r true t = IsIdle s r × Removes s r t
RemovesIfIdle s r false t = ¬ (IsIdle s r) × (t ≡ s)
