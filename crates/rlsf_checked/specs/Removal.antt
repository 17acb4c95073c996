-- Pools that are removed.
use Rattle.std.specs.Prelude.{◌≡◌, ◌⊎◌, Result, Ok, Err}
use Rattle.rlsf_base.specs.declared.memory.range.Range.{Range}
use Rattle.rlsf_blocks.specs.Blocks.{walked}
use Rattle.rlsf_model.specs.Lists.{IsIn}
use Rattle.rlsf_model.specs.Remove.{IsIdle}
use Rattle.rlsf_model.specs.State.{State}
use Rattle.rlsf_checked.specs.Checked.{PoolList}
use Rattle.rlsf_checked.specs.Pools.{current_pools}
use Rattle.rlsf_checked.specs.declared.error.CheckedError.{CheckedError}
use Rattle.rlsf_checked.specs.declared.error.CheckedError.TheVariants.{InUse, NotChunks}

-- A range is removed if it is a pool of which no block is used, and else refused by one of two errors. The cases exclude each other, so each
-- result is returned exactly if its condition holds
abbrev pub IsRemovalOf : PoolList → State → Range → Result (Unit {0}) CheckedError → Type 0
IsRemovalOf pools s r (Ok x) = IsIn r (current_pools pools) × IsIdle s (walked r)
IsRemovalOf pools s r (Err e) =
    ((e ≡ NotChunks) × (IsIn r (current_pools pools) → ⊥)) ⊎ ((e ≡ InUse) × IsIn r (current_pools pools) × (IsIdle s (walked r) → ⊥))
