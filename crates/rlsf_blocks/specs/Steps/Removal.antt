-- Chunks without a used block are taken out.
use Rattle.std.specs.Prelude.{◌≡◌, ℕ, ◌+◌, ◌*◌, ◌≤◌, length}
use Rattle.rlsf_base.specs.declared.memory.range.Range.{Range}
use Rattle.rlsf_base.specs.Range.{end_of}
use Rattle.rlsf_base.specs.Space.{Space}
use Rattle.rlsf_table.specs.Table.{Table}
use Rattle.rlsf_blocks.specs.Spare.{KeepsSpare}
use Rattle.rlsf_blocks.specs.StandsFor.{contents, StandsFor}
use Rattle.rlsf_model.specs.Lists.{IsIn}
use Rattle.rlsf_model.specs.Remove.{IsIdle, removed}
use Rattle.rlsf_model.specs.State.{State}

-- a chunk of the state begins at the address, and no block of it is in use
pub record IsIdleChunk (s : State) (c : Range) (start : ℕ) : Type 0 where
  pub is_chunk : IsIn c s.chunks
  pub begins : c.start ≡ start
  pub idle : IsIdle s c

-- the chunks in a range are gone: memory and table represent the state without them, and no byte has changed that no block was made of
abbrev pub AreRemoved : ℕ → ℕ → Space → Space → Table → State → Range → Type 0
AreRemoved fllen sllen m n t s r = StandsFor fllen sllen (contents n t) (removed r s) × KeepsSpare m s n s

-- a chunk is gone, which ended at the address
abbrev pub IsChunkRemoved : ℕ → ℕ → Space → Space → Table → State → Range → ℕ → Type 0
IsChunkRemoved fllen sllen m n t s c end = StandsFor fllen sllen (contents n t) (removed c s) × KeepsSpare m s n s × (end_of c ≡ end)

-- at most nine touches were counted for each chunk in a range
abbrev pub CountsRemoved : Space → Space → State → Range → Type 0
CountsRemoved m n s r = n.touches + 9 * length (removed r s).chunks ≤ m.touches + 9 * length s.chunks
