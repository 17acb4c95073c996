-- Where a payload lies in its block, and how long the block is.
use Rattle.std.specs.Prelude.{ℕ, ◌+◌, ◌-◌}
use Rattle.std.specs.Int.{next_multiple_of}
use Rattle.rlsf_base.specs.declared.memory.range.Range.{Range}
use Rattle.rlsf_base.specs.Range.{range_at}
use Rattle.rlsf_model_sizes.specs.Rounding.{round32}

-- where the payload of a block that begins at `start` lies: at the first multiple of its alignment that
-- leaves 16 bytes before it
abbrev pub payload_of : ℕ → ℕ → ℕ
payload_of start align = next_multiple_of (start + 16) align

-- the range from `start` that the block of a payload of `size` bytes at `payload` takes: its length is rounded up to a multiple of 32
abbrev pub block_for : ℕ → ℕ → ℕ → Range
block_for start payload size = range_at start (round32 (payload - start + size))
