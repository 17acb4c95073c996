-- The contiguous chunks that a pool becomes.
use Rattle.std.specs.Prelude.{ℕ, ◌+◌, IfSome}
use Rattle.rlsf_base.specs.declared.memory.range.Range.{Range}
use Rattle.rlsf_model_sizes.specs.Rounding.{round32}
use Rattle.rlsf_model_sizes.specs.Sizes.{max_pool_size}
use Rattle.rlsf_model.specs.ChunkRows.{IsRow}
use Rattle.rlsf_model.specs.Insert.{aligned_part, bytes_taken, cut}
use Rattle.rlsf_model.specs.State.{State, between}

-- the bytes that an insert uses of a range, from the first multiple of 32 on, are contiguous chunks
abbrev pub TakesRow : ℕ → Range → State → Type 0
TakesRow fllen r s = IfSome (bytes_taken r.start (cut (max_pool_size fllen) (aligned_part r))) (λ taken. IsRow s (between (round32 r.start) (r.start + taken)))
