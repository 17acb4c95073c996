-- The sums of a list of payloads.
use Rattle.std.specs.Prelude.{◌≡◌, ℕ, ◌+◌, ◌*◌, max}
use Rattle.rlsf_base.specs.declared.memory.layout.Layout.{Layout}
use Rattle.rlsf_model_sizes.specs.Sizes.{request_size}
use Rattle.rlsf_partitions.specs.declared.budget.Budget.{Budget}

-- a budget has so many more payloads of up to a layout than another
pub record IsSumWith (from : Budget) (more : ℕ) (layout : Layout) (to : Budget) : Type 0 where
  -- the number of payloads
  pub count : to.count ≡ from.count + more
  -- the bytes of their blocks
  pub bytes : to.bytes ≡ from.bytes + more * request_size layout.size layout.align
  -- the greatest size
  pub size : to.size ≡ max from.size layout.size
  -- the greatest alignment
  pub align : to.align ≡ max from.align layout.align
