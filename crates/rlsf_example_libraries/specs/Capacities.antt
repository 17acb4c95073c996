-- Pools with a capacity: while fewer objects are out, there is room for one more.
use Rattle.std.specs.Prelude.{◌≡◌, ◌⊎◌, ℕ, ◌+◌, ◌*◌, ◌<◌, ◌≤◌, length}
use Rattle.rlsf_base.specs.declared.memory.range.Range.{Range}
use Rattle.rlsf_base.specs.Layout.{IsLayout}
use Rattle.rlsf_model_sizes.specs.SizeClass.{Reaches, class_of}
use Rattle.rlsf_model_sizes.specs.Sizes.{request_size}
use Rattle.rlsf_model.specs.Insert.{aligned_part}
use Rattle.rlsf_model.specs.Uniform.{IsUniform}
use Rattle.rlsf_example_libraries.specs.Budgets.{HasBytesFor}
use Rattle.rlsf_example_libraries.specs.Handled.{Handled}
use Rattle.rlsf_example_libraries.specs.Objects.{HaveSize}
use Rattle.rlsf_example_libraries.specs.Stored.{FitsPool}

-- a pool has room for one object, and the bytes for one more beside each lesser number of them
pub record IsSpread (memory : Range) (size align capacity : ℕ) : Type 0 where
  pub layout : IsLayout size align
  pub one : 1 ≤ capacity → FitsPool memory size align
  pub more : (n : ℕ) → n + 1 < capacity → HasBytesFor memory (n + 1) size align

-- blocks of the objects' length fill the pool from its start, and as many have room
pub record IsTiled (h : Handled) (size align capacity : ℕ) : Type 0 where
  pub small : align ≤ 32
  pub begins : Reaches 8 (class_of 8 (request_size size align)) (request_size size align)
  pub room : 1 ≤ capacity → capacity * request_size size align + 32 ≤ (aligned_part h.memory).len
  pub uniform : 1 ≤ capacity → IsUniform (request_size size align) (aligned_part h.memory) h.state

-- objects of one layout, no more than the capacity, for which there is room
pub record IsObjectPool (h : Handled) (size align capacity : ℕ) : Type 0 where
  pub aligned : h.align ≡ align
  pub sized : HaveSize size h.lists
  pub within : length h.lists ≤ capacity
  pub fits : FitsPool h.memory size align → 1 ≤ capacity
  pub room : IsSpread h.memory size align capacity ⊎ IsTiled h size align capacity
