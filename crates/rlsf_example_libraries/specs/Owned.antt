-- A pool of objects that own their bytes.
use Rattle.std.specs.Prelude.{ℕ, ◌-◌, ◌≤◌}
use Rattle.rlsf_model.specs.Sized.{IsSizedFor, live_count}
use Rattle.rlsf_model.specs.State.{State}
use Rattle.rlsf_heap.specs.Heap.{Identity}

-- the heap that the objects are payloads of, the size and the alignment of each, how many are out, and how many may be out at once
pub record OwnedPool : Type 0 where
  pub identity : Identity
  pub size : ℕ
  pub align : ℕ
  pub live : ℕ
  pub capacity : ℕ

-- no more objects are out than the capacity, and while fewer are out the heap has room for one more
pub record IsOwnedPool (s : State) (size align capacity : ℕ) : Type 0 where
  pub within : live_count s ≤ capacity
  pub room : IsSizedFor 8 (capacity - 1) size align s
