-- Payloads whose units are a memory of their own.
use Rattle.std.specs.Prelude.{◌≡◌, ℕ, ◌%◌}
use denote.RawPtr.{Ptr}
use Rattle.rlsf_base.specs.OpenSpace.{Home, place_in}

-- a memory of so many bytes, of which the first lies at a pointer and has an address that is a multiple of 16
pub record IsLeased (memory : Home) (ptr : Ptr) (len : ℕ) : Type 0 where
  pub at : memory.view.base.ptr ≡ ptr
  pub first : place_in memory.view memory.start ≡ 0
  pub long : memory.len ≡ len
  pub aligned : memory.start % 16 ≡ 0
