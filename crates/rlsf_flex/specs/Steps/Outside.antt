-- What the parts of a call leave of the bytes outside of the ranges: none of them returns a range to the source.
use Rattle.std.specs.Prelude.{◌≡◌, ℕ, ◌+◌, ◌<◌, ◌≤◌, List, length}
use Rattle.rlsf_base.specs.declared.memory.range.Range.{Range}
use Rattle.rlsf_base.specs.Space.{Space, byte_at, SamePlace}
use Rattle.rlsf_flex.specs.Outside.{IsOutside}

-- The memory is where it was, and the ranges have all addresses that they had. Each byte of the memory outside of them is as it was.
pub record KeepsOutsideNow (m : Space) (before : List Range) (n : Space) (after : List Range) : Type 0 where
  pub place : SamePlace m n
  pub only_more : (a : ℕ) → IsOutside after a → IsOutside before a
  pub bytes : (a : ℕ) → m.start ≤ a → a < m.start + length m.bytes → IsOutside after a → byte_at n a ≡ byte_at m a
