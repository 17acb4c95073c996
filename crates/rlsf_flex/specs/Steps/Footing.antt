-- What writing the footer of a range, if its source takes ranges back, leaves.
use Rattle.std.specs.Prelude.{◌≡◌, ℕ, ◌+◌, ◌<◌, ◌≤◌, Bool, true, length}
use Rattle.rlsf_base.specs.declared.memory.range.Range.{Range}
use Rattle.rlsf_base.specs.Space.{Space, SamePlace, byte_at}
use Rattle.rlsf_flex.specs.Footers.{footer_of, WritesFooter}

-- where a source takes ranges back, the range's footer was written; else none was, and no other byte
pub record IsFooted (takes_back : Bool) (m n : Space) (r : Range) (start len : ℕ) : Type 0 where
  pub place : SamePlace m n
  pub written : takes_back ≡ true → WritesFooter m n r start len
  pub bytes : (a : ℕ) → m.start ≤ a → a < m.start + length m.bytes → (takes_back ≡ true → footer_of r ≤ a → a < footer_of r + 16 → ⊥)
      → byte_at n a ≡ byte_at m a
