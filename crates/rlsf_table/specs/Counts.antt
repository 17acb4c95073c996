-- The effect on the memory of a function that reads counted words, or accesses the class table.
use Rattle.std.specs.Prelude.{◌≡◌, ℕ, ◌+◌, ◌≤◌, [], length}
use Rattle.rlsf_base.specs.Space.{Space}

-- no byte changed, and no more than so many touches were counted, which are never taken back
pub record Counts (m n : Space) (most : ℕ) : Type 0 where
  pub start : n.start ≡ m.start
  pub bytes : n.bytes ≡ m.bytes
  pub touches : n.touches ≤ m.touches + most
  pub grow : m.touches ≤ n.touches
  pub copied : n.copied ≡ m.copied
  pub view : n.view ≡ m.view
  pub out : n.out ≡ m.out

-- the memory stays where it is, no more than so many touches were counted, which are never taken back, and exactly so many
-- copied bytes; and where nothing was out, nothing is
pub record Costs (m n : Space) (most moved : ℕ) : Type 0 where
  pub start : n.start ≡ m.start
  pub length : length n.bytes ≡ length m.bytes
  pub touches : n.touches ≤ m.touches + most
  pub grow : m.touches ≤ n.touches
  pub copied : n.copied ≡ m.copied + moved
  pub view : n.view ≡ m.view
  pub none : m.out ≡ [] → n.out ≡ []
