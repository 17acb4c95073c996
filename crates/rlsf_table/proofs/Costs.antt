-- What several steps cost together.
use Rattle.std.proofs.Common.{◌≡◌, ℕ, ◌+◌, ◌≤◌, length, arith}
use Rattle.rlsf_base.specs.Space.{Space, SamePlace, word_range}
use Rattle.rlsf_base.specs.OpenSpace.{out_with}
use Rattle.rlsf_base.proofs.Lending.Whole.{none-with}
use Rattle.rlsf_table.specs.Counts.{Costs, Counts}

-- one step after another
pub Costs-then : {m n o : Space} {a b c d : ℕ} → Costs m n a c → Costs n o b d → Costs m o (a + b) (c + d)
Costs-then one two = grind arith

-- a step that wrote nothing
pub Costs-counted : {m n : Space} {most : ℕ} → Counts m n most → Costs m n most 0
Costs-counted counts = grind arith

-- a larger bound
pub Costs-within : {m n : Space} {a b c : ℕ} → a ≤ b → Costs m n a c → Costs m n b c
Costs-within within costs = grind arith

-- a memory that is the same
pub Costs-same : (m n : Space) → n ≡ m → Costs m n 0 0
Costs-same m n same = grind arith

-- a word that is read
pub Costs-loaded : (m n : Space) → n.start ≡ m.start → n.bytes ≡ m.bytes → n.touches ≡ m.touches + 1 → n.copied ≡ m.copied → n.view ≡ m.view → n.out ≡ m.out
    → Costs m n 1 0
Costs-loaded m n start bytes touches copied view out = grind arith

-- a word that is written
pub Costs-written : (m n : Space) (a : ℕ) → n.start ≡ m.start → length n.bytes ≡ length m.bytes → n.touches ≡ m.touches + 1 → n.copied ≡ m.copied
    → n.view ≡ m.view → n.out ≡ out_with m (word_range a) → Costs m n 1 0
Costs-written m n a start len touches copied view out =
    record {
      start = start;
      length = len;
      touches = omega (arith, touches);
      grow = omega (arith, touches);
      copied = omega (arith, copied);
      view = view;
      none = none-with m n (word_range a) out;
    }

-- the memory stays where it is
pub SamePlace-costs : {m n : Space} {a b : ℕ} → Costs m n a b → SamePlace m n
SamePlace-costs costs = (costs.start, costs.length, costs.view, costs.none)

-- no byte was copied
pub copied_none : {m n : Space} {most : ℕ} → Costs m n most 0 → n.copied ≡ m.copied
copied_none costs = omega (arith, costs.copied)
