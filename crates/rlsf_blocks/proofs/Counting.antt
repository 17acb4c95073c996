-- What a call leaves of a memory's place and counts, after one that only counted.
use Rattle.std.proofs.Common.{◌≡◌, ℕ, ◌+◌, ◌≤◌, arith}
use Rattle.rlsf_base.specs.Space.{Space}
use Rattle.rlsf_table.specs.Counts.{Counts}

-- a word alone was read
pub Counts-loaded : (m n : Space) → n.start ≡ m.start → n.bytes ≡ m.bytes → n.touches ≡ m.touches + 1 → n.copied ≡ m.copied → n.view ≡ m.view
    → n.out ≡ m.out → Counts m n 1
Counts-loaded m n start bytes touches copied view out = record { out = out; start = start; bytes = bytes; touches = omega arith; grow = omega arith; copied = copied; view = view }

pub Counts-counted_first : (m n o : Space) (most more : ℕ) → Counts m n most → Counts n o more → Counts m o (most + more)
Counts-counted_first m n o most more first second = grind arith

pub copied-more : (m n : Space) (more : ℕ) → n.copied ≡ m.copied → n.copied ≤ m.copied + more
copied-more m n more same = omega arith
