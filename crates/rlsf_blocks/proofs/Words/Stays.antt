-- What is a memory's own stays so over several steps, and so does what is here.
use Rattle.std.proofs.Common.{◌≡◌, ℕ, ◌+◌, ◌%◌, ◌≤◌, length, arith, refl, ◌∙◌}
use Rattle.rlsf_base.specs.declared.memory.range.Range.{Range}
use Rattle.rlsf_base.specs.Range.{end_of, LiesIn}
use Rattle.rlsf_base.specs.Space.{Space, word_range}
use Rattle.rlsf_base.specs.OpenSpace.{IsOwned, IsWritable, SameOwn, StaysHere}
use Rattle.rlsf_base.proofs.Lending.Present.{out-same, own-same, own-there, own-word}
use Rattle.rlsf_table.specs.Rewrites.{Rewrites}

-- the memory stays where it is, the same bytes are its own, and what is here stays here
pub record Stays (m n : Space) : Type 0 where
  pub start : n.start ≡ m.start
  pub own : SameOwn m n
  pub here : StaysHere m n

pub Stays-then : {m n o : Space} → Stays m n → Stays n o → Stays m o
Stays-then one two = grind arith

pub Stays-same : (m n : Space) → n.start ≡ m.start → n.out ≡ m.out → Stays m n
Stays-same m n start out = record { start = start; own = own-same m n start out; here = λ a inside is. out-same m n a start out ∙ is }

pub Stays-rewrites : {m n : Space} {at : ℕ → Type 0} → Rewrites m n at → Stays m n
Stays-rewrites rewrites = record { start = rewrites.start; own = rewrites.own; here = rewrites.here }

-- a memory lies where another one does, and the same bytes are its own
pub record IsPlacedAs (m n : Space) : Type 0 where
  pub start : n.start ≡ m.start
  pub length : length n.bytes ≡ length m.bytes
  pub own : SameOwn m n

pub placed_as : (m n : Space) → n.start ≡ m.start → length n.bytes ≡ length m.bytes → SameOwn m n → IsPlacedAs m n
placed_as m n start len own = record { start = start; length = len; own = own }

pub placed_here : (m : Space) → IsPlacedAs m m
placed_here m = record { start = refl; length = refl; own = λ a inside. refl }

pub placed_by : {m n : Space} {at : ℕ → Type 0} → Rewrites m n at → IsPlacedAs m n
placed_by rewrites = record { start = rewrites.start; length = rewrites.length; own = rewrites.own }

pub placed_then : {m n o : Space} → IsPlacedAs m n → IsPlacedAs n o → IsPlacedAs m o
placed_then one two =
    record { start = two.start ∙ one.start; length = two.length ∙ one.length; own = λ a inside. two.own a (omega (arith, one.start)) ∙ one.own a inside }

-- so a word can be written there, if it lies in a range that was the memory's own
pub IsWritable-in : {m n : Space} → IsPlacedAs m n → (r : Range) → LiesIn r m.start (length m.bytes) → IsOwned m r → (a : ℕ) → a % 8 ≡ 0 → r.start ≤ a → a + 8 ≤ end_of r
    → IsWritable n a
IsWritable-in {m} {n} is r inside own a whole from to = (
  whole,
  (omega (arith, is.start, inside.0, from), omega (arith, is.start, is.length, inside.1, to)),
  own-there m n (word_range a) (omega (arith, inside.0, from)) is.own (own-word m r a own from to),
)
