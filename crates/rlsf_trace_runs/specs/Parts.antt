-- The part of a memory that ops name.
use Rattle.std.specs.Prelude.{◌≡◌, ℕ, ◌≤◌, List, [], ◌∷◌, Option, Some, None, ⊤}
use Rattle.rlsf_base.specs.declared.memory.range.Range.{Range}
use Rattle.rlsf_base.specs.Range.{end_of, LiesIn}
use Rattle.rlsf_trace_text.specs.declared.op.Op.{Op}
use Rattle.rlsf_trace_text.specs.declared.op.Op.TheVariants.{Insert, Append, Alloc, Free, FreeUnknown, Realloc, ReallocNoMove, Fill, Put, Get, Usable, Block, Trim}

-- the range that an op names, if it names one
abbrev pub range_named : Op → Option Range
range_named (Insert r) = Some r
range_named (Append r) = Some r
range_named (Alloc name layout) = None
range_named (Free name) = None
range_named (FreeUnknown name) = None
range_named (Realloc name size) = None
range_named (ReallocNoMove name size) = None
range_named (Fill name byte) = None
range_named (Put name offset byte) = None
range_named (Get name offset) = None
range_named (Usable name) = None
range_named (Block r index) = Some r
range_named Trim = None

-- if the op names a range in the memory, that range is between the two addresses
abbrev pub CoversOp : Range → ℕ → ℕ → Op → Type 0
CoversOp memory first end op = (r : Range) → range_named op ≡ Some r → LiesIn r memory.start memory.len → (first ≤ r.start) × (end_of r ≤ end)

-- if the op names a range in the memory, that range is in the part
abbrev pub HasRange : Range → Range → Op → Type 0
HasRange memory part op = (r : Range) → range_named op ≡ Some r → LiesIn r memory.start memory.len → LiesIn r part.start part.len

-- so for each op
abbrev pub HasRanges : Range → Range → List Op → Type 0
HasRanges memory part [] = ⊤
HasRanges memory part (op ∷ ops) = HasRange memory part op × HasRanges memory part ops

-- a part of the memory that has the ranges of the ops
abbrev pub IsPartFor : Range → List Op → Range → Type 0
IsPartFor memory ops part = LiesIn part memory.start memory.len × HasRanges memory part ops
