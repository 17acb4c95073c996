-- An iteration from block to block, by the words in memory.
use Rattle.std.specs.Prelude.{◌≡◌, ℕ, ◌+◌, ◌-◌, ◌*◌, ◌/◌, ◌%◌, ◌<◌, ◌≤◌, List, [], ◌∷◌, zero, suc, nat_lt, nat_eq, if◌then◌else◌}
use Rattle.rlsf_base.specs.declared.memory.range.Range.{Range}
use Rattle.rlsf_base.specs.Range.{end_of, range_at}
use Rattle.rlsf_base.specs.Space.{Space, word_at}
use Rattle.rlsf_blocks.specs.Blocks.{Block, HasBlock}
use Rattle.rlsf_blocks.specs.StandsFor.{contents, StandsFor}
use Rattle.rlsf_model.specs.Lists.{IsIn}
use Rattle.rlsf_model.specs.State.{State}
use Rattle.rlsf_table.specs.Table.{Table}

-- the block whose size word is at an address
abbrev pub block_at : Space → ℕ → Block
block_at m a = record { range = range_at a (word_at m a / 32 * 32); is_occupied = nat_eq (word_at m a % 2) 1 }

-- where the next block begins behind one that ends at an address: behind a sentinel, if one is there
abbrev pub next_start : Space → ℕ → ℕ
next_start m a = if nat_eq (word_at m a) 35 then a + 32 else a

-- the blocks from one address up to another, no more than so many
abbrev pub blocks_within : Space → ℕ → ℕ → ℕ → List Block
blocks_within m zero start end = []
blocks_within m (suc most) start end = if nat_lt start end then block_at m start ∷ blocks_within m most (next_start m (end_of (block_at m start).range)) end else []

-- the blocks from one address up to another: each has a byte or more
abbrev pub blocks_between : Space → ℕ → ℕ → List Block
blocks_between m start end = blocks_within m (end - start) start end

-- a used or a free block of the state begins at the address
abbrev pub BlockBegins : State → ℕ → Type 0
BlockBegins s a = (b : Block) × HasBlock s b × (b.range.start ≡ a)

-- where an iteration is: at its end, or at a block, from which each address up to the end is in a chunk that ends there or before
pub record IsAtBlock (s : State) (start end : ℕ) : Type 0 where
  pub within : start ≤ end
  pub begins : start < end → BlockBegins s start
  pub chunks : (a : ℕ) → start ≤ a → a < end → (c : Range) × IsIn c s.chunks × (c.start ≤ a) × (a < end_of c) × (end_of c ≤ end)

-- an iteration that is underway in a memory which represents some state
abbrev pub IsUnderway : Space → ℕ → ℕ → Type 0
IsUnderway m start end = (fllen : ℕ) × (sllen : ℕ) × (t : Table) × (s : State) × StandsFor fllen sllen (contents m t) s × IsAtBlock s start end

-- where an iteration over the range begins and ends: where the range does, if it has a byte
pub record IsSpan (r : Range) (start end : ℕ) : Type 0 where
  pub within : start ≤ end
  pub some : 0 < r.len → (start ≡ r.start) × (end ≡ end_of r)
  pub none : r.len ≡ 0 → start ≡ end
