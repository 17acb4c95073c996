-- What a new chunk's words are.
use Rattle.std.specs.Prelude.{◌≡◌, ℕ, ◌+◌, ◌-◌, ◌<◌, ◌≤◌, List, ◌∷◌, length}
use Rattle.rlsf_base.specs.declared.memory.range.Range.{Range}
use Rattle.rlsf_base.specs.Range.{LiesIn, range_at}
use Rattle.rlsf_base.specs.Space.{Space, word_at}
use Rattle.rlsf_base.specs.OpenSpace.{IsOwned}
use Rattle.rlsf_table.specs.Rewrites.{Rewrites}
use Rattle.rlsf_table.specs.Table.{Table, HasTable}
use Rattle.rlsf_blocks.specs.Steps.Touched.{Touched}
use Rattle.rlsf_blocks.specs.InBand.{sentinel_of}
use Rattle.rlsf_model.specs.Insert.{body, IsClear}
use Rattle.rlsf_model.specs.State.{State}
use Rattle.rlsf_model.specs.WellFormed.{IsFree, IsWhole}

-- a range can become a chunk: it has room for a sentinel and a block of a valid class, lies in the memory, and overlaps no chunk
pub record IsNewChunk (fllen sllen : ℕ) (m : Space) (s : State) (c : Range) : Type 0 where
  pub whole : IsWhole c
  pub room : 64 ≤ c.len
  pub some : 0 < c.start
  pub lies_in : LiesIn c m.start (length m.bytes)
  pub fresh : IsClear c s.chunks
  pub block : IsFree fllen sllen (body c)
  pub own : IsOwned m c

-- a chunk except for the last 16 bytes of its sentinel
abbrev pub opened : Range → Range
opened c = range_at c.start (c.len - 16)

-- the words of a new chunk, which is one free block, put in front of its class
pub record IsAdded (fllen sllen : ℕ) (m n : Space) (t : Table) (free : List Range) (c : Range) : Type 0 where
  pub rewrites : Rewrites m n (Touched free (opened c) (c.start + 8))
  pub size : word_at n c.start ≡ c.len - 32
  pub first : word_at n (c.start + 8) ≡ 0
  pub sentinel : word_at n (sentinel_of c) ≡ 35
  pub previous : word_at n (sentinel_of c + 8) ≡ c.start
  pub table : HasTable fllen sllen n t (body c ∷ free)
