-- The part of a range that a check passes: from its start, rounded up to a multiple of 32, to its end.
use Rattle.std.proofs.Common.{◌≡◌, ℕ, ◌+◌, ◌-◌, ◌%◌, ◌<◌, ◌≤◌, List, length, arith}
use Rattle.rlsf_base.specs.declared.memory.range.Range.{Range}
use Rattle.rlsf_base.specs.Range.{LiesIn, end_of}
use Rattle.rlsf_base.specs.Space.{Space, range_of, word_range}
use Rattle.rlsf_blocks.specs.Blocks.{walked}
use Rattle.rlsf_model.specs.ChunkRows.{IsRow}
use Rattle.rlsf_model.specs.State.{State, between}
use Rattle.rlsf_table.specs.Table.{Table}
use Rattle.rlsf_blocks.specs.Consistency.Consistent.{AreConsistent, HasChunks, IsConsistent}
use Rattle.rlsf_blocks.specs.Consistency.Heads.{HasHeads}
use Rattle.rlsf_blocks.specs.Consistency.Layout.{HasInBandLayout}
use Rattle.rlsf_blocks.specs.Consistency.Pools.{HasPoolAt, LiesInPool, all_of, pool_at}
use Rattle.rlsf_blocks.specs.Steps.BlockAt.{ReachesPools}
use Rattle.rlsf_blocks.proofs.Consistency.Pieces.{IsBase, SomeChunks-none}

-- as many bytes from an address on are complete chunks
abbrev pub SomeLayoutFrom : ℕ → ℕ → List ℕ → Space → Table → ℕ → ℕ → Type 0
SomeLayoutFrom fllen sllen ps m t len start = HasChunks fllen sllen ps m t (between start (start + len))

-- a word of a memory lies in the one pool that is all of it
pub reaches_all : (m : Space) (a : ℕ) → LiesIn (word_range a) m.start (length m.bytes) → LiesInPool (all_of m) (word_range a)
unfolding LiesInPool
reaches_all m a lies = (0, omega arith, lies)

-- and one of a pool lies in that
pub reaches_pool : (ps : List ℕ) (m : Space) (k : ℕ) → HasPoolAt ps k → ReachesPools ps m (pool_at ps k)
unfolding LiesInPool
reaches_pool ps m k is a lies inside = (k, is, lies)

-- the layout is that of another range, if that is a row
over : {fllen sllen : ℕ} {ps : List ℕ} {m : Space} {t : Table} {r : Range} {s : State} → HasInBandLayout fllen sllen ps m t r s → (q : Range) → IsRow s q
    → HasInBandLayout fllen sllen ps m t q s
over v q row = record { well_formed = v.well_formed; row = row; sizes = v.sizes; previous = v.previous; linked = v.linked }

-- two ranges with the same start and end are the same row
row_same : (s : State) (r q : Range) → q.start ≡ r.start → end_of q ≡ end_of r → IsRow s r → IsRow s q
row_same s r q start end row a low high =
    let (c, i, from, at, past, up_to) = row a (omega (arith, low, start)) (omega (arith, high, end)) in
    (c, i, omega (arith, from, start), at, past, omega (arith, up_to, end))

module _ (fllen sllen : ℕ) (m : Space) (t : Table) (r : Range) where
  -- what is consistent, by its parts
  pub heads_of : IsConsistent fllen sllen m t r → HasHeads fllen sllen (all_of m) m t
  unfolding IsConsistent
  heads_of is = is.0

  pub chunks_of : IsConsistent fllen sllen m t r → HasChunks fllen sllen (all_of m) m t r
  unfolding IsConsistent
  chunks_of is = is.1

  pub IsConsistent-from : HasHeads fllen sllen (all_of m) m t → HasChunks fllen sllen (all_of m) m t r → IsConsistent fllen sllen m t r
  unfolding IsConsistent
  IsConsistent-from heads chunks = (heads, chunks)

module _ (fllen sllen : ℕ) (ps : List ℕ) (m : Space) (t : Table) (r : Range) where
  -- a row with a byte lies in the memory
  pub row_within : HasChunks fllen sllen ps m t r → r.start < end_of r → (m.start ≤ r.start) × (end_of r ≤ end_of (range_of m))
  row_within (s, v) some =
      let (c, i, from, at, past, up_to) = v.row r.start (omega arith) some in
      let (d, j, d_from, d_at, d_past, d_up_to) = v.row (end_of r - 1) (omega (arith, some)) (omega (arith, some)) in
      (omega (arith, from, at, (v.well_formed.chunks c i).lies_in.0), omega (arith, d_past, d_up_to, some, (v.well_formed.chunks d j).lies_in.1))

module _ (fllen sllen : ℕ) (ps : List ℕ) (m : Space) (t : Table) (r : Range) (skipped : ℕ) (is : skipped ≡ (32 - r.start % 32) % 32) where
  -- a range of which nothing is left
  pub HasChunks-nothing : IsBase fllen sllen m → r.len ≤ skipped → HasChunks fllen sllen ps m t (walked r)
  HasChunks-nothing base short =
      let (s, (v, inside)) = SomeChunks-none {t = t} base r.start in
      (s, over v (walked r) (λ a low high. absurd (omega (arith, is, short, low, high))))

  module _ (less : skipped < r.len) where
    abbrev rest : ℕ
    rest = r.len - skipped

    starts : (walked r).start ≡ r.start + skipped
    starts = omega (arith, is)

    ends : end_of (walked r) ≡ r.start + skipped + rest
    ends = omega (arith, is, less)

    -- the rest lies in the memory
    pub rest_within : HasChunks fllen sllen ps m t (walked r) → (m.start ≤ r.start + skipped) × (r.start + skipped + (r.len - skipped) ≤ end_of (range_of m))
    rest_within chunks =
        let lies = row_within fllen sllen ps m t (walked r) chunks (omega (arith, starts, ends, less)) in (omega (arith, lies.0, starts), omega (arith, lies.1, ends))

    pub HasChunks-rest : SomeLayoutFrom fllen sllen ps m t (r.len - skipped) (r.start + skipped) → HasChunks fllen sllen ps m t (walked r)
    HasChunks-rest (s, v) = grind (arith, over, row_same, starts, ends)

    pub rest_of : HasChunks fllen sllen ps m t (walked r) → SomeLayoutFrom fllen sllen ps m t (r.len - skipped) (r.start + skipped)
    rest_of (s, v) = grind (arith, over, row_same, starts, ends)

-- a range lies in a pool
pub LiesInPool-at : (ps : List ℕ) (r : Range) (k : ℕ) → HasPoolAt ps k → LiesIn r (pool_at ps k).start (pool_at ps k).len → LiesInPool ps r
unfolding LiesInPool
LiesInPool-at ps r k is lies = (k, is, lies)

-- and in none of them
pub LiesInPool-none : (ps : List ℕ) (r : Range) → ((k : ℕ) → HasPoolAt ps k → LiesIn r (pool_at ps k).start (pool_at ps k).len → ⊥) → LiesInPool ps r → ⊥
unfolding LiesInPool
LiesInPool-none ps r none (k, is, lies) = none k is lies

module _ (fllen sllen : ℕ) (ps : List ℕ) (m : Space) (t : Table) where
  -- what is consistent over pools, by its parts
  pub pools_heads : AreConsistent fllen sllen ps m t → HasHeads fllen sllen ps m t
  unfolding AreConsistent
  pools_heads are = are.0

  pub pools_chunks : AreConsistent fllen sllen ps m t → (k : ℕ) → HasPoolAt ps k → HasChunks fllen sllen ps m t (walked (pool_at ps k))
  unfolding AreConsistent
  pools_chunks are = are.1

  pub AreConsistent-from : HasHeads fllen sllen ps m t → ((k : ℕ) → HasPoolAt ps k → HasChunks fllen sllen ps m t (walked (pool_at ps k)))
      → AreConsistent fllen sllen ps m t
  unfolding AreConsistent
  AreConsistent-from heads chunks = (heads, chunks)
