-- The blocks of all pools are those of the state.
use Rattle.std.proofs.Common.{◌≡◌, ℕ, zero, suc, ◌%◌, ◌<◌, ◌≤◌, ◌++◌, length, take, List, [], ◌∷◌, slice_index_or, arith, refl, sym, ap, subst, inl}
use Rattle.std.proofs.Common.{inr}
use Rattle.std.specs.Prelude.{◌↔◌}
use Rattle.std.proofs.lemmas.List.Sorted.{IsPermutation-sym}
use Rattle.rlsf_base.specs.declared.memory.range.Range.{Range}
use Rattle.rlsf_base.specs.Range.{end_of}
use Rattle.rlsf_model_sizes.specs.Rounding.{round32}
use Rattle.rlsf_base.specs.Space.{range_of}
use Rattle.rlsf_model.specs.ChunkRows.{IsRow}
use Rattle.rlsf_model.specs.Lists.{IsIn}
use Rattle.rlsf_model.specs.State.{State}
use Rattle.rlsf_model.specs.WellFormed.{itself, IsWellFormed}
use Rattle.rlsf_model.proofs.Coverage.{covers-inside, coverage-IsIn, coverage-some, coverage-unique, IsIn-append, IsIn-append_left, IsIn-append_right}
use Rattle.rlsf_model.proofs.Payloads.{IsUsed-some}
use Rattle.rlsf_model.proofs.Tiling.{tiling_of, lies_in_chunk, IsPart-free, IsPart-used, LiesInChunk}
use Rattle.rlsf_blocks.specs.Blocks.{Block, HasBlock, used, free, AreBlocks, IsInOrder, walked}
use Rattle.rlsf_blocks.proofs.Walking.Listed.{IsInOrder-append}
use Rattle.rlsf_tlsf.specs.Allocator.{Allocator}
use Rattle.rlsf_trace_runs.specs.declared.tables.Tables.{Tables}
use Rattle.rlsf_trace_runs.specs.Runs.{RunState}
use Rattle.rlsf_trace_runs.specs.Steps.Pools.{AreInAddressOrder as ArePoolsInOrder}
use Rattle.rlsf_trace_runs.specs.Steps.Tables.{IsAt}
use Rattle.rlsf_trace_runs.proofs.RunStates.{some_pool}
use Rattle.rlsf_trace_runs.proofs.SamePools.{IsIn-permutation}

-- the block lies in the range
abbrev pub LiesBetween : Range → Block → Type 0
LiesBetween p b = (p.start ≤ b.range.start) × (end_of b.range ≤ end_of p)

-- the blocks are those of the state that lie in one of some ranges, in order
pub record AreGathered (s : State) (pools : List Range) (bs : List Block) : Type 0 where
  pub exactly : (b : Block) → IsIn b bs ↔ ((p : Range) × IsIn p pools × HasBlock s b × LiesBetween p b)
  pub in_order : IsInOrder bs

-- one range more, behind the others
pub AreGathered-more : {s : State} {pools : List Range} {bs : List Block} → AreGathered s pools bs → (p : Range) (cs : List Block)
    → ((q : Range) → IsIn q pools → end_of q ≤ p.start)
    → (r : Range) → r.start ≡ p.start → end_of r ≡ end_of p → AreBlocks s r cs → AreGathered s (pools ++ p ∷ []) (bs ++ cs)
AreGathered-more {s} {pools} {bs} have p cs behind r begins ends are = record {
  exactly = λ b. (to b, from b);
  in_order = IsInOrder-append bs cs have.in_order are.in_order (λ b c i j.
      let (q, in_pools, _, (_, high)) = (have.exactly b).0 i in
      let (_, low, _) = (are.exactly c).0 j in
      omega (arith, behind q in_pools, high, low, begins));
}
  where
    to : (b : Block) → IsIn b (bs ++ cs) → (q : Range) × IsIn q (pools ++ p ∷ []) × HasBlock s b × LiesBetween q b
    to b i = elim (IsIn-append b bs cs i) [
      | inl j ↦ let (q, in_pools, has, within) = (have.exactly b).0 j in (q, IsIn-append_left q pools (p ∷ []) in_pools, has, within)
      | inr j ↦ let (has, low, high) = (are.exactly b).0 j in (p, IsIn-append_right p pools (p ∷ []) (inl refl), has, (omega (arith, low, begins), omega (arith, high, ends)))
    ]

    from : (b : Block) → ((q : Range) × IsIn q (pools ++ p ∷ []) × HasBlock s b × LiesBetween q b) → IsIn b (bs ++ cs)
    from b (q, i, has, (low, high)) = elim (IsIn-append q pools (p ∷ []) i) [
      | inl j ↦ IsIn-append_left b bs cs ((have.exactly b).1 (q, j, has, (low, high)))
      | inr j ↦ elim j [
        | inl same ↦
            IsIn-append_right b bs cs ((are.exactly b).1 (has, omega (arith, low, begins, ap (λ (x : Range). x.start) same), omega (arith, high, ends, ap end_of same)))
        | inr none ↦ absurd none
      ]
    ]

-- an element of the first ones of a list is at a place before the others
IsIn-take : (xs : List Range) (i : ℕ) (q : Range) → IsIn q (take i xs) → (j : ℕ) × (j < i) × (j < length xs) × ((d : Range) → slice_index_or xs j d ≡ q)
IsIn-take [] zero q there = absurd there
IsIn-take [] (suc i) q there = absurd there
IsIn-take (x ∷ xs) zero q there = absurd there
IsIn-take (x ∷ xs) (suc i) q (inl same) = (0, omega arith, omega arith, λ d. sym same)
IsIn-take (x ∷ xs) (suc i) q (inr there) = let (j, below, within, is) = IsIn-take xs i q there in (suc j, omega (arith, below), omega (arith, within), is)

-- pools before one in their order end before it begins
pub pools_before : {pools : List Range} → ArePoolsInOrder pools → (i : ℕ) → i < length pools → (p : Range) → ((d : Range) → slice_index_or pools i d ≡ p)
    → (q : Range) → IsIn q (take i pools) → end_of q ≤ p.start
pools_before {pools} order i within p is q there =
    let (j, below, _, at) = IsIn-take pools i q there in
    omega (arith, order.apart j i p below within, ap end_of (at p), ap (λ (x : Range). x.start) (is p))

module _ {fllen sllen : ℕ} {v : Allocator} {tables : Tables} {s : RunState} (at : IsAt fllen sllen v tables s) where
  whole : IsWellFormed fllen sllen (range_of v.memory) s.machine
  whole = at.stands.stands.well_formed

  -- a pool of the table is one of the run's
  in_run : (p : Range) → IsIn p tables.pools.ranges.items → IsIn p s.pools
  in_run p i = IsIn-permutation p tables.pools.ranges.items s.pools (IsPermutation-sym s.pools tables.pools.ranges.items at.pools) i

  -- a pool begins at a multiple of 32
  pub pool_start : (p : Range) → IsIn p tables.pools.ranges.items → p.start % 32 ≡ 0
  pool_start p i =
      let mine = in_run p i in
      let some = some_pool at p mine in
      let (c, is_chunk, from, low, _, _) = at.rows p mine p.start (omega arith) (omega arith) in
      let same : c.start ≡ p.start = omega arith in
      subst (λ a. a % 32 ≡ 0) same (whole.chunks c is_chunk).whole.start

  -- so its blocks are those that an iteration over it yields
  pub pool_walked : (p : Range) → IsIn p tables.pools.ranges.items → IsRow s.machine (walked p)
  pool_walked p i =
      let start = pool_start p i in
      let same : round32 p.start ≡ p.start = omega (arith, start) in
      let some = some_pool at p (in_run p i) in
      λ a low high. (let (c, is_chunk, from, from_a, to_a, to) = at.rows p (in_run p i) a (omega arith) (omega arith) in (c, is_chunk, omega arith, from_a, to_a, omega arith))

  pub walked_bounds : (p : Range) → IsIn p tables.pools.ranges.items → ((walked p).start ≡ p.start) × (end_of (walked p) ≡ end_of p)
  walked_bounds p i =
      let start = pool_start p i in
      let same : round32 p.start ≡ p.start = omega (arith, start) in
      (same, omega (arith, same))

  -- a range in a chunk lies in a pool
  pool_of : (r : Range) → LiesInChunk s.machine r → (p : Range) × IsIn p tables.pools.ranges.items × (p.start ≤ r.start) × (end_of r ≤ end_of p)
  pool_of r home =
      let c = home.chunk in
      let a = c.start in
      let room = (whole.chunks c home.is_chunk).has_room in
      let mine = covers-inside c a (omega arith) (omega arith) in
      let (p, is_pool, low, high) = coverage-some itself s.pools a (omega (arith, at.covered a, coverage-IsIn itself c s.machine.chunks a home.is_chunk, mine)) in
      let (d, is_chunk, from, below, above, to) = at.rows p is_pool a low high in
      let same : d ≡ c = coverage-unique itself d c s.machine.chunks a (whole.disjoint a) is_chunk home.is_chunk (covers-inside d a below above) mine in (
        p,
        IsIn-permutation p s.pools tables.pools.ranges.items at.pools is_pool,
        omega (arith, home.from, from, ap (λ (x : Range). x.start) same),
        omega (arith, home.to, to, ap end_of same),
      )

  -- and so does each block
  block_in_pool : (b : Block) → HasBlock s.machine b → (p : Range) × IsIn p tables.pools.ranges.items × LiesBetween p b
  block_in_pool b (used u i same occupied) =
      let (p, is_pool, low, high) =
      pool_of u.block (lies_in_chunk s.machine (tiling_of whole) u.block (IsUsed-some u (whole.used u i)) (IsPart-used s.machine (tiling_of whole) u i)) in
      (p, is_pool, (omega (arith, low, ap (λ (x : Range). x.start) same), omega (arith, high, ap end_of same)))
  block_in_pool b (free i occupied) =
      let (p, is_pool, low, high) =
      pool_of b.range (lies_in_chunk s.machine (tiling_of whole) b.range (whole.free b.range i).some (IsPart-free s.machine (tiling_of whole) b.range i)) in
      (p, is_pool, (low, high))

  -- all blocks of all pools are all blocks
  pub AreBlocks-all : (bs : List Block) → AreGathered s.machine tables.pools.ranges.items bs → AreBlocks s.machine (range_of v.memory) bs
  AreBlocks-all bs have = record {
    exactly = λ b. (
      λ i. (let (p, is_pool, has, (low, high)) = (have.exactly b).0 i in let (from, to) = at.inside p is_pool in (has, omega (arith, low, from), omega (arith, high, to))),
      λ (has, _, _). (let (p, is_pool, within) = block_in_pool b has in (have.exactly b).1 (p, is_pool, has, within)),
    );
    in_order = have.in_order;
  }
