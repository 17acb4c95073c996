-- Which ranges are those of a pool, and the blocks of one by their index.
use Rattle.std.proofs.Common.{◌≡◌, ℕ, zero, suc, ◌<◌, ◌≤◌, List, [], ◌∷◌, length, Option, Some, None, arith, sym, ap, subst, ◌∙◌}
use Rattle.std.specs.Iterator.{SkipsThenYields}
use Rattle.std.specs.List.{slice_get}
use Rattle.std.specs.Map.Iter.{TakesFirst}
use Rattle.std.specs.Prelude.{MatchOption}
use Rattle.std.proofs.lemmas.List.Sorted.{IsPermutation-sym}
use Rattle.rlsf_base.specs.declared.memory.range.Range.{Range}
use Rattle.rlsf_base.specs.Range.{end_of, LiesIn}
use Rattle.rlsf_model_sizes.specs.Rounding.{round32}
use Rattle.rlsf_base.specs.Space.{Space, range_of}
use Rattle.rlsf_model.specs.ChunkRows.{IsRow}
use Rattle.rlsf_model.specs.State.{State}
use Rattle.rlsf_blocks.specs.Blocks.{walked}
use Rattle.rlsf_tlsf.specs.Allocator.{Allocator}
use Rattle.rlsf_trace_runs.specs.declared.tables.Tables.{Tables}
use Rattle.rlsf_trace_runs.specs.Runs.{MayWalk, RunState}
use Rattle.rlsf_trace_runs.specs.Steps.Tables.{IsAt}
use Rattle.rlsf_trace_runs.proofs.RunStates.{some_pool}
use Rattle.rlsf_trace_runs.proofs.SamePools.{IsIn-permutation}

-- contiguous chunks from a range's rounded start to its end are those of an iteration over the range
IsRow-between : (s : State) (p r : Range) → p.start ≡ round32 r.start → end_of p ≡ end_of r → 0 < p.len → IsRow s p → IsRow s (walked r)
IsRow-between s p r begins ends some row a low high =
    let (c, i, from, at, under, to) = row a (omega arith) (omega arith) in
    (c, i, omega arith, at, under, omega arith)

module _ {fllen sllen : ℕ} {v : Allocator} {tables : Tables} {s : RunState} (at : IsAt fllen sllen v tables s) where
  -- an iteration is allowed over a range that passes the test
  pub MayWalk-tested : (r : Range) {m : Space} → m ≡ v.memory → MayWalk (range_of m) tables.pools.ranges.items r → MayWalk (range_of v.memory) s.pools r
  MayWalk-tested r same may = record {
    lies_in = subst (λ m. LiesIn r m.start (length m.bytes)) same may.lies_in;
    pool = may.pool;
    is_pool = IsIn-permutation may.pool tables.pools.ranges.items s.pools (IsPermutation-sym s.pools tables.pools.ranges.items at.pools) may.is_pool;
    begins = may.begins;
    ends = may.ends;
  }

  -- a range over which an iteration is allowed passes the test
  pub MayWalk-tables : (r : Range) {m : Space} → m ≡ v.memory → MayWalk (range_of v.memory) s.pools r → MayWalk (range_of m) tables.pools.ranges.items r
  MayWalk-tables r same may = record {
    lies_in = subst (λ m. LiesIn r m.start (length m.bytes)) (sym same) may.lies_in;
    pool = may.pool;
    is_pool = IsIn-permutation may.pool s.pools tables.pools.ranges.items at.pools may.is_pool;
    begins = may.begins;
    ends = may.ends;
  }

  -- its chunks are contiguous
  pub IsRow-walked : (r : Range) → MayWalk (range_of v.memory) s.pools r → IsRow s.machine (walked r)
  IsRow-walked r may = IsRow-between s.machine may.pool r may.begins may.ends (some_pool at may.pool may.is_pool) (at.rows may.pool may.is_pool)

-- what comes behind so many elements of a list that is taken from its front
pub nth-list : {X : Type 0} (n : ℕ) (s u : List X) (r : Option X) → SkipsThenYields (TakesFirst (λ x. x)) s n r u → r ≡ slice_get s n
nth-list n s u r ([], (t, same, step), count) = first n s t u r same step count
  where
    first : {X : Type 0} (n : ℕ) (s t u : List X) (r : Option X) → s ≡ t → TakesFirst (λ x. x) t r u → MatchOption r (0 ≤ n) (λ _. 0 ≡ n) → r ≡ slice_get s n
    first n s t u None same (none, _) count = sym (ap (λ l. slice_get l n) (same ∙ none))
    first zero s t u (Some x) same is count = sym (ap (λ l. slice_get l 0) (same ∙ is))
    first (suc n) s t u (Some x) same is count = absurd (omega arith)
nth-list zero s u None (x ∷ xs, _, count) = absurd (omega arith)
nth-list zero s u (Some y) (x ∷ xs, _, count) = absurd (omega arith)
nth-list (suc n) s u r (x ∷ xs, (t, (j, is, more), step), count) = nth-list n j u r (xs, (t, more, step), fewer n (length xs) r count) ∙ sym (ap (λ l. slice_get l (suc n)) is)
  where
    fewer : {X : Type 0} (n m : ℕ) (r : Option X) → MatchOption r (suc m ≤ suc n) (λ _. suc m ≡ suc n) → MatchOption r (m ≤ n) (λ _. m ≡ n)
    fewer n m None at_most = omega arith
    fewer n m (Some y) same = omega arith
