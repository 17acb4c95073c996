-- The state of a run, from its tables, and how an op changes it.
use Rattle.std.proofs.Common.{◌≡◌, ◌≢◌, ℕ, ◌+◌, ◌-◌, ◌<◌, nat_eq, length, [], ◌∷◌, map, slice_set, Some, None, arith, inl, inr, sym}
use Rattle.std.proofs.Common.{◌∙◌, ap, subst}
use Rattle.std.proofs.lemmas.List.{length-map}
use Rattle.std.proofs.lemmas.List.Sorted.{IsPermutation-cons, IsPermutation-map, IsPermutation-refl, IsPermutation-sym, IsPermutation-trans}
use Rattle.std.specs.Prelude.{IsPermutation}
use Rattle.std.specs.HashMap.{get}
use Rattle.std.specs.Option.{option_map}
use Rattle.rlsf_base.specs.declared.memory.range.Range.{Range}
use Rattle.rlsf_base.specs.Range.{end_of, LiesIn}
use Rattle.rlsf_model_sizes.specs.Rounding.{round32}
use Rattle.rlsf_base.proofs.Numbers.Roundings.{round32-le}
use Rattle.rlsf_base.specs.Space.{Space, range_of, SamePlace}
use Rattle.rlsf_model.specs.Insert.{Appends, Inserts, IsClear, IsFresh, IsNext, IsVacant}
use Rattle.rlsf_model.specs.ChunkRows.{IsRow}
use Rattle.rlsf_model.specs.Lists.{IsIn}
use Rattle.rlsf_model.specs.State.{State, between, empty}
use Rattle.rlsf_model.specs.WellFormed.{coverage, itself, IsWellFormed}
use Rattle.rlsf_tlsf.specs.Allocator.{Allocator, IsInState}
use Rattle.rlsf_model.specs.Run.{append, insert}
use Rattle.rlsf_model.proofs.ChunkRows.{IsRow-appended, IsRow-inserted, IsRow-kept, IsRow-kept_apart}
use Rattle.rlsf_model.proofs.Live.{live_stays}
use Rattle.rlsf_trace_runs.specs.declared.tables.Tables.{Tables}
use Rattle.rlsf_trace_runs.specs.Runs.{RunState, run_beginning, longer_pool, longer_pool_at, MayAppend, MayInsert, with_new_pool}
use Rattle.rlsf_trace_runs.specs.Names.{address}
use Rattle.rlsf_trace_runs.specs.Steps.Pools.{ArePoolsApart, AreInRuns, EndsAt}
use Rattle.rlsf_trace_runs.specs.Steps.Tables.{IsAt}
use Rattle.rlsf_trace_runs.proofs.Named.{AreNamed-empty, AreNamed-kept, AreNamed-same}
use Rattle.rlsf_trace_runs.proofs.NewPools.{coverage-with_pool, pool_bounds}
use Rattle.rlsf_trace_runs.proofs.ApartPools.{ArePoolsApart-more, ArePoolsApart-permutation}
use Rattle.rlsf_trace_runs.proofs.AppendedChunks.{IsLonger, IsLonger-appended}
use Rattle.rlsf_trace_runs.proofs.Lengthened.{AreApart-longer_pool, coverage-longer_pool, is_lengthened, IsIn-longer_pool, longer_pool-each, longer_pools-start}
use Rattle.rlsf_trace_runs.proofs.Overlapping.{IsIn-at, no_range, nth_range}
use Rattle.rlsf_trace_runs.proofs.PoolRuns.{AreInRuns-none, AreInRuns-starts}
use Rattle.rlsf_trace_runs.proofs.SamePools.{coverage-permutation, IsIn-permutation}

-- a chunk ends at the end of contiguous chunks that have a byte
row_end : (s : State) (p : Range) → 0 < p.len → IsRow s p → (c : Range) × IsIn c s.chunks × (end_of c ≡ end_of p)
row_end s p some row = let (c, i, _, _, high, to) = row (end_of p - 1) (omega arith) (omega arith) in (c, i, omega arith)

module _ {fllen sllen : ℕ} {v : Allocator} {tables : Tables} {s : RunState} (at : IsAt fllen sllen v tables s) where
  -- the table's pools have as many ranges at an address as the run's
  coverage-tables : (a : ℕ) → coverage itself tables.pools.ranges.items a ≡ coverage itself s.pools a
  coverage-tables a = coverage-permutation s.pools tables.pools.ranges.items a at.pools

  -- a range that passes the test may be inserted
  pub MayInsert-tested : (r : Range) {m : Space} → m ≡ v.memory → IsVacant (range_of m) tables.pools.ranges.items r → MayInsert (range_of v.memory) s.pools r
  MayInsert-tested r same vacant = record {
    lies_in = subst (λ m. LiesIn r m.start (length m.bytes)) same vacant.lies_in;
    apart = λ a low high. sym (coverage-tables a) ∙ vacant.apart a low high;
  }

  -- and one that may be inserted passes it
  pub IsVacant-tables : (r : Range) {m : Space} → m ≡ v.memory → MayInsert (range_of v.memory) s.pools r → IsVacant (range_of m) tables.pools.ranges.items r
  IsVacant-tables r same may = record {
    lies_in = subst (λ m. LiesIn r m.start (length m.bytes)) (sym same) may.lies_in;
    apart = λ a low high. coverage-tables a ∙ may.apart a low high;
  }

  -- a range may be appended if a pool of the table ends where it begins
  pub MayAppend-tested : (r : Range) (place : ℕ) → MayInsert (range_of v.memory) s.pools r → EndsAt tables.pools.ranges.items place r.start
      → MayAppend (range_of v.memory) s.pools r
  MayAppend-tested r place may (below, ends) = record {
    vacant = may;
    pool = nth_range tables.pools.ranges.items place;
    is_pool =
        IsIn-permutation (nth_range tables.pools.ranges.items place) tables.pools.ranges.items s.pools (IsPermutation-sym s.pools tables.pools.ranges.items at.pools)
        (IsIn-at tables.pools.ranges.items place no_range below);
    ends = ends no_range;
  }

  -- and not if none does
  pub MayAppend-none : (r : Range) → ((p : Range) → IsIn p tables.pools.ranges.items → end_of p ≢ r.start) → MayAppend (range_of v.memory) s.pools r → ⊥
  MayAppend-none r none may = none may.pool (IsIn-permutation may.pool s.pools tables.pools.ranges.items at.pools may.is_pool) may.ends

  -- a range that may be inserted overlaps no pool of the table
  pub IsClear-tables : (r : Range) → MayInsert (range_of v.memory) s.pools r → IsClear r tables.pools.ranges.items
  IsClear-tables r may a low high = coverage-tables a ∙ may.apart a low high

  -- nor does the pool that is made of it, which has a byte
  new_pool : (r pool : Range) (len : ℕ) (t : State) {memory : Range} → MayInsert (range_of v.memory) s.pools r → Inserts fllen s.machine r (Some len) t
      → IsWellFormed fllen sllen memory t
      → pool ≡ between (round32 r.start) (r.start + len) → (pool.start < end_of pool) × IsClear pool tables.pools.ranges.items
  new_pool r pool len t may step whole is =
      let bounds = pool_bounds fllen s.machine r len t step whole in
      let low = round32-le r.start in
      let from = ap (λ p. p.start) is in
      let to = ap end_of is in
      (omega (arith, bounds, from, to), λ a above below. IsClear-tables r may a (omega (arith, low, from)) (omega (arith, bounds, to)))

  -- what may be inserted overlaps no chunk
  pub IsFresh-MayInsert : (r : Range) → MayInsert (range_of v.memory) s.pools r → IsFresh (range_of v.memory) s.machine r
  IsFresh-MayInsert r may = record { lies_in = may.lies_in; apart = λ a low high. omega (arith, at.covered a, may.apart a low high) }

  -- no pool is empty
  pub some_pool : (p : Range) → IsIn p s.pools → 0 < p.len
  some_pool p there = omega (arith, at.apart.some p (IsIn-permutation p s.pools tables.pools.ranges.items at.pools there))

  -- what may be appended follows a chunk
  pub IsNext-MayAppend : (r : Range) → MayAppend (range_of v.memory) s.pools r → IsNext (range_of v.memory) s.machine r
  IsNext-MayAppend r may =
      let (c, i, ends) = row_end s.machine may.pool (some_pool may.pool may.is_pool) (at.rows may.pool may.is_pool) in
      record { fresh = IsFresh-MayInsert r may.vacant; chunk = c; is_chunk = i; ends = ends ∙ may.ends }

  module _ {w : Allocator} (place : SamePlace v.memory w.memory) (t : State) (stands : IsInState fllen sllen w t) where
    -- after an insert that made a pool
    pub IsAt-inserted : {new : Tables} (r pool : Range) (len : ℕ) → Inserts fllen s.machine r (Some len) t → MayInsert (range_of v.memory) s.pools r
        → pool ≡ between (round32 r.start) (r.start + len) → new.names ≡ tables.names → IsPermutation (pool ∷ tables.pools.ranges.items) new.pools.ranges.items
        → AreInRuns new.pools.ranges.items new.pools.firsts.items
        → IsAt fllen sllen w new (record { machine = t; named = s.named; pools = with_new_pool r (Some len) s.pools })
    IsAt-inserted {new} r pool len step may is names added in_runs =
        let (from, to) = may.lies_in in
        let (some, clear) = new_pool r pool len t may step stands.stands.well_formed is in
        let made = between (round32 r.start) (r.start + len) in
        let bounds = pool_bounds fllen s.machine r len t step stands.stands.well_formed in
        let low = round32-le r.start in
        let home : LiesIn made w.memory.start (length w.memory.bytes) = (omega (arith, from, low, place), omega (arith, bounds, to, place)) in
        record {
          stands = stands;
          named =
              AreNamed-kept (AreNamed-same at.named (λ name. ap (λ table. get nat_eq table name) names)) t
              (λ addr align live. live_stays fllen sllen s.machine t (insert r (Some len)) addr align step live (λ never. never));
          pools =
              IsPermutation-trans _ _ _ (IsPermutation-cons made s.pools tables.pools.ranges.items at.pools)
              (subst (λ p. IsPermutation (p ∷ tables.pools.ranges.items) new.pools.ranges.items) is added);
          apart = ArePoolsApart-permutation (ArePoolsApart-more at.apart pool some clear) added;
          in_runs = in_runs;
          inside = λ p i. elim (IsIn-permutation p new.pools.ranges.items (pool ∷ tables.pools.ranges.items)
              (IsPermutation-sym (pool ∷ tables.pools.ranges.items) new.pools.ranges.items added) i) [
                | inl new ↦ subst (λ q. LiesIn q w.memory.start (length w.memory.bytes)) (sym (new ∙ is)) home
                | inr old ↦ let (p_from, p_to) = at.inside p old in (omega (arith, p_from, place), omega (arith, p_to, place))
              ];
          covered = λ a. coverage-with_pool fllen s.machine r (Some len) t step s.pools a (at.covered a);
          rows = λ p. elim [
            | inl new ↦ subst (IsRow t) (sym new) (IsRow-inserted fllen s.machine t r len step)
            | inr old ↦ IsRow-kept fllen s.machine t r p (Some len) step (at.rows p old)
          ];
        }

    -- after an insert that made none
    pub IsAt-not_inserted : (r : Range) → Inserts fllen s.machine r None t → IsAt fllen sllen w tables (record { machine = t; named = s.named; pools = s.pools })
    IsAt-not_inserted r step = record {
      stands = stands;
      named = AreNamed-kept at.named t (λ addr align live. live_stays fllen sllen s.machine t (insert r None) addr align step live (λ never. never));
      pools = at.pools;
      apart = at.apart;
      in_runs = at.in_runs;
      inside = λ p i. (let (p_from, p_to) = at.inside p i in (omega (arith, p_from, place), omega (arith, p_to, place)));
      covered = λ a. coverage-with_pool fllen s.machine r None t step s.pools a (at.covered a);
      rows = λ p i. IsRow-kept fllen s.machine t r p None step (at.rows p i);
    }

    -- after an append
    pub IsAt-appended : {new : Tables} (r : Range) (more i : ℕ) → Appends fllen s.machine r more t → MayAppend (range_of v.memory) s.pools r
        → EndsAt tables.pools.ranges.items i r.start
        → new.names ≡ tables.names → new.pools.ranges.items ≡ slice_set tables.pools.ranges.items i (longer_pool more (nth_range tables.pools.ranges.items i))
        → new.pools.firsts.items ≡ tables.pools.firsts.items
        → IsAt fllen sllen w new (record { machine = t; named = s.named; pools = map (longer_pool_at r.start more) s.pools })
    IsAt-appended {new} r more i step may ends names set firsts = record {
      stands = stands;
      named =
          AreNamed-kept (AreNamed-same at.named (λ name. ap (λ table. get nat_eq table name) names)) t
          (λ addr align live. live_stays fllen sllen s.machine t (append r more) addr align step live (λ never. never));
      pools = subst (IsPermutation (map f s.pools)) (sym is) (IsPermutation-map f s.pools tables.pools.ranges.items at.pools);
      apart = subst ArePoolsApart (sym is) (AreApart-longer_pool at.apart r (IsClear-tables r may.vacant) i more ends longer.within);
      in_runs =
          subst (λ l. AreInRuns l new.pools.firsts.items) (sym is) (subst (AreInRuns (map f tables.pools.ranges.items)) (sym firsts)
          (AreInRuns-starts at.in_runs (length-map tables.pools.ranges.items f) (longer_pools-start r.start more tables.pools.ranges.items)));
      inside = λ p there. inside p (subst (IsIn p) is there);
      covered = λ a. omega (arith, longer.coverage a, at.covered a, coverage-longer_pool r.start more may.pool s.pools a may.is_pool may.ends);
      rows = rows;
    }
      where
        f : Range → Range
        f = longer_pool_at r.start more

        is : new.pools.ranges.items ≡ map f tables.pools.ranges.items
        is = set ∙ longer_pool-each at.apart i r.start more ends

        longer : IsLonger s.machine r more t
        longer = IsLonger-appended at.stands.stands.well_formed r (IsNext-MayAppend r may) more t step stands.stands.well_formed

        inside : (p : Range) → IsIn p (map f tables.pools.ranges.items) → LiesIn p w.memory.start (length w.memory.bytes)
        inside p there =
            let (q, old, is_q) = IsIn-longer_pool r.start more p tables.pools.ranges.items there in
            let (from, to) = at.inside q old in
            let (_, end) = may.vacant.lies_in in
            let within = longer.within in
            elim (is_lengthened r.start more q) [
              | inl (same, new_q) ↦ subst (λ x. LiesIn x w.memory.start (length w.memory.bytes)) (sym (is_q ∙ new_q))
                  (omega (arith, from, place), omega (arith, same, end, within, place))
              | inr (_, new_q) ↦ subst (λ x. LiesIn x w.memory.start (length w.memory.bytes)) (sym (is_q ∙ new_q)) (omega (arith, from, place), omega (arith, to, place))
            ]

        rows : (p : Range) → IsIn p (map f s.pools) → IsRow t p
        rows p there =
            let (q, old, is_q) = IsIn-longer_pool r.start more p s.pools there in
            elim (is_lengthened r.start more q) [
              | inl (same, new_q) ↦ subst (IsRow t) (sym (is_q ∙ new_q)) (IsRow-appended at.stands.stands.well_formed r q same (some_pool q old) (at.rows q old) more t step)
              | inr (differ, new_q) ↦ subst (IsRow t) (sym (is_q ∙ new_q))
                  (IsRow-kept_apart s.machine r q (IsFresh-MayInsert r may.vacant).apart differ (at.rows q old) fllen more t step)
            ]

-- with no chunk and empty tables, a run is at its beginning
pub IsAt-beginning : {fllen sllen : ℕ} {v : Allocator} {tables : Tables} → IsInState fllen sllen v empty → tables.names.entries ≡ [] → tables.pools.ranges.items ≡ []
    → tables.pools.firsts.items ≡ [] → IsAt fllen sllen v tables run_beginning
IsAt-beginning {v = v} {tables = tables} stands no_names no_pools no_runs = record {
  stands = stands;
  named = AreNamed-empty empty no_names;
  pools = subst (IsPermutation []) (sym no_pools) (IsPermutation-refl []);
  apart = record { some = λ p i. absurd (subst (IsIn p) no_pools i); once = λ a. omega (arith, ap (λ l. coverage itself l a) no_pools) };
  in_runs = subst (λ l. AreInRuns l tables.pools.firsts.items) (sym no_pools) (AreInRuns-none no_runs);
  inside = λ p i. absurd (subst (IsIn p) no_pools i);
  covered = λ a. omega arith;
  rows = λ p i. absurd i;
}

-- tables that hold the same names and pools, and may have more room
pub IsAt-roomy : {fllen sllen : ℕ} {v : Allocator} {tables new : Tables} {s : RunState} → IsAt fllen sllen v tables s
    → ((name : ℕ) → get nat_eq new.names name ≡ get nat_eq tables.names name)
    → (new.pools.ranges.items ≡ tables.pools.ranges.items) × (new.pools.firsts.items ≡ tables.pools.firsts.items) → IsAt fllen sllen v new s
IsAt-roomy {v = v} {tables = tables} {new = new} {s = s} at names (pools, firsts) = record {
  stands = at.stands;
  named = record {
    names = λ name. ap (option_map address) (names name) ∙ at.named.names name;
    live = λ name p is. at.named.live name p (sym (names name) ∙ is);
    one_name = at.named.one_name;
  };
  pools = subst (IsPermutation s.pools) (sym pools) at.pools;
  apart = subst ArePoolsApart (sym pools) at.apart;
  in_runs = subst (λ l. AreInRuns l new.pools.firsts.items) (sym pools) (subst (AreInRuns tables.pools.ranges.items) (sym firsts) at.in_runs);
  inside = subst (λ l. (p : Range) → IsIn p l → LiesIn p v.memory.start (length v.memory.bytes)) (sym pools) at.inside;
  covered = at.covered;
  rows = at.rows;
}

-- tables whose pools are sorted
pub IsAt-sorted : {fllen sllen : ℕ} {v : Allocator} {tables new : Tables} {s : RunState} → IsAt fllen sllen v tables s → new.names ≡ tables.names
    → IsPermutation tables.pools.ranges.items new.pools.ranges.items → AreInRuns new.pools.ranges.items new.pools.firsts.items → IsAt fllen sllen v new s
IsAt-sorted {tables = tables} {new = new} {s = s} at names same in_runs = record {
  stands = at.stands;
  named = AreNamed-same at.named (λ name. ap (λ table. get nat_eq table name) names);
  pools = IsPermutation-trans s.pools tables.pools.ranges.items new.pools.ranges.items at.pools same;
  apart = ArePoolsApart-permutation at.apart same;
  in_runs = in_runs;
  inside = λ p there. at.inside p (IsIn-permutation p new.pools.ranges.items tables.pools.ranges.items
      (IsPermutation-sym tables.pools.ranges.items new.pools.ranges.items same) there);
  covered = at.covered;
  rows = at.rows;
}
