-- What is true of a checked allocator's fields once a range was inserted or appended.
use Rattle.std.specs.Option.{option_map_or}
use Rattle.std.proofs.Common.{◌≡◌, ℕ, zero, suc, ◌*◌, ◌/◌, find, ◌+◌, ◌-◌, ◌%◌, ◌^◌, ◌<◌, ◌≤◌, ◌⊎◌, true, false, nat_le}
use Rattle.std.proofs.Common.{nat_lt, List, [], ◌∷◌, length, Option, None, Some, Ok, Err, arith, refl, sym, ◌∙◌, ap, subst, inl, inr}
use Rattle.std.proofs.lemmas.Bool.{and_parts, cases_lt, eqb-true, le-ltb, leb-true, lt-ltb, ltb-true}
use Rattle.std.proofs.lemmas.Option.{none-some}
use Rattle.rlsf_base.specs.declared.memory.range.Range.{Range}
use Rattle.rlsf_base.specs.Range.{LiesIn, end_of, range_at}
use Rattle.rlsf_model_sizes.specs.Rounding.{round32}
use Rattle.rlsf_model_sizes.specs.Sizes.{max_pool_size}
use Rattle.rlsf_base.specs.Space.{SamePlace, range_of}
use Rattle.rlsf_base.proofs.Numbers.Roundings.{round32-le}
use Rattle.rlsf_blocks.specs.Blocks.{walked}
use Rattle.rlsf_model.specs.Callers.{align_at}
use Rattle.rlsf_model.specs.ChunkRows.{IsRow}
use Rattle.rlsf_model.specs.Insert.{Appends, Inserts, IsClear, IsNext, IsUntouched, aligned_part, appended, appended_bytes, bytes_taken, cut, end_of_last, extended, with_chunks, grown}
use Rattle.rlsf_model.specs.Join.{ends_at}
use Rattle.rlsf_model.specs.Lists.{IsIn}
use Rattle.rlsf_model.specs.State.{State, empty}
use Rattle.rlsf_model.specs.WellFormed.{itself}
use Rattle.rlsf_model.proofs.CallerWords.{align_at-none}
use Rattle.rlsf_model.proofs.ChunkRows.{IsRow-appended, IsRow-inserted, IsRow-kept, IsRow-kept_apart}
use Rattle.rlsf_model.proofs.Chunks.{IsIn-with_chunks}
use Rattle.rlsf_model.proofs.Coverage.{IsIn-without, coverage-IsIn, coverage-some, covers-inside, covers-some, find-some}
use Rattle.rlsf_model.proofs.Cuts.{IsIn-cut_within, coverage-cut_last}
use Rattle.rlsf_model.proofs.Untouched.{IsFresh-untouched}
use Rattle.rlsf_model.proofs.AddedChunks.{IsIn-end_of_last}
use Rattle.rlsf_tlsf.specs.Allocator.{Allocator, Stands}
use Rattle.rlsf_checked.specs.Answers.{append_answer, if_appended, if_taken, insert_answer, is_next, is_within}
use Rattle.rlsf_checked.specs.Checked.{Checked, PoolList}
use Rattle.rlsf_checked.specs.Pools.{no_pools, with_longer_last, with_pool}
use Rattle.rlsf_checked.specs.declared.error.CheckedError.TheVariants.{NotBehind, NotNext, OutsideMemory}
use Rattle.rlsf_codes.specs.declared.codes.Codes.{Codes}
use Rattle.rlsf_codes.specs.Codes.{HasPlace, code_at}
use Rattle.rlsf_checked.specs.Steps.Standing.{AreCheckedPools, IsChecked, IsOneOf, IsCheckedPool}
use Rattle.rlsf_checked.proofs.ListedPools.{inserted_order, is_in, one_of}

-- no chunk of a part ends behind the last one
end_of-cut : (fllen : ℕ) (part c : Range) → IsIn c (cut (max_pool_size fllen) part)
    → (part.start ≤ c.start) × (end_of c ≤ end_of_last part.start (cut (max_pool_size fllen) part)) × (end_of c ≤ end_of part) × (0 < c.len)
end_of-cut fllen part c i =
    let cs = cut (max_pool_size fllen) part in
    let (from, to, some) = IsIn-cut_within fllen part c i in
    let a = end_of c - 1 in
    let one = covers-inside c a (omega arith) (omega arith) in
    let last = range_at part.start (end_of_last part.start cs - part.start) in
    let (low, high) = covers-some last a (omega (arith, coverage-IsIn itself c cs a i, coverage-cut_last (max_pool_size fllen) part a)) in
    (from, omega arith, to, some)

-- nor behind the bytes that are taken
end_of-taken : (start n : ℕ) (at : ℕ) (cs : List Range) (c : Range) → bytes_taken start cs ≡ Some n → IsIn c cs → start ≤ end_of_last at cs
    → end_of c ≤ end_of_last at cs → end_of c ≤ start + n
end_of-taken start n at [] c e i from to = absurd i
end_of-taken start n at (d ∷ ds) c e i from to = grind arith

-- so that no more is taken than the range has, and more than is skipped
pub taken-within : (fllen : ℕ) (r : Range) (n : ℕ) → bytes_taken r.start (cut (max_pool_size fllen) (aligned_part r)) ≡ Some n
    → (n ≤ r.len) × (round32 r.start < r.start + n)
taken-within fllen r n e = go (cut (max_pool_size fllen) (aligned_part r)) refl e
  where
    go : (cs : List Range) → cut (max_pool_size fllen) (aligned_part r) ≡ cs → bytes_taken r.start cs ≡ Some n → (n ≤ r.len) × (round32 r.start < r.start + n)
    go [] same told = absurd (none-some n told)
    go (d ∷ ds) same told =
        let (c, i, ends) = IsIn-end_of_last d ds in
        let (from, to, within, some) = end_of-cut fllen (aligned_part r) c (subst (IsIn c) (sym same) i) in
        let taken : end_of_last (end_of d) ds - r.start ≡ n = cc in
        (omega (arith, round32-le r.start, from, within, some, ends), omega (arith, taken, round32-le r.start, from, within, some, ends))

-- a chunk after an insert was there, or lies in what is taken of the range
inserted_in : (fllen : ℕ) (s t : State) (r : Range) (n : ℕ) → Inserts fllen s r (Some n) t → (c : Range) → IsIn c t.chunks
    → ((r.start ≤ c.start) × (end_of c ≤ r.start + n)) ⊎ IsIn c s.chunks
inserted_in fllen s t r n step c i =
    let cs = cut (max_pool_size fllen) (aligned_part r) in
    elim (IsIn-with_chunks c cs s (subst (λ (x : State). IsIn c x.chunks) step.after i)) [
      | inl made ↦
          let (from, to, in_part, some) = end_of-cut fllen (aligned_part r) c made in
          inl (
            omega (arith, round32-le r.start, from),
            end_of-taken r.start n (aligned_part r).start cs c (sym step.answer) made (omega (arith, round32-le r.start, from, to)) to,
          )
      | inr old ↦ inr old
    ]

-- the range is the last pool after that, if no pool is behind its start
pub inserted_pools : (fllen : ℕ) (s t : State) (pools : PoolList) (r : Range) (n : ℕ) → AreCheckedPools s pools → end_of pools.last ≤ r.start → Inserts fllen s r (Some n) t
    → AreCheckedPools t (with_pool pools (range_at r.start n))
inserted_pools fllen s t pools r n are behind step =
    let taken = taken-within fllen r n (sym step.answer) in
    record {
      each = λ p one. elim one [
        | inl i ↦ let is = are.each p (one_of pools p i) in record { room = is.room; row = IsRow-kept fllen s t r (walked p) (Some n) step is.row }
        | inr (same, some) ↦ subst (IsCheckedPool t) (sym same) (record { room = taken.1; row = IsRow-inserted fllen s t r n step })
      ];
      order = inserted_order pools are;
      behind = λ p i. elim (one_of pools p i) [ inl j ↦ omega (arith, are.behind p j, behind) | inr (same, some) ↦ omega (arith, ap end_of same, behind) ];
      homes = λ c i. elim (inserted_in fllen s t r n step c i) [
        | inl (from, to) ↦ (range_at r.start n, inr (refl, omega (arith, taken.1, round32-le r.start)), from, to)
        | inr old ↦ let (p, one, from, to) = are.homes c old in (p, inl (is_in pools p one), from, to)
      ];
    }

module _ {fllen sllen : ℕ} {v : Allocator} {m : Codes ℕ} {pools : PoolList} (is : IsChecked fllen sllen v m pools) where
  -- no chunk ends behind the last pool
  pub below : (c : Range) → IsIn c v.state.chunks → end_of c ≤ end_of pools.last
  below c i =
      let (p, one, from, to) = is.pools.homes c i in
      elim one [ inl j ↦ omega (arith, to, is.pools.behind p j) | inr (same, some) ↦ omega (arith, to, ap end_of same) ]

  -- no chunk has a byte behind it
  pub clear : (r : Range) → end_of pools.last ≤ r.start → IsClear r v.state.chunks
  clear r behind a low high = grind (arith, cases_lt, coverage-some, below)

  pub untouched : (r : Range) → end_of pools.last ≤ r.start → IsUntouched v.state.chunks r
  unfolding IsUntouched
  untouched r behind a low high = clear r behind a low high

  -- every address of a pool fits in a word
  pub pool_fits : end_of pools.last < 2 ^ 64
  unfolding Stands
  pool_fits = omega (arith, is.high, is.stands.well_formed.addressable)

  module _ (w : Allocator) (stands : Stands fllen sllen w) (place : SamePlace v.memory w.memory) (aligns : align_at w.state ≡ align_at v.state) where
    -- the fields are those of a checked allocator with other pools
    pub renewed : (after : PoolList) → AreCheckedPools w.state after → v.memory.start ≤ after.last.start → end_of after.last ≤ end_of (range_of v.memory)
        → IsChecked fllen sllen w m after
    renewed after are low high = grind arith

    -- what was taken of a range is the last pool
    pub handed_in : (r : Range) → end_of pools.last ≤ r.start → LiesIn r v.memory.start (length v.memory.bytes) → (n : ℕ) → Inserts fllen v.state r (Some n) w.state
        → IsChecked fllen sllen w m (with_pool pools (range_at r.start n))
    handed_in r behind lies n step = renewed (with_pool pools (range_at r.start n)) (inserted_pools fllen v.state w.state pools r n is.pools behind step) lies.0
        (omega (arith, lies.1, (taken-within fllen r n (sym step.answer)).0))

-- an allocator to which nothing was handed, with marks that are all 0
pub made : {fllen sllen : ℕ} (heap : Allocator) (m : Codes ℕ) → Stands fllen sllen heap → heap.state ≡ empty → ((a : ℕ) → code_at m a ≡ 0)
    → ((a : ℕ) → a % 16 ≡ 0 → heap.memory.start ≤ a → a ≤ end_of (range_of heap.memory) → HasPlace m a)
    → IsChecked fllen sllen heap m (no_pools heap.memory.start)
made heap m stands none zeros covers = grind (arith, align_at-none)

-- where nothing is taken, nothing changes
pub none_taken : (fllen : ℕ) (s t : State) (r : Range) → Inserts fllen s r None t → t ≡ s
none_taken fllen s t r step = go (cut (max_pool_size fllen) (aligned_part r)) step.answer step.after
  where
    go : (cs : List Range) → None ≡ bytes_taken r.start cs → t ≡ with_chunks cs s → t ≡ s
    go [] e same = same
    go (c ∷ cs) e same = absurd (none-some (end_of_last (end_of c) cs - r.start) e)

-- a range that is found to lie in another does
pub within_is : (whole r : Range) → true ≡ is_within whole r → LiesIn r whole.start whole.len
within_is whole r e = grind (arith, and_parts, nat_le, leb-true)

-- what is returned of a range in the memory that doesn't begin before the end of the last pool
pub behind_answer : (fllen : ℕ) (v : Checked) (r : Range) → true ≡ is_within (range_of v.heap.memory) r → end_of v.pools.last ≤ r.start
    → insert_answer fllen v r ≡ if_taken (bytes_taken r.start (cut (max_pool_size fllen) (aligned_part r)))
behind_answer fllen v r within behind = grind (arith, nat_lt, le-ltb)

-- one outside of the memory is refused
pub outside_answer : (fllen : ℕ) (v : Checked) (r : Range) → false ≡ is_within (range_of v.heap.memory) r → insert_answer fllen v r ≡ Err OutsideMemory
outside_answer fllen v r outside = grind (arith, nat_lt)

-- and so is one before the end of the last pool
pub before_answer : (fllen : ℕ) (v : Checked) (r : Range) → true ≡ is_within (range_of v.heap.memory) r → r.start < end_of v.pools.last
    → insert_answer fllen v r ≡ Err NotBehind
before_answer fllen v r within before = grind (arith, nat_lt, lt-ltb)

-- ---- a range behind the last pool

-- the last pool ends with a chunk
pub last_chunk : {s : State} {p : Range} → IsCheckedPool s p → (c : Range) × IsIn c s.chunks × (end_of c ≡ end_of p)
last_chunk {p = p} is = grind arith

-- The chunks of a range that begins where a chunk ends don't end behind what is appended of it. Each was there, or doesn't begin before an
-- address at which the chunk that ends there doesn't begin either
appended-chunks : (fllen : ℕ) (s : State) (r : Range) (start : ℕ) → r.start % 32 ≡ 0 → start < r.start → (n : ℕ) → n ≡ appended_bytes (max_pool_size fllen) r
    → ((c : Range) → IsIn c s.chunks → (end_of c ≤ r.start) × (end_of c ≡ r.start → start ≤ c.start))
    → (c : Range) → IsIn c (appended (max_pool_size fllen) r s).chunks → (end_of c ≤ r.start + n) × (IsIn c s.chunks ⊎ (start ≤ c.start))
appended-chunks fllen s r start whole before n told old = go (max_pool_size fllen) refl told
  where
    grown-chunks : (k : ℕ) (o : Option Range) → find (ends_at r.start) s.chunks ≡ o → (c : Range) → IsIn c (option_map_or (λ c. grown c k s) o s).chunks
        → (end_of c ≤ r.start + k) × (IsIn c s.chunks ⊎ (start ≤ c.start))
    grown-chunks k None found c i = (omega (arith, (old c i).0), inl i)
    grown-chunks k (Some d) found c (inl same) =
        let (held, passes) = find-some (ends_at r.start) d s.chunks found in
        let ends : end_of d ≡ r.start = eqb-true (end_of d) r.start passes in
        let long : end_of c ≡ d.start + (d.len + k) = ap end_of same in
        (omega (arith, ends, long), inr (omega (arith, (old d held).1 ends, ap (λ (x : Range). x.start) same)))
    grown-chunks k (Some d) found c (inr j) = let i = IsIn-without (ends_at (end_of d)) c s.chunks j in (omega (arith, (old c i).0), inl i)

    extended-chunks : (k : ℕ) → (c : Range) → IsIn c (extended r.start k s).chunks → (end_of c ≤ r.start + k) × (IsIn c s.chunks ⊎ (start ≤ c.start))
    extended-chunks zero c i = (omega (arith, (old c i).0), inl i)
    extended-chunks (suc k) c i = grown-chunks (suc k) (find (ends_at r.start) s.chunks) refl c i

    go : (o : Option ℕ) → max_pool_size fllen ≡ o → n ≡ appended_bytes o r → (c : Range) → IsIn c (appended o r s).chunks
        → (end_of c ≤ r.start + n) × (IsIn c s.chunks ⊎ (start ≤ c.start))
    go None same e c i = let (below, was) = extended-chunks (r.len / 32 * 32) c i in (omega (arith, below, e), was)
    go (Some most) same e c i =
        let cs = cut (Some most) (aligned_part r) in
        let at : (aligned_part r).start ≡ r.start = omega (arith, whole) in
        elim (IsIn-with_chunks c cs s i) [
          | inl made ↦
              let (from, to, within, some) = end_of-cut fllen (aligned_part r) c (subst (λ o. IsIn c (cut o (aligned_part r))) (sym same) made) in
              let last : end_of_last (aligned_part r).start (cut (max_pool_size fllen) (aligned_part r)) ≡ end_of_last r.start cs =
              ap (λ o. end_of_last (aligned_part r).start (cut o (aligned_part r))) same ∙ ap (λ a. end_of_last a cs) at in
              (omega (arith, to, last, e), inr (omega (arith, from, before, round32-le r.start)))
          | inr j ↦ (omega (arith, (old c j).0), inl j)
        ]

-- no more is taken than the range has, and where nothing is, nothing changes
pub appended-le : (fllen : ℕ) (s : State) (r : Range) → (appended_bytes (max_pool_size fllen) r ≤ r.len) × ((t : State) → Appends fllen s r 0 t → t ≡ s)
appended-le fllen s r = go (max_pool_size fllen) refl
  where
    cut-le : (most : ℕ) → max_pool_size fllen ≡ Some most → (cs : List Range) → cut (Some most) (aligned_part r) ≡ cs
        → (end_of_last r.start cs - r.start ≤ r.len) × (0 ≡ end_of_last r.start cs - r.start → (t : State) → t ≡ with_chunks cs s → t ≡ s)
    cut-le most same [] is = (omega arith, λ none t e. e)
    cut-le most same (d ∷ ds) is =
        let (c, i, ends) = IsIn-end_of_last d ds in
        let made = subst (λ o. IsIn c (cut o (aligned_part r))) (sym same) (subst (IsIn c) (sym is) i) in
        let (from, to, within, some) = end_of-cut fllen (aligned_part r) c made in
        (omega (arith, round32-le r.start, from, within, some, ends), λ none t e. absurd (omega (arith, none, ends, from, some, round32-le r.start)))

    go : (o : Option ℕ) → max_pool_size fllen ≡ o → (appended_bytes o r ≤ r.len) × ((t : State) → Appends fllen s r 0 t → t ≡ s)
    go None same = (
      omega arith,
      λ t step.
          let none : 0 ≡ r.len / 32 * 32 = step.answer ∙ ap (λ o. appended_bytes o r) same in
          step.after ∙ ap (λ o. appended o r s) same ∙ ap (λ n. extended r.start n s) (sym none),
    )
    go (Some most) same =
        let (few, stays) = cut-le most same (cut (Some most) (aligned_part r)) refl in
        (few, λ t step. stays (step.answer ∙ ap (λ o. appended_bytes o r) same) t (step.after ∙ ap (λ o. appended o r s) same))

-- where nothing is taken, nothing changes
pub none_appended : (fllen : ℕ) (s t : State) (r : Range) → Appends fllen s r 0 t → t ≡ s
none_appended fllen s t r step = (appended-le fllen s r).1 t step

module _ {fllen sllen : ℕ} {v : Allocator} {m : Codes ℕ} {pools : PoolList} (is : IsChecked fllen sllen v m pools) (r : Range) (some : 0 < pools.last.len)
    (next : r.start ≡ end_of pools.last) (lies_in : LiesIn r v.memory.start (length v.memory.bytes)) where
  last_is : IsCheckedPool v.state pools.last
  last_is = is.pools.each pools.last (inr (refl, some))

  pub next_range : IsNext (range_of v.memory) v.state r
  next_range =
      let (c, i, ends) = last_chunk last_is in
      record { fresh = IsFresh-untouched (range_of v.memory) v.state r lies_in (untouched is r (omega (arith, next))); chunk = c; is_chunk = i; ends = ends ∙ sym next }

  whole_start : r.start % 32 ≡ 0
  unfolding Stands
  whole_start =
      let (c, i, ends) = last_chunk last_is in
      let whole = (is.stands.well_formed.chunks c i).whole in
      omega (arith, whole.start, whole.len, ends, next)

  longer_row : (w : Allocator) (n : ℕ) → Appends fllen v.state r n w.state → IsRow w.state (walked (range_at pools.last.start (pools.last.len + n)))
  unfolding Stands
  longer_row w n step =
      let p = walked pools.last in
      let ends : end_of p ≡ r.start = omega (arith, last_is.room, next) in
      let long : p.len + n ≡ pools.last.start + (pools.last.len + n) - p.start = omega (arith, last_is.room) in
      subst (λ l. IsRow w.state (range_at p.start l)) long (IsRow-appended is.stands.well_formed r p ends (omega (arith, last_is.room)) last_is.row n w.state step)

  -- no more is taken than the range has, so its end fits in a word
  pub appended_fits : (w : Allocator) (n : ℕ) → Appends fllen v.state r n w.state → (n ≤ r.len) × (end_of pools.last + n < 2 ^ 64)
  unfolding Stands
  appended_fits w n step =
      let few : n ≤ r.len = omega (arith, step.answer, (appended-le fllen v.state r).0) in
      (few, omega (arith, few, lies_in.1, is.stands.well_formed.addressable, next))

  appended_pools : (w : Allocator) (n : ℕ) → Appends fllen v.state r n w.state → AreCheckedPools w.state (with_longer_last pools n)
  appended_pools w n step = record {
    each = λ p one. elim one [
      | inl i ↦
          let was = is.pools.each p (inl i) in
          let apart : end_of (walked p) ≡ r.start → ⊥ = λ ends. omega (arith, ends, was.room, is.pools.behind p i, next, some) in
          record {
            room = was.room;
            row = IsRow-kept_apart v.state r (walked p) (clear is r (omega (arith, next))) apart was.row fllen n w.state step;
          }
      | inr (same, long) ↦ subst (IsCheckedPool w.state) (sym same) (record { room = omega (arith, last_is.room); row = longer_row w n step })
    ];
    order = is.pools.order;
    behind = is.pools.behind;
    homes = homes;
  }
    where
      -- a chunk that ends with the last pool is in it
      at_end : (c : Range) → IsIn c v.state.chunks → end_of c ≡ r.start → pools.last.start ≤ c.start
      at_end c i ends =
          let (p, one, from, to) = is.pools.homes c i in
          elim one [
            | inl j ↦ absurd (omega (arith, ends, to, is.pools.behind p j, next, some))
            | inr (same, long) ↦ omega (arith, from, ap (λ (x : Range). x.start) same)
          ]

      homes : (c : Range) → IsIn c w.state.chunks → (p : Range) × IsOneOf p (with_longer_last pools n) × (p.start ≤ c.start) × (end_of c ≤ end_of p)
      homes c i =
          let j = subst (λ (x : State). IsIn c x.chunks) step.after i in
          let (to, was) = appended-chunks fllen v.state r pools.last.start whole_start (omega (arith, next, some)) n step.answer
          (λ d k. (omega (arith, below is d k, next), at_end d k)) c j in
          elim was [
            | inr from ↦ (range_at pools.last.start (pools.last.len + n), inr (refl, omega (arith, some)), from, omega (arith, to, next))
            | inl old ↦
                let (p, one, from, end) = is.pools.homes c old in
                elim one [
                  | inl k ↦ (p, inl k, from, end)
                  | inr (same, long) ↦ (
                    range_at pools.last.start (pools.last.len + n),
                    inr (refl, omega (arith, some)),
                    omega (arith, from, ap (λ (x : Range). x.start) same),
                    omega (arith, to, next),
                  )
                ]
          ]

  -- the last pool is longer by what was taken
  pub handed_on : (w : Allocator) → Stands fllen sllen w → SamePlace v.memory w.memory → align_at w.state ≡ align_at v.state → (n : ℕ)
      → Appends fllen v.state r n w.state → IsChecked fllen sllen w m (with_longer_last pools n)
  handed_on w stands place aligns n step = renewed is w stands place aligns (with_longer_last pools n) (appended_pools w n step) is.low
      (omega (arith, lies_in.1, next, step.answer, (appended-le fllen v.state r).0))

-- what is returned of a range in the memory that begins where the last pool ends
pub next_answer : (fllen : ℕ) (v : Checked) (r : Range) → true ≡ is_within (range_of v.heap.memory) r → true ≡ is_next v.pools.last r.start
    → append_answer fllen v r ≡ if_appended (appended_bytes (max_pool_size fllen) r)
next_answer fllen v r within next = grind arith

-- one outside of the memory isn't appended
pub none_outside : (fllen : ℕ) (v : Checked) (r : Range) → false ≡ is_within (range_of v.heap.memory) r → append_answer fllen v r ≡ Err OutsideMemory
none_outside fllen v r outside = grind arith

-- nor one that isn't next
pub none_apart : (fllen : ℕ) (v : Checked) (r : Range) → true ≡ is_within (range_of v.heap.memory) r → false ≡ is_next v.pools.last r.start
    → append_answer fllen v r ≡ Err NotNext
none_apart fllen v r within apart = grind arith

-- a range that is found to be next begins where a chunk ends
pub next_is : (pool r : Range) → true ≡ is_next pool r.start → (0 < pool.len) × (r.start ≡ end_of pool)
next_is pool r e = grind (arith, and_parts, nat_lt, ltb-true, eqb-true)

-- the number of taken bytes is returned
pub some_appended : (n : ℕ) → (n ≡ 0 → ⊥) → if_appended n ≡ Ok n
some_appended zero some = absurd (some refl)
some_appended (suc n) some = refl
