-- The newest range is returned, over plain values.
use Rattle.std.proofs.Common.{◌≡◌, ℕ, ◌+◌, ◌^◌, ◌<◌, ◌≤◌, true, List, [], ◌∷◌, Option, Some, None, IfSome, MatchOption, arith, refl, sym, ◌∙◌}
use Rattle.std.proofs.Common.{ap, subst, inl, inr}
use Rattle.rlsf_base.specs.declared.memory.range.Range.{Range}
use Rattle.rlsf_base.specs.Range.{end_of, LiesIn}
use Rattle.rlsf_base.specs.Space.{IsWord, range_of, SamePlace}
use Rattle.rlsf_blocks.specs.Blocks.{walked}
use Rattle.rlsf_blocks.specs.Spare.{KeepsSpare}
use Rattle.rlsf_tlsf.specs.Allocator.{Allocator, IsStanding}
use Rattle.rlsf_flex.specs.declared.pool.Pool.{Pool}
use Rattle.rlsf_flex.specs.Footers.{Footers, first, footer_of}
use Rattle.rlsf_flex.specs.StandsFor.{FlexStandsFor, flex_contents, kept_of, kept_pool}
use Rattle.rlsf_flex.specs.Steps.Trim.{GaveNewest, HasRoomForChunk, older}
use Rattle.rlsf_model.specs.FlexState.{FlexState}
use Rattle.rlsf_model.specs.FlexWellFormed.{IsFlexWellFormed, IsKeptPool, IsNewest, IsPool}
use Rattle.rlsf_model.specs.Lists.{IsIn}
use Rattle.rlsf_model.specs.Note.{Note, dealloc}
use Rattle.rlsf_model.specs.Remove.{IsIdle, removed}
use Rattle.rlsf_model.specs.State.{State}
use Rattle.rlsf_model.specs.Terms.{Terms}
use Rattle.rlsf_model.specs.Trim.{IsNewestHeld}
use Rattle.rlsf_model.specs.WellFormed.{itself}
use Rattle.rlsf_model.proofs.Coverage.{coverage-unique, covers-inside}
use Rattle.rlsf_model.proofs.RangePools.{IsPool-kept, IsPool-last}
use Rattle.rlsf_model.proofs.Trims.{IsOver, IsOver-all_removed, IsOver-flex}
use Rattle.rlsf_flex.proofs.Frames.{Footers-kept, ends_here, outstanding_in, range_of-same, spare_here}
use Rattle.rlsf_flex.proofs.Kept.{IsKeptPool-known, keeps-dealloc}
use Rattle.rlsf_flex.proofs.Outcomes.{FlexStandsFor-answered}
use Rattle.rlsf_flex.proofs.Places.{out_at-place}
use Rattle.rlsf_flex.proofs.RangeRows.{idle_range, idle_row, removed-row, row_of}

-- the newest of ranges that have pools has one
first_pool : {fllen sllen : ℕ} {memory space : Range} (s : State) (rest : List Range) → LiesIn space memory.start memory.len → end_of memory < 2 ^ 64
    → IsOver fllen sllen memory space s rest
    → IfSome (first rest) (λ r. HasRoomForChunk r × ((len : ℕ) × IsPool s r len))
first_pool s [] lies short over = tt
first_pool s (r ∷ rest) lies short over =
    let long = over.outstanding.long r (inl refl) in
    ((long, omega (arith, over.outstanding.in_space r (inl refl), lies, short)), over.pooled r (inl refl))

-- and is the kept pool then
kept_first : {fllen sllen : ℕ} {memory space : Range} (t : Terms) (s : State) (rest : List Range) (later : Option Pool) → t.dealloc ≡ true
    → IsOver fllen sllen memory space s rest
    → MatchOption (first rest) (later ≡ None) (λ r. (len : ℕ) → IsPool s r len → later ≡ Some (record { range = r; len = len }))
    → IsNewest t (kept_of later) rest s.chunks
kept_first t s [] later takes over told = subst (λ k. IsNewest t (kept_of k) [] s.chunks) (sym told) (λ keep. refl)
kept_first t s (r ∷ rest) later takes over told =
    let (len, pool) = over.pooled r (inl refl) in
    let (c, i, from, ends) = IsPool-last s r len pool in
    subst (λ k. IsNewest t (kept_of k) (r ∷ rest) s.chunks) (sym (told len pool))
    (record { rest = rest; split = refl; keeping = keeps-dealloc t takes; within = pool.within; nearly = pool.nearly; last = (c, i, ends); unused = pool.unused })

module _ {S : Type 0} {fllen sllen : ℕ} {terms : S → Terms} {owes : S → List Range → Type 0} {a : Allocator} {kept : Option Pool} {x : S} {ranges : List Range}
    {pool : Pool}
    (v : FlexStandsFor fllen sllen terms owes (flex_contents a kept x ranges)) (is : kept ≡ Some pool) where
  abbrev known : IsKeptPool (terms x) (kept_pool pool) ranges a.state.chunks
  known = (IsKeptPool-known v is).1

  -- the ranges behind the newest
  abbrev pub others : List Range
  others = known.rest

  pub newest_first : ranges ≡ pool.range ∷ others
  newest_first = known.split

  pub is_newest : IsIn pool.range ranges
  is_newest = subst (IsIn pool.range) (sym newest_first) (inl refl)

  is_other : (p : Range) → IsIn p others → IsIn p ranges
  is_other p i = subst (IsIn p) (sym newest_first) (inr i)

  -- the kept pool is the range's
  pub newest_pool : IsPool a.state pool.range pool.len
  newest_pool =
      let (len, pooled) = v.well_formed.pooled pool.range is_newest in
      subst (IsPool a.state pool.range) (IsPool-kept (terms x) (kept_pool pool) a.state ranges len (λ c i. (v.well_formed.machine.chunks c i).has_room) known pooled) pooled

  -- it is idle where its row is
  pub newest_idle : IsIdle a.state (walked (row_of pool.range pool.len)) → IsIdle a.state pool.range
  newest_idle idle = idle_range v.well_formed.machine pool.range pool.len newest_pool (λ c b i low high from to.
      let (p, j, begins, ends) = v.well_formed.housed c i in
      let same : p ≡ pool.range =
      coverage-unique itself p pool.range ranges b (v.well_formed.pools.disjoint b) j is_newest (covers-inside p b (omega arith) (omega arith))
      (covers-inside pool.range b low high) in
      let start : p.start ≡ pool.range.start = ap (λ q. q.start) {x = p} same in
      omega arith) idle

  -- and holds a used block where the row does
  pub newest_held : (IsIdle a.state (walked (row_of pool.range pool.len)) → ⊥) → IsNewestHeld a.state ranges
  newest_held some = subst (IsNewestHeld a.state) (sym newest_first) (λ idle. some (idle_row v.well_formed.machine pool.range pool.len newest_pool idle))

  -- its footer can be read
  pub newest_ends : (16 ≤ end_of pool.range) × (end_of pool.range < 2 ^ 64)
  newest_ends = ends_here a.memory v.well_formed pool.range is_newest

  pub newest_words : IsWord a.memory (footer_of pool.range) × IsWord a.memory (footer_of pool.range + 8)
  newest_words = let footer = spare_here a.memory v.well_formed pool.range is_newest in (footer.0.0, footer.1.0)

  pub newest_footers : (terms x).dealloc ≡ true → Footers a.memory (pool.range ∷ others)
  newest_footers takes = subst (Footers a.memory) newest_first (v.footers takes)

  -- no other range begins at the address 0
  pub others_start : (p : Range) → IsIn p others → 0 < p.start
  others_start p i =
      let nonzero = v.nonzero in
      omega (arith, nonzero, (outstanding_in a.memory (terms x).space ranges v.well_formed.space v.well_formed.pools).in_space p (is_other p i))

  module _ (idle : IsIdle a.state (walked (row_of pool.range pool.len))) (b : Allocator) (took : b.state ≡ removed (walked (row_of pool.range pool.len)) a.state) where
    pub newest_removed : b.state ≡ removed pool.range a.state
    newest_removed = took ∙ removed-row v.well_formed.machine pool.range pool.len newest_pool

    over : IsOver fllen sllen (range_of a.memory) (terms x).space b.state others
    over = subst (λ (s : State). IsOver fllen sllen (range_of a.memory) (terms x).space s others) (sym newest_removed)
        (IsOver-all_removed (pool.range ∷ []) others a.state (subst (IsOver fllen sllen (range_of a.memory) (terms x).space a.state) newest_first (IsOver-flex v.well_formed))
        (λ p. elim [ inl same ↦ subst (IsIdle a.state) (sym same) (newest_idle idle) | inr none ↦ absurd none ]))

    -- the one that is the newest then has a pool
    pub next_pool : IfSome (first others) (λ r. HasRoomForChunk r × ((len : ℕ) × IsPool b.state r len))
    next_pool = first_pool b.state others v.well_formed.space v.well_formed.machine.addressable over

    module _ (stands : IsStanding fllen sllen b.memory b.state) (spare : KeepsSpare a.memory a.state b.memory b.state) (place : SamePlace a.memory b.memory)
        (none : a.memory.out ≡ []) (takes : (terms x).dealloc ≡ true)
        (later : Option Pool) (told : MatchOption (first others) (later ≡ None)
        (λ r. (len : ℕ) → IsPool b.state r len → later ≡ Some (record { range = r; len = len }))) where
      abbrev after : FlexState
      after = record { machine = b.state; pools = others; kept = kept_of later }

      left : IsFlexWellFormed fllen sllen (range_of b.memory) (terms x) after
      left = subst (λ m. IsFlexWellFormed fllen sllen m (terms x) after) (range_of-same a.memory b.memory place.0 place.1) (record {
        machine = over.machine;
        space = v.well_formed.space;
        pools = over.outstanding;
        housed = over.housed;
        newest = kept_first (terms x) b.state others later takes over told;
        pooled = over.pooled;
      })

      -- the newest range is returned
      pub gave_newest : (leads : S → Note → S → Type 0) (y : S) (now : List Range) → leads x (dealloc pool.range) y → terms y ≡ terms x → owes y others
          → now ≡ older ranges
          → GaveNewest fllen sllen terms owes leads (flex_contents a kept x ranges) (flex_contents b later y now)
      gave_newest leads y now led same owed is_older =
          let path : now ≡ others = is_older ∙ ap older newest_first in
          let all : GaveNewest fllen sllen terms owes leads (flex_contents a kept x ranges) (flex_contents b later y others) = record {
            newest = pool.range;
            rest = others;
            split = newest_first;
            idle = newest_idle idle;
            led = led;
            machine = newest_removed;
            pools = refl;
            place = place;
            spare = spare;
            stands = FlexStandsFor-answered x y b after stands.nonzero stands.payloads left same owed
                (λ back. Footers-kept a.memory b.memory a.state b.state others spare (λ c from one two. out_at-place a.memory b.memory place none c) place.0 place.1
                (λ p i. (spare_here a.memory v.well_formed p (is_other p i), spare_here b.memory left p i)) (newest_footers back).2);
          } in
          subst (λ ps. GaveNewest fllen sllen terms owes leads (flex_contents a kept x ranges) (flex_contents b later y ps)) (sym path) all
