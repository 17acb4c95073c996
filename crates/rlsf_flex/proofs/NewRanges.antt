-- A new range that came is inserted, over plain values.
use Rattle.std.proofs.Common.{◌≡◌, ℕ, ◌^◌, ◌<◌, ◌≤◌, true, List, [], ◌∷◌, length, Option, Some, arith, refl, sym, ◌∙◌, ap, subst, inl, inr, ◌||◌}
use Rattle.std.specs.Bool.{then_some}
use Rattle.std.proofs.lemmas.Option.{same_Some}
use Rattle.rlsf_base.specs.declared.memory.range.Range.{Range}
use Rattle.rlsf_base.specs.Range.{end_of, LiesIn}
use Rattle.rlsf_model_sizes.specs.SizeClass.{IsValid}
use Rattle.rlsf_base.specs.Space.{Space, range_of, SamePlace}
use Rattle.rlsf_blocks.specs.Spare.{KeepsSpare}
use Rattle.rlsf_tlsf.specs.Allocator.{Allocator, IsInState}
use Rattle.rlsf_flex.specs.declared.pool.Pool.{Pool}
use Rattle.rlsf_flex.specs.Footers.{Footers}
use Rattle.rlsf_flex.specs.Steps.Footing.{IsFooted}
use Rattle.rlsf_flex.specs.Steps.Outside.{KeepsOutsideNow}
use Rattle.rlsf_flex.specs.StandsFor.{FlexContents, FlexStandsFor, kept_of}
use Rattle.rlsf_flex.specs.Steps.Growth.{kept_len, kept_start, Took}
use Rattle.rlsf_model.specs.FlexState.{KeptPool}
use Rattle.rlsf_model.specs.FlexWellFormed.{IsFlexWellFormed, IsNewest}
use Rattle.rlsf_model.specs.Growth.{range_came, range_length}
use Rattle.rlsf_model.specs.Insert.{Inserts}
use Rattle.rlsf_model.specs.Lists.{IsIn}
use Rattle.rlsf_model.specs.PoolLength.{HasFreePool, IsPoolSize}
use Rattle.rlsf_model.specs.State.{State}
use Rattle.rlsf_model.specs.Terms.{IsGiven, Terms}
use Rattle.rlsf_model.proofs.FlexGrowths.{given_keeps}
use Rattle.rlsf_model.proofs.RangeLengths.{HasAlignedPart-given}
use Rattle.rlsf_model.proofs.TakenPools.{inserted_pool, IsTaken, pool_size_is}
use Rattle.rlsf_flex.proofs.Frames.{Footers-kept, HasSpareFooter, ends_here, outstanding_in, range_of-same, spare_here}
use Rattle.rlsf_flex.proofs.Kept.{keeps-dealloc, words-first}
use Rattle.rlsf_flex.proofs.Outcomes.{FlexStandsFor-answered}
use Rattle.rlsf_flex.proofs.OutsideNow.{KeepsOutsideNow-footed, KeepsOutsideNow-spare, KeepsOutsideNow-then}
use Rattle.rlsf_flex.proofs.Places.{SamePlace-then, out_at-place}
use Rattle.rlsf_flex.proofs.Rewritten.{Footers-written}
use Rattle.rlsf_flex.proofs.InnerAllocator.{contents_at}

-- a range came that a source was asked for, in a state of an allocator over it
pub record Came {S : Type 0} (fllen sllen e : ℕ) (terms : S → Terms) (owes : S → List Range → Type 0) (v : FlexContents S) (y : S) (len : ℕ) (r : Range) : Type 0 where
  pub before : FlexStandsFor fllen sllen terms owes v
  pub whole : v.memory.out ≡ []
  pub size : IsPoolSize fllen sllen e
  pub told : range_length (terms v.source) e ≡ Some len
  pub is_given : IsGiven (terms v.source) v.state.pools len r
  pub owed : owes y (r ∷ v.state.pools)

module _ {S : Type 0} {fl_bits sl_bits fllen sllen e : ℕ} (valid : IsValid fl_bits sl_bits fllen sllen) {terms : S → Terms} {owes : S → List Range → Type 0}
    {v : FlexContents S} {y : S} {len : ℕ} {r : Range}
    (c : Came fllen sllen e terms owes v y len r) where
  -- a pool of it is taken
  pub Came-taken : (t : State) (taken : Option ℕ) → Inserts fllen v.state.machine r taken t → (n : ℕ) × (taken ≡ Some n) × IsTaken v.state.machine r n t × HasFreePool e t
  Came-taken t taken step =
      let (room, whole, short) = pool_size_is fl_bits sl_bits fllen sllen e valid c.size in
      inserted_pool fllen sllen e v.state.machine t r taken valid.some_rows room whole short (HasAlignedPart-given (terms v.source) v.state.pools e len r c.told c.is_given) step

  -- then the state is well-formed
  Came-well_formed : (m : Space) (t : State) (n : ℕ) (later : Option KeptPool) → Inserts fllen v.state.machine r (Some n) t → SamePlace v.memory m
      → later ≡ then_some ((terms v.source).dealloc || (terms v.source).grow) (record { range = r; len = n })
      → IsFlexWellFormed fllen sllen (range_of m) (terms v.source) (record { machine = t; pools = r ∷ v.state.pools; kept = later })
  Came-well_formed m t n later step place is =
      subst (λ p. IsFlexWellFormed fllen sllen p (terms v.source) (record { machine = t; pools = r ∷ v.state.pools; kept = later })) (range_of-same v.memory m place.0 place.1)
      (given_keeps c.before.well_formed len n r (record { machine = t; pools = r ∷ v.state.pools; kept = later }) c.is_given step refl is)

  -- and the footer can be written
  pub Came-footer : (m : Space) (t : State) (taken : Option ℕ) → Inserts fllen v.state.machine r taken t → SamePlace v.memory m
      → ((16 ≤ end_of r) × (end_of r < 2 ^ 64)) × HasSpareFooter m t r
  Came-footer m t taken step place =
      let (n, is, is_taken, pool) = Came-taken t taken step in
      let after = Came-well_formed m t n _ (subst (λ o. Inserts fllen v.state.machine r o t) is step) place refl in
      (ends_here m after r (inl refl), spare_here m after r (inl refl))

  -- Behind the insertion from v to b comes the footer, from b to d.
  pub Came-took : (b d : Allocator) (t : State) (taken : Option ℕ) (kept : Option Pool) (later : Option KeptPool) → terms y ≡ terms v.source → v.state.kept ≡ kept_of kept
      → Inserts fllen v.state.machine r taken t → IsInState fllen sllen b t → KeepsSpare v.memory v.state.machine b.memory t → SamePlace v.memory b.memory
      → IsInState fllen sllen d t → IsFooted (terms v.source).dealloc b.memory d.memory r (kept_start kept) (kept_len kept)
      → ((n : ℕ) → taken ≡ Some n → later ≡ then_some ((terms v.source).dealloc || (terms v.source).grow) (record { range = r; len = n }))
      → Took fllen sllen terms owes v (contents_at d y (record { machine = t; pools = r ∷ v.state.pools; kept = later })) e (range_came r)
  Came-took b d t taken kept later same was step stands spare place footed_stands foot told =
      let (n, is, is_taken, pool) = Came-taken t taken step in
      let inserted = subst (λ o. Inserts fllen v.state.machine r o t) is step in
      let middle = Came-well_formed b.memory t n later inserted place (told n is) in
      let after = Came-well_formed d.memory t n later inserted (SamePlace-then v.memory b.memory d.memory place foot.place) (told n is) in
      record {
        takes = (n, inserted, refl, told n is);
        may = λ n asked. subst (λ o. IsGiven (terms v.source) v.state.pools o r) (same_Some len n (sym c.told ∙ asked)) c.is_given;
        outside = outside middle;
        spare = λ a low high one two none.
            foot.bytes a (omega (arith, place.0, low)) (omega (arith, place.0, place.1, high))
            (λ takes from to. none (record { takes_back = takes; came = λ e. omega (arith, ap length e); newest = r; rest = v.state.pools; split = refl; from = from; to = to }))
            ∙ spare a low high one two;
        stands =
            FlexStandsFor-answered v.source y d (record { machine = t; pools = r ∷ v.state.pools; kept = later }) footed_stands.stands.nonzero footed_stands.stands.payloads
            after same c.owed (footers middle);
        room = λ more. pool;
      }
    where
      outside : IsFlexWellFormed fllen sllen (range_of b.memory) (terms v.source) (record { machine = t; pools = r ∷ v.state.pools; kept = later })
          → KeepsOutsideNow v.memory v.state.pools d.memory (r ∷ v.state.pools)
      outside middle = KeepsOutsideNow-then v.memory b.memory d.memory v.state.pools (r ∷ v.state.pools) (r ∷ v.state.pools)
          (KeepsOutsideNow-spare v.memory b.memory v.state.machine t v.state.pools (r ∷ v.state.pools) c.before.well_formed.housed middle.housed (λ a none. omega (arith, none))
          place spare)
          (KeepsOutsideNow-footed (terms v.source).dealloc b.memory d.memory r (kept_start kept) (kept_len kept) (r ∷ v.state.pools) (r ∷ v.state.pools) (inl refl)
          (middle.pools.long r (inl refl)) (λ a none. none) foot)

      footers : IsFlexWellFormed fllen sllen (range_of b.memory) (terms v.source) (record { machine = t; pools = r ∷ v.state.pools; kept = later })
          → (terms v.source).dealloc ≡ true → Footers d.memory (r ∷ v.state.pools)
      footers middle takes =
          let w = foot.written takes in
          let before = subst (λ k. IsNewest (terms v.source) k v.state.pools v.state.machine.chunks) was c.before.well_formed.newest in
          let words = words-first (terms v.source) kept v.state.pools v.state.machine.chunks before (keeps-dealloc (terms v.source) takes) in
          let old =
          Footers-kept v.memory b.memory v.state.machine t v.state.pools spare (λ a from one two. out_at-place v.memory b.memory place c.whole a) place.0 place.1
          (λ p i. (spare_here v.memory c.before.well_formed p i, spare_here b.memory middle p (inr i))) (c.before.footers takes) in
          let placed : (p : Range) → IsIn p v.state.pools → (64 ≤ p.len) × LiesIn p b.memory.start (length b.memory.bytes) =
          λ p i. (middle.pools.long p (inr i), (outstanding_in b.memory (terms v.source).space (r ∷ v.state.pools) middle.space middle.pools).in_space p (inr i)) in (
            w.reads_start ∙ words.0,
            w.reads_len ∙ words.1,
            Footers-written b.memory d.memory r (kept_start kept) (kept_len kept) v.state.pools (place.3 c.whole) w (middle.pools.long r (inl refl)) c.is_given.apart placed old,
          )
