-- The kept range has grown, and the new bytes are inserted, over plain values.
use Rattle.std.proofs.Common.{◌≡◌, ℕ, ◌+◌, ◌^◌, ◌<◌, ◌≤◌, true, List, [], ◌∷◌, length, Some, arith, refl, sym, ◌∙◌, ap, subst, inl, inr}
use Rattle.std.proofs.lemmas.Option.{same_Some}
use Rattle.rlsf_base.specs.declared.memory.range.Range.{Range}
use Rattle.rlsf_base.specs.Range.{end_of, LiesIn}
use Rattle.rlsf_model_sizes.specs.SizeClass.{IsValid}
use Rattle.rlsf_base.specs.Space.{Space, range_of, SamePlace}
use Rattle.rlsf_blocks.specs.Spare.{KeepsSpare}
use Rattle.rlsf_tlsf.specs.Allocator.{Allocator, IsInState}
use Rattle.rlsf_flex.specs.Footers.{first_len, first_start, Footers}
use Rattle.rlsf_flex.specs.Steps.Footing.{IsFooted}
use Rattle.rlsf_flex.specs.Outside.{IsOutside}
use Rattle.rlsf_flex.specs.Steps.Outside.{KeepsOutsideNow}
use Rattle.rlsf_flex.specs.StandsFor.{FlexContents, FlexStandsFor}
use Rattle.rlsf_flex.specs.Steps.Growth.{Took}
use Rattle.rlsf_model.specs.Answers.{MayAnswer}
use Rattle.rlsf_model.specs.FlexState.{FlexState, KeptPool}
use Rattle.rlsf_model.specs.FlexWellFormed.{AreHoused, AreOutstanding, IsFlexWellFormed, IsKeptPool}
use Rattle.rlsf_model.specs.Growth.{growth_came, longer}
use Rattle.rlsf_model.specs.Insert.{Appends, IsNext}
use Rattle.rlsf_model.specs.Lists.{IsIn}
use Rattle.rlsf_model.specs.Note.{grow}
use Rattle.rlsf_model.specs.PoolLength.{HasFreePool, IsPoolSize}
use Rattle.rlsf_model.specs.State.{State}
use Rattle.rlsf_model.specs.Terms.{IsGrown, Terms, with_len}
use Rattle.rlsf_model.specs.WellFormed.{coverage, itself, IsWellFormed}
use Rattle.rlsf_model.proofs.FlexGrowths.{behind_next, grown_keeps, housed_before, is_longer, old_pools}
use Rattle.rlsf_model.proofs.RangesInChunks.{AreOutstanding-more, AreOutstanding-rest, coverage-in, coverage-none}
use Rattle.rlsf_model.proofs.TakenPools.{appended_pool, IsTaken, pool_size_is}
use Rattle.rlsf_model.proofs.Names.{behind}
use Rattle.rlsf_flex.proofs.Frames.{Footers-kept, HasSpareFooter, footer_ends, outstanding_in, range_of-same, spare_footer, spare_here}
use Rattle.rlsf_flex.proofs.Outcomes.{FlexStandsFor-answered}
use Rattle.rlsf_flex.proofs.OutsideNow.{KeepsOutsideNow-footed, KeepsOutsideNow-spare, KeepsOutsideNow-then}
use Rattle.rlsf_flex.proofs.Places.{SamePlace-refl, SamePlace-then, out_at-place}
use Rattle.rlsf_flex.proofs.Rewritten.{Footers-written}
use Rattle.rlsf_flex.proofs.InnerAllocator.{contents_at}

-- a growth came that a source was asked for, in a state of an allocator over it
pub record Grew {S : Type 0} (fllen sllen e : ℕ) (terms : S → Terms) (owes : S → List Range → Type 0) (v : FlexContents S) (y : S) (k : KeptPool)
    (asked len : ℕ) : Type 0 where
  pub before : FlexStandsFor fllen sllen terms owes v
  pub whole : v.memory.out ≡ []
  pub size : IsPoolSize fllen sllen e
  pub was : v.state.kept ≡ Some k
  pub kept : IsKeptPool (terms v.source) k v.state.pools v.state.machine.chunks
  pub is_asked : asked ≡ k.len + e
  pub is_grown : IsGrown (terms v.source) kept.rest k.range asked len
  pub owed : owes y (with_len k.range len ∷ kept.rest)
  pub anywhere : MayAnswer (terms v.source) v.state.pools (grow k.range asked (Some len))

module _ {S : Type 0} {fl_bits sl_bits fllen sllen e : ℕ} (valid : IsValid fl_bits sl_bits fllen sllen) {terms : S → Terms} {owes : S → List Range → Type 0}
    {v : FlexContents S} {y : S} {k : KeptPool} {asked len : ℕ}
    (c : Grew fllen sllen e terms owes v y k asked len) where
  -- it was asked for more than the range has
  more : k.len + 64 ≤ asked
  more = omega (arith, c.is_asked, (pool_size_is fl_bits sl_bits fllen sllen e valid c.size).0)

  -- there is room for the pool that is wanted behind the kept one
  pub Grew-longer : (k.len + e ≤ len) × (k.range.len < len) × (64 ≤ k.range.len)
  Grew-longer =
      (omega (arith, c.is_asked, c.is_grown.long), omega (arith, more, c.is_grown.long, c.kept.nearly), (is_longer c.before.well_formed c.was asked len c.kept c.is_grown more).2)

  -- the longer range is outstanding beside the others
  outstanding : AreOutstanding (terms v.source).space (with_len k.range len ∷ c.kept.rest)
  outstanding = grind (arith, old_pools, more, Grew-longer, AreOutstanding-more, AreOutstanding-rest)

  -- before the new bytes are inserted, footers can be written
  pub Grew-footers : (m : Space) → IsWellFormed fllen sllen (range_of m) v.state.machine → SamePlace v.memory m → (p : Range)
      → IsIn p (with_len k.range len ∷ c.kept.rest) → ((16 ≤ end_of p) × (end_of p < 2 ^ 64)) × HasSpareFooter m v.state.machine p
  Grew-footers m w place p i =
      let lies : LiesIn (terms v.source).space m.start (length m.bytes) =
      (omega (arith, c.before.well_formed.space, place.0), omega (arith, c.before.well_formed.space, place.0, place.1)) in
      let housed = housed_before c.before.well_formed c.was asked len c.kept c.is_grown more in (
        footer_ends m v.state.machine (terms v.source).space (with_len k.range len ∷ c.kept.rest) w lies outstanding housed p i,
        spare_footer m v.state.machine (terms v.source).space (with_len k.range len ∷ c.kept.rest) w lies outstanding housed p i,
      )

  -- what is behind the kept pool may be appended
  pub Grew-next : (m : Space) → SamePlace v.memory m → IsNext (range_of m) v.state.machine (behind k len)
  Grew-next m place =
      subst (λ r. IsNext r v.state.machine (behind k len)) (range_of-same v.memory m place.0 place.1) (behind_next c.before.well_formed c.was asked len c.kept c.is_grown more)

  -- a pool of it is taken
  pub Grew-taken : (t : State) (n : ℕ) → Appends fllen v.state.machine (behind k len) n t → HasFreePool e t × IsTaken v.state.machine (behind k len) n t
  Grew-taken t n step =
      let (room, whole, short) = pool_size_is fl_bits sl_bits fllen sllen e valid c.size in
      let (taken, pool) =
      appended_pool fllen sllen e (range_of v.memory) v.state.machine t (behind k len) n c.before.well_formed.machine (Grew-next v.memory (SamePlace-refl v.memory)) room whole
      short (omega (arith, Grew-longer.0)) step in
      (pool, taken)

  -- then the state is well-formed
  Grew-well_formed : (m : Space) (t : State) (n : ℕ) → Appends fllen v.state.machine (behind k len) n t → SamePlace v.memory m
      → IsFlexWellFormed fllen sllen (range_of m) (terms v.source)
      (record { machine = t; pools = with_len k.range len ∷ c.kept.rest; kept = Some (record { range = with_len k.range len; len = k.len + n }) })
  Grew-well_formed m t n step place =
      let s : FlexState = record { machine = t; pools = with_len k.range len ∷ c.kept.rest; kept = Some (record { range = with_len k.range len; len = k.len + n }) } in
      subst (λ p. IsFlexWellFormed fllen sllen p (terms v.source) s) (range_of-same v.memory m place.0 place.1)
      (grown_keeps c.before.well_formed c.was asked len c.kept c.is_grown more n s step (sym (ap (longer len) c.kept.split)) refl)

  -- The footer comes first, from v to d, and behind it the new bytes, from d to b.
  pub Grew-took : (d b : Allocator) (t : State) (n : ℕ) → terms y ≡ terms v.source → IsInState fllen sllen d v.state.machine
      → IsFooted (terms v.source).dealloc v.memory d.memory (with_len k.range len) (first_start c.kept.rest) (first_len c.kept.rest)
      → Appends fllen v.state.machine (behind k len) n t → IsInState fllen sllen b t → KeepsSpare d.memory v.state.machine b.memory t → SamePlace d.memory b.memory
      → Took fllen sllen terms owes v
      (contents_at b y (record { machine = t; pools = with_len k.range len ∷ c.kept.rest; kept = Some (record { range = with_len k.range len; len = k.len + n }) })) e
      (growth_came len)
  Grew-took d b t n same footed_stands foot step stands spare place =
      let now = with_len k.range len in
      let after = Grew-well_formed b.memory t n step (SamePlace-then v.memory d.memory b.memory foot.place place) in
      record {
        takes = (k, n, c.was, step, sym (ap (longer len) c.kept.split), refl);
        may = λ j was. subst (λ j. MayAnswer (terms v.source) v.state.pools (grow j.range (j.len + e) (Some len))) (same_Some k j (sym c.was ∙ was))
            (subst (λ n. MayAnswer (terms v.source) v.state.pools (grow k.range n (Some len))) c.is_asked c.anywhere);
        outside = outside after.housed;
        spare = λ a low high one two none.
            spare a (omega (arith, foot.place.0, low)) (omega (arith, foot.place.0, foot.place.1, high)) one two
            ∙ foot.bytes a low high (λ takes from to. none (record { takes_back = takes; came = is_new; newest = now; rest = c.kept.rest; split = refl; from = from; to = to }));
        stands =
            FlexStandsFor-answered v.source y b (record { machine = t; pools = now ∷ c.kept.rest; kept = Some (record { range = now; len = k.len + n }) }) stands.stands.nonzero
            stands.stands.payloads after same c.owed
            (λ takes. Footers-kept d.memory b.memory v.state.machine t (now ∷ c.kept.rest) spare
            (λ a from one two. out_at-place d.memory b.memory place (foot.place.3 c.whole) a) place.0 place.1
            (λ p i. ((Grew-footers d.memory footed_stands.stands.well_formed foot.place p i).1, spare_here b.memory after p i)) (footers takes));
        room = λ came. (Grew-taken t n step).0;
      }
    where
      -- the newest range isn't the one that it was
      is_new : with_len k.range len ∷ c.kept.rest ≡ v.state.pools → ⊥
      is_new e = omega (arith, Grew-longer, ap first_len (e ∙ c.kept.split))

      -- the longer range has all that the range had
      only_more : (a : ℕ) → IsOutside (with_len k.range len ∷ c.kept.rest) a → IsOutside v.state.pools a
      only_more a none =
          let (enough, grew, long) = Grew-longer in
          ap (λ ps. coverage itself ps a) c.kept.split ∙ coverage-none (k.range ∷ c.kept.rest) a (λ p. elim [
            | inl same ↦ λ low high.
                let start : p.start ≡ k.range.start = ap (λ q. q.start) {x = p} same in
                let end : end_of p ≡ end_of k.range = ap end_of {x = p} same in
                omega (arith, coverage-in (with_len k.range len) (with_len k.range len ∷ c.kept.rest) a (inl refl) (omega arith) (omega arith), none)
            | inr i ↦ λ low high. omega (arith, coverage-in p (with_len k.range len ∷ c.kept.rest) a (inr i) low high, none)
          ])

      outside : AreHoused (with_len k.range len ∷ c.kept.rest) t.chunks → KeepsOutsideNow v.memory v.state.pools b.memory (with_len k.range len ∷ c.kept.rest)
      outside housed =
          let (enough, grew, long) = Grew-longer in
          let now = with_len k.range len in
          KeepsOutsideNow-then v.memory d.memory b.memory v.state.pools (now ∷ c.kept.rest) (now ∷ c.kept.rest)
          (KeepsOutsideNow-footed (terms v.source).dealloc v.memory d.memory now (first_start c.kept.rest) (first_len c.kept.rest) v.state.pools (now ∷ c.kept.rest) (inl refl)
          (omega arith) only_more foot)
          (KeepsOutsideNow-spare d.memory b.memory v.state.machine t (now ∷ c.kept.rest) (now ∷ c.kept.rest)
          (housed_before c.before.well_formed c.was asked len c.kept c.is_grown more) housed (λ a none. none) place spare)

      footers : (terms v.source).dealloc ≡ true → Footers d.memory (with_len k.range len ∷ c.kept.rest)
      footers takes =
          let (enough, grew, long) = Grew-longer in
          let w = foot.written takes in
          let old = subst (Footers v.memory) c.kept.split (c.before.footers takes) in
          let placed : (p : Range) → IsIn p c.kept.rest → (64 ≤ p.len) × LiesIn p v.memory.start (length v.memory.bytes) =
          λ p i. (
            outstanding.long p (inr i),
            (outstanding_in v.memory (terms v.source).space (with_len k.range len ∷ c.kept.rest) c.before.well_formed.space outstanding).in_space p (inr i),
          ) in (
            w.reads_start,
            w.reads_len,
            Footers-written v.memory d.memory (with_len k.range len) (first_start c.kept.rest) (first_len c.kept.rest) c.kept.rest c.whole w (omega arith) c.is_grown.apart placed
                old.2,
          )
