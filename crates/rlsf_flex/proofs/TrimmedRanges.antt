-- Some of the newest ranges were returned, one after another.
use Rattle.std.proofs.Common.{◌≡◌, ℕ, ◌+◌, ◌^◌, ◌<◌, ◌≤◌, true, false, List, [], ◌∷◌, ◌++◌, length, length-append, map, append_assoc, Option, Some, None}
use Rattle.std.proofs.Common.{arith, refl, sym, ◌∙◌, ap, subst, inl, inr}
use Rattle.std.proofs.lemmas.List.{map-append}
use Rattle.std.proofs.lemmas.Option.{same_Some}
use Rattle.rlsf_base.specs.declared.memory.range.Range.{Range}
use Rattle.rlsf_blocks.specs.Spare.{IsSpare}
use Rattle.rlsf_flex.specs.Footers.{first}
use Rattle.rlsf_flex.specs.Outside.{IsOutside, KeepsOutside, NothingGoesBack, ever_owed}
use Rattle.rlsf_flex.specs.StandsFor.{FlexContents, FlexStandsFor, FlexSteps}
use Rattle.rlsf_flex.specs.Steps.Trim.{GaveBack, GaveNewest, LeavesPayloads}
use Rattle.rlsf_model.specs.Answers.{MayAnswer}
use Rattle.rlsf_model.specs.FlexState.{KeptPool}
use Rattle.rlsf_model.specs.FlexWellFormed.{ArePools, IsNewest}
use Rattle.rlsf_model.specs.Lists.{IsIn}
use Rattle.rlsf_model.specs.Note.{Note, LeadsBy, dealloc}
use Rattle.rlsf_model.specs.Remove.{IsIdle, removed}
use Rattle.rlsf_model.specs.State.{State, Used}
use Rattle.rlsf_model.specs.Terms.{Terms}
use Rattle.rlsf_model.specs.Trim.{all_removed, EndsLast, GivesBack, IsKeptToLast, IsNewestHeld, Trims}
use Rattle.rlsf_model.specs.WellFormed.{coverage, itself, IsWellFormed}
use Rattle.rlsf_model.proofs.Coverage.{IsIn-append, IsIn-map_from, coverage-append}
use Rattle.rlsf_model.proofs.Notes.{LeadsBy-append, terms-led}
use Rattle.rlsf_model.proofs.RangePools.{IsPool-kept}
use Rattle.rlsf_model.proofs.Removals.{IsIn-outside}
use Rattle.rlsf_model.proofs.Trims.{EndsLast-pool, used-all_removed}
use Rattle.rlsf_flex.proofs.DisjointRanges.{length-disjoint}
use Rattle.rlsf_flex.proofs.Frames.{outstanding_in}
use Rattle.rlsf_flex.proofs.Kept.{keeps-dealloc}
use Rattle.rlsf_flex.proofs.Outside.{KeepsOutside-refl, ever_owed-coverage}
use Rattle.rlsf_flex.proofs.OutsideNow.{outside_spare}
use Rattle.rlsf_flex.proofs.Places.{SamePlace-refl, SamePlace-then}
use Rattle.rlsf_flex.proofs.SpareBytes.{KeepsSpareButFooter-all}
use Rattle.rlsf_tlsf.specs.Allocator.{Allocator}

-- ---- the payloads

pub LeavesPayloads-refl : (a : Allocator) → LeavesPayloads a a
LeavesPayloads-refl a = record { live = refl; aligns = refl; bytes = refl; grow = omega arith; copied = refl }

pub LeavesPayloads-then : {a b c : Allocator} → LeavesPayloads a b → LeavesPayloads b c → LeavesPayloads a c
LeavesPayloads-then first then = grind arith

-- ---- the reference model's state

-- one range more is taken out
all_removed-more : (gone : List Range) (r : Range) (s : State) → all_removed (gone ++ r ∷ []) s ≡ removed r (all_removed gone s)
all_removed-more [] r s = refl
all_removed-more (q ∷ gone) r s = all_removed-more gone r (removed q s)

-- the chunks that are left were there
all_removed-chunks : (gone : List Range) (s : State) (c : Range) → IsIn c (all_removed gone s).chunks → IsIn c s.chunks
all_removed-chunks [] s c i = i
all_removed-chunks (r ∷ gone) s c i = (IsIn-outside r c s.chunks (all_removed-chunks gone (removed r s) c i)).0

-- so what was spare is
all_removed-spare : (gone : List Range) (s t : State) (a : ℕ) → t ≡ all_removed gone s → IsSpare s a → IsSpare t a
all_removed-spare gone s t a is spare c i = spare c (all_removed-chunks gone s c (subst (λ (u : State). IsIn c u.chunks) is i))

-- the used blocks determine whether a range is idle
IsIdle-used : (s t : State) (r : Range) → t.used ≡ s.used → IsIdle s r → IsIdle t r
IsIdle-used s t r same = subst (λ (us : List Used). (a : ℕ) → r.start ≤ a → a < r.start + r.len → coverage (λ u. u.block) us a ≡ 0) (sym same)

IsNewestHeld-used : (s t : State) (ranges : List Range) → t.used ≡ s.used → IsNewestHeld s ranges → IsNewestHeld t ranges
IsNewestHeld-used s t [] same held = tt
IsNewestHeld-used s t (r ∷ ranges) same held = λ idle. held (IsIdle-used t s r (sym same) idle)

used-gone : (gone : List Range) (s t : State) → t ≡ all_removed gone s → t.used ≡ s.used
used-gone gone s t is = ap (λ (u : State). u.used) is ∙ used-all_removed gone s

-- the kept pool reaches as far as its range's last chunk
kept_to_last : {fllen sllen : ℕ} {memory : Range} (t : Terms) (s : State) → IsWellFormed fllen sllen memory s → t.dealloc ≡ true
    → (kept : Option KeptPool) (pools : List Range) → IsNewest t kept pools s.chunks → ArePools s pools → IsKeptToLast s.chunks pools kept
kept_to_last t s w takes None [] newest pooled = refl
kept_to_last t s w takes None (r ∷ pools) newest pooled = absurd (omega (arith, ap length (newest (keeps-dealloc t takes))))
kept_to_last t s w takes (Some k) [] newest pooled = absurd (omega (arith, ap length newest.split))
kept_to_last t s w takes (Some k) (r ∷ pools) newest pooled =
    let same : k.range ≡ r = sym (same_Some r k.range (ap first newest.split)) in
    let (len, pool) = pooled k.range (inl same) in
    let long : len ≡ k.len = IsPool-kept t k s (r ∷ pools) len (λ c i. (w.chunks c i).has_room) newest pool in
    let is : Range → Option KeptPool = λ q. Some (record { range = q; len = k.len }) in
    (k.len, subst (λ q. EndsLast s.chunks q k.len) same (subst (EndsLast s.chunks k.range) long (EndsLast-pool w k.range len pool)), ap is same)

-- ---- ranges are returned

module _ {S : Type 0} {fllen sllen : ℕ} {terms : S → Terms} {owes : S → List Range → Type 0} (leads : S → Note → S → Type 0) where
  -- none yet
  pub GaveBack-none : (v : FlexContents S) → FlexStandsFor fllen sllen terms owes v → GaveBack fllen sllen terms owes leads v v 0
  GaveBack-none v stands = grind (arith, SamePlace-refl)

  -- one more
  pub GaveBack-next : (v w x : FlexContents S) (n : ℕ) → GaveBack fllen sllen terms owes leads v w n → GaveNewest fllen sllen terms owes leads w x
      → GaveBack fllen sllen terms owes leads v x (n + 1)
  GaveBack-next v w x n h one =
      let used = used-gone h.gone v.state.machine w.state.machine h.machine in
      record {
        gone = h.gone ++ one.newest ∷ [];
        split = h.split ∙ ap (λ ps. h.gone ++ ps) (one.split ∙ ap (λ ps. one.newest ∷ ps) (sym one.pools)) ∙ sym (append_assoc h.gone (one.newest ∷ []) x.state.pools);
        idle = λ r i. elim (IsIn-append r h.gone (one.newest ∷ []) i) [
          | inl before ↦ h.idle r before
          | inr now ↦ elim now [
            | inl same ↦ subst (IsIdle v.state.machine) (sym same) (IsIdle-used w.state.machine v.state.machine one.newest (sym used) one.idle)
            | inr none ↦ absurd none
          ]
        ];
        counted = omega (arith, h.counted, length-append h.gone (one.newest ∷ []));
        led = subst (λ ns. LeadsBy leads v.source ns x.source) (sym (map-append dealloc h.gone (one.newest ∷ [])))
            (LeadsBy-append leads v.source w.source x.source (map dealloc h.gone) (dealloc one.newest ∷ []) h.led (x.source, one.led, refl));
        machine = one.machine ∙ ap (removed one.newest) h.machine ∙ sym (all_removed-more h.gone one.newest v.state.machine);
        place = SamePlace-then v.memory w.memory x.memory h.place one.place;
        spare = λ a low high first last.
            let middle = all_removed-spare h.gone v.state.machine w.state.machine a h.machine first in
            one.spare a (omega (arith, h.place.0, low)) (omega (arith, h.place.0, h.place.1, high)) middle last ∙ h.spare a low high first middle;
        stands = one.stands;
      }

  module _ (v w : FlexContents S) (n : ℕ) (h : GaveBack fllen sllen terms owes leads v w n) where
    -- no more went than there are addresses
    pub GaveBack-few : FlexStandsFor fllen sllen terms owes v → n + length w.state.pools < 2 ^ 64
    GaveBack-few stands =
        let outstanding = outstanding_in v.memory (terms v.source).space v.state.pools stands.well_formed.space stands.well_formed.pools in
        let few =
        length-disjoint v.state.pools v.memory.start (length v.memory.bytes) (λ p i. (omega (arith, outstanding.long p i), outstanding.in_space p i)) outstanding.disjoint in
        let short = stands.well_formed.machine.addressable in
        omega (arith, few, short, h.counted, ap length h.split, length-append h.gone w.state.pools)

    -- ---- as a step of the reference model

    module _ (constant : (x y : S) (m : Note) → leads x m y → terms y ≡ terms x) (stands : FlexStandsFor fllen sllen terms owes v) (takes : (terms v.source).dealloc ≡ true)
        (held : IsNewestHeld w.state.machine w.state.pools) where
      gives_back : GivesBack v.state n (map dealloc h.gone) w.state
      gives_back =
          let newest =
          subst (λ t. IsNewest t w.state.kept w.state.pools w.state.machine.chunks) (terms-led terms leads constant v.source w.source (map dealloc h.gone) h.led)
          h.stands.well_formed.newest in
          record {
            gone = h.gone;
            left = w.state.pools;
            split = h.split;
            idle = h.idle;
            held = IsNewestHeld-used w.state.machine v.state.machine w.state.pools (sym (used-gone h.gone v.state.machine w.state.machine h.machine)) held;
            counted = h.counted;
            noted = refl;
            machine = h.machine;
            pools = refl;
            kept = kept_to_last (terms v.source) w.state.machine h.stands.well_formed.machine takes w.state.kept w.state.pools newest h.stands.well_formed.pooled;
          }

      outside : KeepsOutside v.memory v.state.pools (map dealloc h.gone) w.memory w.state.pools
      outside = record {
        place = h.place;
        among = among;
        all_owed = λ kept a none. nothing_gone h.gone h.split kept a none;
        bytes =
            λ a low high none. h.spare a low high (outside_spare v.state.pools v.state.machine stands.well_formed.housed a (before a none))
            (outside_spare w.state.pools w.state.machine h.stands.well_formed.housed a (among a none));
      }
        where
          before : (a : ℕ) → IsOutside (ever_owed v.state.pools (map dealloc h.gone)) a → IsOutside v.state.pools a
          before a none = omega (arith, ever_owed-coverage v.state.pools (map dealloc h.gone) a, none)

          among : (a : ℕ) → IsOutside (ever_owed v.state.pools (map dealloc h.gone)) a → IsOutside w.state.pools a
          among a none = omega (arith, before a none, ap (λ ps. coverage itself ps a) h.split, coverage-append itself h.gone w.state.pools a)

          nothing_gone : (gone : List Range) → v.state.pools ≡ gone ++ w.state.pools → NothingGoesBack (map dealloc gone) → (a : ℕ) → IsOutside w.state.pools a
              → IsOutside (ever_owed v.state.pools (map dealloc gone)) a
          nothing_gone [] split kept a none = omega (arith, ever_owed-coverage v.state.pools [] a, ap (λ ps. coverage itself ps a) split, none)
          nothing_gone (r ∷ gone) split kept a none = absurd (kept r (inl refl))

      pub trimmed : FlexSteps fllen sllen terms owes leads v w (Trims (terms v.source) v.state n)
      unfolding FlexSteps
      trimmed = (
        map dealloc h.gone,
        inl (takes, gives_back),
        h.led,
        λ m i. let (r, j, is) = IsIn-map_from dealloc m h.gone i in subst (MayAnswer (terms v.source) v.state.pools) (sym is) tt,
        outside,
        h.stands,
        KeepsSpareButFooter-all (terms v.source) v.memory w.memory v.state w.state h.spare,
      )

  -- a source that takes nothing back
  pub not_trimmed : (v : FlexContents S) → FlexStandsFor fllen sllen terms owes v → (terms v.source).dealloc ≡ false
      → FlexSteps fllen sllen terms owes leads v v (Trims (terms v.source) v.state 0)
  unfolding FlexSteps
  not_trimmed v stands lacks = ([], inr (lacks, refl, refl, refl), refl, λ n i. absurd i, KeepsOutside-refl v.memory v.state.pools, stands, λ a low high one two none. refl)
