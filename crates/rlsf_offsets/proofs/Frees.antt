-- A range of units is deallocated, and a space in which nothing is live.
use Rattle.std.proofs.Common.{◌≡◌, ◌≢◌, ℕ, ◌+◌, ◌-◌, ◌*◌, ◌/◌, ◌%◌, ◌^◌, ◌<◌, List, [], ◌∷◌, cond, length, Option, None, arith, refl, ◌∙◌, ap, subst}
use Rattle.std.proofs.lemmas.Bool.{le-leb}
use Rattle.rlsf_base.specs.declared.memory.range.Range.{Range}
use Rattle.rlsf_base.specs.Range.{end_of}
use Rattle.rlsf_model.specs.Callers.{align_at}
use Rattle.rlsf_model.specs.Lists.{IsIn}
use Rattle.rlsf_model.specs.Release.{Deallocates}
use Rattle.rlsf_model.specs.Sized.{live_count}
use Rattle.rlsf_model.specs.State.{State, Used}
use Rattle.rlsf_model.specs.Insert.{Inserts, aligned_part, cut, with_chunks}
use Rattle.rlsf_model_sizes.specs.Sizes.{max_pool_size}
use Rattle.rlsf_model.proofs.CallerWords.{align_at-none}
use Rattle.rlsf_model.proofs.Callers.{payload_at-none}
use Rattle.rlsf_model.proofs.Live.{deallocation_leaves_others}
use Rattle.rlsf_tlsf.specs.Allocator.{Allocator}
use Rattle.rlsf_tlsf.specs.Results.{IsDeallocated}
use Rattle.rlsf_offsets.specs.Units.{AreWhole, IsEmpty, SizesSpace, KeepsSpaceSized, whole_shadow, IsReleased, Offsets, offsets, place}
use Rattle.rlsf_tlsf.specs.Bounds.{KeepsAllBounds}
use Rattle.rlsf_tlsf.specs.Sizing.{SizesPool}
use Rattle.rlsf_offsets.proofs.Ranges.{align_of-none, align_of-same, units_at-none, units_at-same}

pub AreWhole-deallocated : (s t : State) (addr : ℕ) → Deallocates s addr t → AreWhole s → AreWhole t
AreWhole-deallocated s t addr step whole u i = whole u (((deallocation_leaves_others s t addr step).1 u).0 i).0

pub IsReleased-deallocated : {units : ℕ} {a b : Allocator} (o addr : ℕ) → addr ≡ place o → length b.memory.bytes ≡ length a.memory.bytes
    → IsDeallocated a.state b.state addr → IsReleased (offsets units a) (offsets units b) o
IsReleased-deallocated {units} {a} {b} o addr at long gone =
    let here = subst (IsDeallocated a.state b.state) at gone in
    record {
      gone = (units_at-none (offsets units b) o here.gone, align_of-none (offsets units b) o here.gone);
      others = λ p other.
          let apart : place p ≢ place o = λ e. other (omega (arith, e)) in (
            units_at-same (offsets units a) (offsets units b) p (here.aligns (place p) apart) (here.bytes (place p) apart),
            align_of-same (offsets units a) (offsets units b) p (here.aligns (place p) apart),
          );
      space = refl;
      limit = ap (λ k. k / 32 - 1) long;
    }

-- ---- the beginning

nothing : (used : List Used) (u : Used) → length used ≡ 0 → IsIn u used → ⊥
nothing [] u e i = i
nothing (x ∷ xs) u e i = omega (arith, e)

pub AreWhole-none : (s : State) → live_count s ≡ 0 → AreWhole s
unfolding live_count
AreWhole-none s none u i = absurd (nothing s.used u none i)

pub nothing_at : (s : State) → live_count s ≡ 0 → (a : ℕ) → align_at s a ≡ None
unfolding live_count
nothing_at s none a = align_at-none s a (payload_at-none s a (λ u held. nothing s.used u none held.0))

-- without a chunk, the shadow of some units becomes one
module _ (units : ℕ) (r : Range) (s t : State) (reply : Option ℕ) (e : r ≡ whole_shadow units) (none : s.chunks ≡ []) (step : Inserts 59 s r reply t) where
  made : t.chunks ≡ (with_chunks (cut (max_pool_size 59) (whole_shadow units)) s).chunks
  made =
      let w = whole_shadow units in
      let len : (end_of w - w.start) / 32 * 32 ≡ w.len = omega arith in
      let part : aligned_part w ≡ w = λ i. record { start = 2 ^ 62 - 32; len = len i } in
      ap (λ (x : State). x.chunks) step.after ∙ ap (λ x. (with_chunks (cut (max_pool_size 59) (aligned_part x)) s).chunks) e
      ∙ ap (λ x. (with_chunks (cut (max_pool_size 59) x) s).chunks) part

  pub shadow_chunk : 0 < units → t.chunks ≡ whole_shadow units ∷ []
  shadow_chunk some =
      let w = whole_shadow units in
      let one : cut (max_pool_size 59) w ≡ w ∷ [] = ap (λ b. cond b (w ∷ []) []) (le-leb 64 w.len (omega arith)) in
      made ∙ ap (λ cs. (with_chunks cs s).chunks) one ∙ ap (λ cs. w ∷ cs) none

  -- no unit makes none
  pub no_chunk : units ≡ 0 → t.chunks ≡ []
  no_chunk zero = made ∙ ap (λ n. (with_chunks (cut (max_pool_size 59) (whole_shadow n)) s).chunks) zero ∙ none

pub sized-freed : (v x : Offsets) → KeepsAllBounds 8 v.shadow.state x.shadow.state → KeepsSpaceSized v x
unfolding KeepsSpaceSized
sized-freed v x kept = λ count most widest sized. kept count (32 * (most - 1)) (32 * widest) sized

pub IsEmpty-fresh : (v : Offsets) → ((a : ℕ) → align_at v.shadow.state a ≡ None) → IsEmpty v
unfolding IsEmpty
IsEmpty-fresh v none = λ o. units_at-none v o (none (place o))

pub SizesSpace-fresh : (v : Offsets) (r : Range) (before : State) → r.start % 32 ≡ 0 → r.len ≡ 32 * v.units + 32 → live_count before ≡ 0
    → SizesPool 59 8 r before v.shadow.state → SizesSpace v
unfolding SizesSpace
SizesSpace-fresh v r before whole same none pool = λ count units align len told long.
    pool count (32 * (units - 1)) (32 * align) len told whole (omega (arith, long, same)) none
