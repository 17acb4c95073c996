-- Runs of free units that are never refused.
use Rattle.std.proofs.Common.{◌≡◌, ◌⊎◌, ℕ, ◌+◌, ◌-◌, ◌*◌, ◌/◌, ◌^◌, ◌<◌, ◌≤◌, List, length, Some, arith, inl, inr, sym, ◌∙◌, ap}
use Rattle.std.proofs.lemmas.Bool.{cases_lt}
use Rattle.std.proofs.lemmas.Option.{none-some}
use Rattle.rlsf_base.specs.declared.memory.range.Range.{Range}
use Rattle.rlsf_base.specs.Range.{end_of}
use Rattle.rlsf_base.specs.Space.{range_of}
use Rattle.rlsf_base.proofs.Numbers.PowersOfTwo.{IsPowerOfTwo-positive}
use Rattle.rlsf_model.specs.Lists.{IsIn}
use Rattle.rlsf_model.specs.State.{Used}
use Rattle.rlsf_model.specs.WellFormed.{coverage, itself, last_bytes, IsWellFormed}
use Rattle.rlsf_model.proofs.CallerWords.{align_at-held, bytes_at-held}
use Rattle.rlsf_model.proofs.Coverage.{covers-inside, covers-before, covers-behind, coverage-none, coverage-some, coverage-unique}
use Rattle.rlsf_model.proofs.Payloads.{payload_of-le}
use Rattle.rlsf_model.proofs.Tiling.{block_of, tiling_of, free-le}
use Rattle.rlsf_tlsf.specs.Allocator.{Allocator}
use Rattle.rlsf_offsets.specs.Units.{IsEmpty, IsFreeRun, HasNoRoomFor, whole_shadow, IsShadow, Offsets, offsets, place, units_at}
use Rattle.rlsf_offsets.proofs.Ranges.{align_of-live, seated, units_at-live}
use Rattle.rlsf_offsets.proofs.Allocations.{IsAllShort-full}

module _ {units : ℕ} {a : Allocator} (is : IsShadow units a) (w : IsWellFormed 59 8 (range_of a.memory) a.state) (o m : ℕ) (some : 0 < m)
    (run : IsFreeRun (offsets units a) o m) where
  abbrev x : ℕ
  x = 2 ^ 62 - 32 + 32 * o

  abbrev y : ℕ
  y = 2 ^ 62 - 32 + 32 * (o + m)

  -- no used block has a byte of the run
  clear_used : (u : Used) → IsIn u a.state.used → (end_of u.block ≤ x) ⊎ (y ≤ u.block.start)
  clear_used u i =
      let seat = seated w is.whole u i in
      let wide = (is.whole u i).1 in
      let used = w.used u i in
      let positive = IsPowerOfTwo-positive u.align used.power in
      let p = (u.payload - 2 ^ 62) / 32 in
      let at : u.payload ≡ place p = omega arith in
      let near : u.payload ≤ u.block.start + u.align = omega (arith, used.placed, payload_of-le u.block.start u.align used.whole.start used.power) in
      let live = align_at-held w (place p) u (i, at) in
      let count : units_at (offsets units a) p ≡ Some (length u.bytes / 32 + 1)
      = units_at-live (offsets units a) p u.align live ∙ ap (λ (l : List ℕ). Some (length l / 32 + 1)) (bytes_at-held w (place p) u (i, at)) in
      elim (run.clear p (length u.bytes / 32 + 1) (u.align / 32) count (align_of-live (offsets units a) p u.align live)) [
        | inl before ↦ inl (omega arith)
        | inr behind ↦ inr (omega arith)
      ]

  -- so each of its bytes is free
  free_at : (z : ℕ) → x ≤ z → z < y → 1 ≤ coverage itself a.state.free z
  free_at z from to =
      let any : 0 < units = omega arith in
      let c = whole_shadow units in
      let used : coverage block_of a.state.used z ≡ 0 = coverage-none block_of a.state.used z (λ u i. elim (clear_used u i) [
        | inl before ↦ covers-behind u.block z (omega arith)
        | inr behind ↦ covers-before u.block z (omega arith)
      ]) in
      let last : coverage last_bytes a.state.chunks z ≡ 0
      = ap (λ cs. coverage last_bytes cs z) (is.chunks any) ∙ ap (λ n. n + 0) (covers-before (last_bytes c) z (omega arith)) in
      let chunk : coverage itself a.state.chunks z ≡ 1
      = ap (λ cs. coverage itself cs z) (is.chunks any) ∙ ap (λ n. n + 0) (covers-inside c z (omega arith) (omega arith)) in
      omega (arith, w.tiled z)

  -- and one free range has them all
  free_run : (f : Range) × IsIn f a.state.free × (32 * m ≤ f.len)
  free_run =
      let (f, i, low, high) = coverage-some itself a.state.free x (free_at x (omega arith) (omega arith)) in
      let far : y ≤ end_of f = elim (cases_lt (end_of f) y) [
        | inl ends ↦
            let z = end_of f in
            let (g, j, low', high') = coverage-some itself a.state.free z (free_at z (omega arith) (omega arith)) in
            elim (cases_lt g.start z) [
              | inl before ↦
                  let same = coverage-unique itself g f a.state.free (z - 1) (free-le a.state (tiling_of w) (z - 1)) j i
                  (covers-inside g (z - 1) (omega arith) (omega arith)) (covers-inside f (z - 1) (omega arith) (omega arith)) in
                  absurd (omega (arith, ap (λ (r : Range). end_of r) same))
              | inr behind ↦ absurd (w.apart f g i j (omega arith))
            ]
        | inr fits ↦ fits
      ] in
      (f, i, omega arith)

-- where no free range reaches so many units, no run of free units is long
pub no_run : {units : ℕ} {a : Allocator} → IsShadow units a → (sought o m : ℕ) → 0 < sought → HasNoRoomFor (offsets units a) sought
    → IsFreeRun (offsets units a) o m → 9 * sought ≤ 8 * m → ⊥
no_run {units} {a} is sought o m some full run long =
    let short = IsAllShort-full (offsets units a) sought some full in
    let (f, i, enough) = free_run is is.stands.well_formed o m (omega arith) run in
    omega (arith, short f i)

-- all units of an empty space are free
pub fresh_run : (v : Offsets) → IsEmpty v → IsFreeRun v 0 v.units
unfolding IsEmpty
fresh_run v none = record { inside = omega arith; clear = λ p n align told wide. absurd (none-some n (sym (none p) ∙ told)) }
