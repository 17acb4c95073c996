-- A space gets more units.
use Rattle.std.specs.Option.{option_map_or}
use Rattle.std.proofs.Common.{◌≡◌, ℕ, zero, suc, ◌+◌, ◌-◌, ◌*◌, ◌/◌, ◌^◌, ◌<◌, ◌≤◌, Bool, true, false, cond, List, [], ◌∷◌, length, Option, Some, None, find, nat_le, arith, inl, refl, sym, ◌∙◌, ap, subst}
use Rattle.std.proofs.lemmas.Bool.{eq-eqb}
use Rattle.rlsf_base.specs.declared.memory.range.Range.{Range}
use Rattle.rlsf_base.specs.Range.{end_of, range_at}
use Rattle.rlsf_model_sizes.specs.Sizes.{max_pool_size}
use Rattle.rlsf_base.specs.Space.{range_of}
use Rattle.rlsf_model.specs.Insert.{Appends, IsNext, aligned_part, cut, extended, grown}
use Rattle.rlsf_model.specs.Join.{ends_at}
use Rattle.rlsf_model.specs.Lists.{IsIn, without}
use Rattle.rlsf_model.specs.State.{State}
use Rattle.rlsf_model.specs.WellFormed.{coverage, itself}
use Rattle.rlsf_model.proofs.Coverage.{covers-behind}
use Rattle.rlsf_tlsf.specs.Allocator.{Allocator}
use Rattle.rlsf_tlsf.specs.Results.{KeepsFrameOfPools}
use Rattle.rlsf_offsets.specs.Units.{AreWhole, IsLonger, IsShadow, KeepsSpaceSized, Offsets, offsets, place, units_at, whole_shadow}
use Rattle.rlsf_offsets.proofs.Ranges.{IsSpace-shadow, align_of-same, units_at-same}

pub AreWhole-used : (s t : State) → t.used ≡ s.used → AreWhole s → AreWhole t
AreWhole-used s t same whole u i = whole u (subst (IsIn u) same i)

at_most_one : {A : Type 0} (b : Bool) (x : A) → length (cond b (x ∷ []) []) ≤ 1
at_most_one true x = omega arith
at_most_one false x = omega arith

-- a range is cut into one chunk at most
pub few_chunks : (r : Range) → length (cut (max_pool_size 59) (aligned_part r)) ≤ 1
few_chunks r = let p = aligned_part r in at_most_one (nat_le 64 p.len) p

-- the chunk of a space of some units is longer by the units behind it that are appended
module _ (from to : ℕ) (s t : State) (r : Range) (reply : ℕ) (some : 0 < from) (longer : from ≤ to) (one : s.chunks ≡ whole_shadow from ∷ [])
    (start : r.start ≡ 2 ^ 62 + 32 * from) (len : r.len ≡ 32 * (to - from)) where
  abbrev at : ℕ
  at = 2 ^ 62 + 32 * from

  found : find (ends_at at) s.chunks ≡ Some (whole_shadow from)
  found =
      let c = whole_shadow from in
      let ends : end_of c ≡ at = omega arith in
      ap (find (ends_at at)) one ∙ ap (λ b. cond b (Some c) None) (eq-eqb (end_of c) at ends)

  left : without (ends_at (end_of (whole_shadow from))) s.chunks ≡ []
  left =
      let c = whole_shadow from in
      ap (without (ends_at (end_of c))) one ∙ ap (λ b. cond b [] (c ∷ [])) (eq-eqb (end_of c) (end_of c) refl)

  longer_chunk : (n : ℕ) → n ≡ 32 * (to - from) → (extended at n s).chunks ≡ whole_shadow to ∷ []
  longer_chunk zero e = one ∙ ap (λ (k : ℕ). whole_shadow k ∷ []) (omega (arith, e, longer))
  longer_chunk (suc n) e =
      let c = whole_shadow from in
      let long : c.len + suc n ≡ 32 * to + 32 = omega (arith, e, longer) in
      let same : range_at c.start (c.len + suc n) ≡ whole_shadow to = λ i. record { start = 2 ^ 62 - 32; len = long i } in
      ap (λ (o : Option Range). (option_map_or (λ c. grown c (suc n) s) o s).chunks) found ∙ (λ i. same i ∷ left i)

  pub longer_shadow : Appends 59 s r reply t → t.chunks ≡ whole_shadow to ∷ []
  longer_shadow step =
      let n : r.len / 32 * 32 ≡ 32 * (to - from) = omega (arith, len) in
      ap (λ (x : State). x.chunks) step.after ∙ ap (λ (a : ℕ). (extended a (r.len / 32 * 32) s).chunks) start
      ∙ ap (λ (k : ℕ). (extended at k s).chunks) n ∙ longer_chunk (32 * (to - from)) refl

-- the range behind the chunk may be appended
pub IsNext-shadow : {from : ℕ} {a : Allocator} → IsShadow from a → (to : ℕ) → 0 < from → from ≤ to → 32 * to + 32 ≤ length a.memory.bytes
    → IsNext (range_of a.memory) a.state (range_at (2 ^ 62 + 32 * from) (32 * (to - from)))
IsNext-shadow {from} {a} is to some longer room =
    let c = whole_shadow from in
    let one = is.chunks some in
    let ends : end_of c ≡ 2 ^ 62 + 32 * from = omega arith in
    record {
      fresh = record {
        lies_in = (omega (arith, is.start), omega (arith, is.start, room, longer));
        apart = λ a low high. ap (λ cs. coverage itself cs a) one ∙ ap (λ n. n + 0) (covers-behind c a (omega (arith, low)));
      };
      chunk = c;
      is_chunk = subst (λ cs. IsIn c cs) (sym one) (inl refl);
      ends = ends;
    }

-- ranges stay, and the new units are free
pub IsLonger-frame : {units : ℕ} {a b : Allocator} → IsShadow units a → (to : ℕ) → units ≤ to → KeepsFrameOfPools a b → IsLonger (offsets units a) (offsets to b) to
IsLonger-frame {units} {a} {b} is to longer frame =
    let v = offsets units a in
    let x = offsets to b in
    let units_same : (o : ℕ) → units_at x o ≡ units_at v o = λ o.
    units_at-same v x o (ap (λ (f : ℕ → Option ℕ). f (place o)) frame.aligns) (ap (λ (f : ℕ → List ℕ). f (place o)) frame.bytes) in
    record {
      space = refl;
      same = λ o. (units_same o, align_of-same v x o (ap (λ (f : ℕ → Option ℕ). f (place o)) frame.aligns));
      free = record {
        inside = omega (arith, longer);
        clear = λ p n align told wide. inl (((IsSpace-shadow is).inside p n (sym (units_same p) ∙ told)).1);
      };
      limit = ap (λ (k : ℕ). k / 32 - 1) frame.place.1;
    }

pub sized-again : (v : Offsets) → KeepsSpaceSized v v
unfolding KeepsSpaceSized
sized-again v = λ count most widest sized. sized
