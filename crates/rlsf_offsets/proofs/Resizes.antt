-- A range of units gets another length in place.
use Rattle.std.specs.Option.{option_or, option_map_or}
use Rattle.std.proofs.Common.{◌≡◌, ◌≢◌, ◌↔◌, ℕ, ◌+◌, ◌-◌, ◌*◌, ◌/◌, ◌^◌, ◌<◌, ◌≤◌, Bool, true, false, List, length, find, Option, Some, None, IsSome, true≢false, arith, inl, inr, refl, sym, ◌∙◌, ap, subst}
use Rattle.std.proofs.lemmas.Bool.{cases_lt, eq-eqb, eqb-true}
use Rattle.rlsf_base.specs.declared.memory.range.Range.{Range}
use Rattle.rlsf_base.specs.Range.{end_of, range_at}
use Rattle.rlsf_base.specs.Space.{range_of}
use Rattle.rlsf_blocks.proofs.Reallocate.NextPlans.{in_place-fits, kept_whole, no_plan, or_else-stretched, stretched}
use Rattle.rlsf_blocks.proofs.Reallocate.Spans.{reach}
use Rattle.rlsf_model.specs.Callers.{align_at, bytes_at}
use Rattle.rlsf_model.specs.Join.{starts_at}
use Rattle.rlsf_model.specs.Lists.{IsIn}
use Rattle.rlsf_model.specs.NoMove.{ReallocatesUnmovedBy, unmoved_plan}
use Rattle.rlsf_model.specs.Reallocate.{Plan, into_next}
use Rattle.rlsf_model.specs.Sized.{IsSizedFor}
use Rattle.rlsf_model.specs.State.{Holds, State, Used}
use Rattle.rlsf_model.specs.WellFormed.{IsWellFormed, itself}
use Rattle.rlsf_model.proofs.CallerWords.{align_at-held, align_at-live, align_at-some, bytes_at-held}
use Rattle.rlsf_model.proofs.Coverage.{coverage-unique, covers-inside, find-none, find-some}
use Rattle.rlsf_model.proofs.Tiling.{IsPart-free, free-le, lies_in_chunk, tiling_of}
use Rattle.rlsf_model.proofs.Names.{resized}
use Rattle.rlsf_tlsf.specs.Allocator.{Allocator}
use Rattle.rlsf_tlsf.specs.CoreResizes.{KeepsBoundsThere, KeepsPayloadsResizing, stayed_if}
use Rattle.rlsf_tlsf.specs.Results as results
use Rattle.rlsf_offsets.specs.Units.{AreWhole, HasRoomInPlace, IsFreeRange, IsRangeResized, IsShadow, KeepsSizedThere, Offsets, align_of, offsets, place, units_at}
use Rattle.rlsf_offsets.proofs.Ranges.{IsSpace-shadow, align_of-live, align_of-same, chunk_end, seated, units_at-live, units_at-same}

-- payloads that stay where they are lie at multiples of 32
pub AreWhole-kept : {fllen sllen : ℕ} {memory : Range} (s t : State) → IsWellFormed fllen sllen memory t → align_at t ≡ align_at s → AreWhole s → AreWhole t
AreWhole-kept s t w same whole u i =
    let e : align_at s u.payload ≡ Some u.align = ap (λ (f : ℕ → Option ℕ). f u.payload) (sym same) ∙ align_at-held w u.payload u (i, refl) in
    let (v, held, align) = align_at-live s u.payload u.align e in
    let is = whole v held.0 in
    (omega (arith, is.0, held.1), omega (arith, is.1, align))

same_some : (x : Option ℕ) (m n : ℕ) → x ≡ Some m → x ≡ Some n → m ≡ n
same_some x m n p q = let e : Some m ≡ Some n = sym p ∙ q in cc

-- ---- which lengths fit

module _ {units : ℕ} {a : Allocator} (is : IsShadow units a) (first n size : ℕ) (es : size ≡ 32 * (n - 1)) (some : 0 < n) (u : Used)
    (held : Holds a.state (place first) u) where
  abbrev pub v : Offsets
  v = offsets units a

  abbrev now : ℕ
  now = length u.bytes / 32 + 1

  w : IsWellFormed 59 8 (range_of a.memory) a.state
  w = is.stands.well_formed

  is_now : units_at v first ≡ Some now
  is_now = units_at-live v first u.align (align_at-held w (place first) u held) ∙ ap (λ (l : List ℕ). Some (length l / 32 + 1)) (bytes_at-held w (place first) u held)

  ends : end_of u.block ≡ 2 ^ 62 - 32 + 32 * (first + now)
  ends =
      let seat = seated w is.whole u held.0 in
      omega (arith, held.1)

  ends_then : end_of (resized u size) ≡ 2 ^ 62 - 32 + 32 * (first + n)
  ends_then =
      let seat = seated w is.whole u held.0 in
      let start = (w.used u held.0).whole.start in
      omega (arith, held.1)

  data Decided : Type 0 where
    stays : (p : Plan) → unmoved_plan a.state u size ≡ Some p → HasRoomInPlace v first n → Decided
    leaves : unmoved_plan a.state u size ≡ None → (HasRoomInPlace v first n → ⊥) → Decided

  -- a free range at the end of the block
  at_end : (m : ℕ) → IsFreeRange v (first + now) m → IsIn (range_at (end_of u.block) (32 * m)) a.state.free
  unfolding IsFreeRange
  at_end m free = subst (λ x. IsIn (range_at x (32 * m)) a.state.free) (sym ends) free

  room_with : (f : Range) → IsIn f a.state.free → f.start ≡ end_of u.block → end_of (resized u size) ≤ end_of f → HasRoomInPlace v first n
  unfolding IsFreeRange
  room_with f i start fits =
      let whole = (w.free f i).whole.len in
      let from : f.start ≡ 2 ^ 62 - 32 + 32 * (first + now) = start ∙ ends in
      let len : f.len ≡ 32 * (f.len / 32) = omega (arith, whole) in
      let same : f ≡ range_at (2 ^ 62 - 32 + 32 * (first + now)) (32 * (f.len / 32)) = λ j. record { start = from j; len = len j } in
      record {
        now = now;
        live = is_now;
        room = inr (f.len / 32, subst (λ (r : Range). IsIn r a.state.free) same i, omega (arith, ends, ends_then, start, whole, fits));
      }

  no_room : end_of u.block < end_of (resized u size)
      → ((m : ℕ) → IsIn (range_at (end_of u.block) (32 * m)) a.state.free → end_of u.block + 32 * m < end_of (resized u size)) → HasRoomInPlace v first n → ⊥
  no_room longer short r =
      let same : r.now ≡ now = same_some (units_at v first) r.now now r.live is_now in
      elim r.room [
        | inl enough ↦ omega (arith, ends, ends_then, longer, same, enough)
        | inr (m, free, enough) ↦
            let less = short m (at_end m (subst (λ x. IsFreeRange v (first + x) m) same free)) in
            omega (arith, ends, ends_then, same, enough, less)
      ]

  decided : Decided
  decided = elim (cases_lt (end_of u.block) (end_of (resized u size))) [
    | inr fits ↦
        stays (kept_whole a.state u size) (ap (λ o. option_or o (into_next a.state u size)) (in_place-fits a.state u size fits))
        (record { now = now; live = is_now; room = inl (omega (arith, ends, ends_then, fits)) })
    | inl longer ↦ behind longer (find (starts_at (end_of u.block)) a.state.free) refl
  ]
    where
      behind : end_of u.block < end_of (resized u size) → (o : Option Range) → find (starts_at (end_of u.block)) a.state.free ≡ o → Decided
      behind longer None e =
          let far : reach a.state u ≡ end_of u.block = ap (λ (o : Option Range). option_map_or end_of o (end_of u.block)) e in
          leaves (no_plan a.state u size longer (omega (arith, far, longer)))
          (no_room longer (λ m i.
          let g = range_at (end_of u.block) (32 * m) in
          absurd (true≢false (sym (eq-eqb (end_of u.block) (end_of u.block) refl) ∙ find-none (starts_at (end_of u.block)) g a.state.free e i))))
      behind longer (Some f) e =
          let at = find-some (starts_at (end_of u.block)) f a.state.free e in
          let start : f.start ≡ end_of u.block = eqb-true f.start (end_of u.block) at.1 in
          let far : reach a.state u ≡ end_of f = ap (λ (o : Option Range). option_map_or end_of o (end_of u.block)) e in
          elim (cases_lt (end_of f) (end_of (resized u size))) [
            | inl short ↦
                leaves (no_plan a.state u size longer (omega (arith, far, short)))
                (no_room longer (λ m i.
                let g = range_at (end_of u.block) (32 * m) in
                let more = (w.free f at.0).some in
                let more_g = (w.free g i).some in
                let same : g ≡ f = coverage-unique itself g f a.state.free f.start (free-le a.state (tiling_of w) f.start) i at.0
                (covers-inside g f.start (omega (arith, start)) (omega (arith, start, more_g))) (covers-inside f f.start (omega arith) (omega (arith, more))) in
                omega (arith, short, start, ap (λ (x : Range). x.len) same)))
            | inr fits ↦
                let order : end_of u.block ≤ reach a.state u = omega (arith, far, start) in
                let other : end_of (resized u size) ≢ end_of u.block = λ same. omega (arith, same, longer) in
                stays (stretched a.state u size) (or_else-stretched a.state u size w held.0 other order (omega (arith, far, fits)))
                (room_with f at.0 start fits)
          ]

  -- the returned flag says whether there is room
  pub room_of : (addr : ℕ) (result : Bool) (t : State) → ReallocatesUnmovedBy a.state u (unmoved_plan a.state u size) (stayed_if result addr) t
      → (result ≡ true) ↔ HasRoomInPlace v first n
  room_of addr result t by = go result decided by
    where
      go : (result : Bool) → Decided → ReallocatesUnmovedBy a.state u (unmoved_plan a.state u size) (stayed_if result addr) t → (result ≡ true) ↔ HasRoomInPlace v first n
      go true (stays p e room) by = (λ done. room, λ r. refl)
      go true (leaves e none) by = absurd (subst (λ o. ReallocatesUnmovedBy a.state u o (Some addr) t) e by)
      go false (stays p e room) by = absurd (subst (λ o. ReallocatesUnmovedBy a.state u o None t) e by)
      go false (leaves e none) by = (λ done. absurd (true≢false (sym done)), λ r. absurd (none r))

-- no live range can have more units than the space
pub no_room_longer : {units : ℕ} {a : Allocator} → IsShadow units a → (first n : ℕ) → units < n → HasRoomInPlace (offsets units a) first n → ⊥
unfolding IsFreeRange
no_room_longer {units} {a} is first n long r =
    let w = is.stands.well_formed in
    let inside = (IsSpace-shadow is).inside first r.now r.live in
    elim r.room [
      | inl enough ↦ omega (arith, inside.1, enough, long)
      | inr (m, free, enough) ↦
          let f = range_at (2 ^ 62 - 32 + 32 * (first + r.now)) (32 * m) in
          let some = (w.free f free).some in
          let home = lies_in_chunk a.state (tiling_of w) f some (IsPart-free a.state (tiling_of w) f free) in
          let ends = chunk_end is home.chunk home.is_chunk in
          omega (arith, ends, enough, long, inside.1)
    ]

-- ---- what was resized

module _ {units : ℕ} {a b : Allocator} (is : IsShadow units a) (first n size addr : ℕ) (at : addr ≡ place first) (es : size ≡ 32 * (n - 1)) (some : 0 < n)
    (live : IsSome (align_at a.state (place first))) (kept : KeepsPayloadsResizing a.state b.state addr) where
  pub IsResized-units : IsShadow units b → length b.memory.bytes ≡ length a.memory.bytes → results.IsResized a.state b.state addr size addr
      → IsRangeResized (offsets units a) (offsets units b) n first
  IsResized-units after long made =
      let v = offsets units a in
      let x = offsets units b in
      let (u, held) = align_at-some a.state (place first) live in
      let aligns : (o : ℕ) → align_at b.state (place o) ≡ align_at a.state (place o) = λ o. ap (λ (f : ℕ → Option ℕ). f (place o)) kept.aligns in
      let e : align_at b.state (place first) ≡ Some u.align = aligns first ∙ align_at-held is.stands.well_formed (place first) u held in
      let here = subst (λ (y : ℕ). results.IsResized a.state b.state y size y) at made in
      let now : units_at x first ≡ Some n = units_at-live x first u.align e ∙ ap (λ m. Some m) (omega arith) in
      let bytes : (o : ℕ) → o ≢ first → bytes_at b.state (place o) ≡ bytes_at a.state (place o) = λ o other.
      kept.bytes (place o) (λ same. other (omega (arith, same, at))) in
      let others : (o : ℕ) → o ≢ first → units_at x o ≡ units_at v o = λ o other. units_at-same v x o (aligns o) (bytes o other) in
      record {
        live = now;
        inside = ((IsSpace-shadow after).inside first n now).1;
        apart = λ o m other told. (IsSpace-shadow after).apart o m first n (others o other ∙ told) now other;
        has_align = align_of-same v x first (aligns first);
        others = λ o other. (others o other, align_of-same v x o (aligns o));
        space = refl;
        limit = ap (λ k. k / 32 - 1) long;
      }

module _ {units : ℕ} {a : Allocator} (is : IsShadow units a) (first n size addr : ℕ) (at : addr ≡ place first) (es : size ≡ 32 * (n - 1))
    (live : IsSome (align_at a.state (place first))) where
  pub sized-there : (x : Offsets) → KeepsBoundsThere 8 a.state x.shadow.state addr size → KeepsSizedThere (offsets units a) x first n
  unfolding KeepsSizedThere
  sized-there x bounds = λ count most widest align sized wide short fits.
      let (u, held) = align_at-some a.state (place first) live in
      let e : align_at a.state (place first) ≡ Some u.align = align_at-held is.stands.well_formed (place first) u held in
      let same : u.align / 32 ≡ align = same_some (align_of (offsets units a) first) (u.align / 32) align (align_of-live (offsets units a) first u.align e) wide in
      bounds count (32 * (most - 1)) (32 * widest) u.align sized (ap (align_at a.state) at ∙ e) (omega (arith, short)) (omega (arith, same, (is.whole u held.0).1, fits))

pub sized-there-same : (v x : Offsets) (first n : ℕ) → x.shadow.state ≡ v.shadow.state → KeepsSizedThere v x first n
unfolding KeepsSizedThere
sized-there-same v x first n same = λ count most widest align sized wide short fits.
    subst (IsSizedFor 8 count (32 * (most - 1)) (32 * widest)) (sym same) sized
