-- Live ranges by their offsets in bytes.
use Rattle.std.proofs.Common.{◌≡◌, ◌≢◌, ℕ, Bool, true, false, zero, suc, ◌+◌, ◌-◌, ◌*◌, ◌/◌, ◌%◌, ◌^◌, ◌<◌, ◌≤◌, Option, Some, None, IsSome, true≢false, arith, inl, inr, refl, sym, ◌∙◌, ap, subst}
use Rattle.std.proofs.lemmas.Bool.{cases_lt}
use Rattle.std.proofs.lemmas.Nat.{pow-add}
use Rattle.std.proofs.lemmas.Option.{none-some}
use Rattle.std.proofs.Math.Nat.{div-add-mod', div-eq_of_lt-le, mod-lt, mul_assoc, mul-div_left, mul-le-mul_right, mul-mod_right}
use Rattle.std.specs.Option.{option_map}
use Rattle.rlsf_model_sizes.specs.PowerOfTwo.{IsPowerOfTwo, floor_log2}
use Rattle.rlsf_base.proofs.Numbers.PowersOfTwo.{IsPowerOfTwo-pow, IsPowerOfTwo-positive}
use Rattle.rlsf_model.specs.Callers.{align_at, bytes_at}
use Rattle.rlsf_model.specs.State.{State}
use Rattle.rlsf_offsets.specs.Units.{IsEmpty, IsLonger, IsReleased, IsReserved, IsRangeResized, IsSpace, IsSpaceUnchanged, Offsets, place, units_at}
use Rattle.rlsf_offsets.specs.Offsets.{IsRangeAllocated, IsRangeDeallocated, IsDivided, IsSpaceGrown, IsRangeReallocated, KeepsRanges, at_multiple, len_at, rounded, units_of_bytes}
use Rattle.rlsf_offsets.proofs.Ranges.{units_at-same}

-- ---- where live ranges are

-- units side by side, in bytes
pub scaled : (o n all unit : ℕ) → o + n ≤ all → o * unit + n * unit ≤ all * unit
scaled o n all unit inside = omega (arith, mul-le-mul_right unit inside)

module _ (unit : ℕ) (some : 0 < unit) where
  whole_first : (first : ℕ) → first * unit % unit ≡ 0
  whole_first first = subst (λ n. n % unit ≡ 0) (omega arith) (mul-mod_right unit first)

  -- at a multiple of the unit, the range of the unit there
  pub len_at-first : (v : Offsets) (first : ℕ) → len_at unit v (first * unit) ≡ option_map (λ (n : ℕ). n * unit) (units_at v first)
  unfolding len_at
  len_at-first v first = λ i. at_multiple (whole_first first i) (option_map (λ (n : ℕ). n * unit) (units_at v (mul-div_left first some i)))

  pub len_at-live : (v : Offsets) (first n : ℕ) → units_at v first ≡ Some n → len_at unit v (first * unit) ≡ Some (n * unit)
  len_at-live v first n is = len_at-first v first ∙ ap (option_map (λ (n : ℕ). n * unit)) is

  pub len_at-none : (v : Offsets) (first : ℕ) → units_at v first ≡ None → len_at unit v (first * unit) ≡ None
  len_at-none v first is = len_at-first v first ∙ ap (option_map (λ (n : ℕ). n * unit)) is

  -- a live range is one of units
  pub record IsOfUnits (v : Offsets) (o len : ℕ) : Type 0 where
    pub units : ℕ
    pub first : o ≡ o / unit * unit
    pub len_is : len ≡ units * unit
    pub live : units_at v (o / unit) ≡ Some units

  pub of_units : (v : Offsets) (o len : ℕ) → len_at unit v o ≡ Some len → IsOfUnits v o len
  unfolding len_at
  of_units v o len = go (o % unit) refl (units_at v (o / unit)) refl
    where
      go : (r : ℕ) → o % unit ≡ r → (x : Option ℕ) → units_at v (o / unit) ≡ x → at_multiple r (option_map (λ (n : ℕ). n * unit) x) ≡ Some len → IsOfUnits v o len
      go zero e None at told = absurd (none-some len told)
      go zero e (Some n) at told =
          let same : n * unit ≡ len = cc in
          record { units = n; first = omega (arith, div-add-mod' o unit, e); len_is = sym same; live = at }
      go (suc r) e x at told = absurd (none-some len told)

  -- whatever its length is
  of_some_units : (v : Offsets) (o : ℕ) → IsSome (len_at unit v o) → (len : ℕ) × IsOfUnits v o len
  of_some_units v o = go (len_at unit v o) refl
    where
      go : (x : Option ℕ) → len_at unit v o ≡ x → IsSome x → (len : ℕ) × IsOfUnits v o len
      go None at told = absurd (true≢false (sym told))
      go (Some len) at told = (len, of_units v o len at)

  pub some_units : (v : Offsets) (o : ℕ) → IsSome (len_at unit v o) → IsSome (units_at v (o / unit))
  some_units v o live = subst IsSome (sym (of_some_units v o live).1.live) refl

  some_len : (v : Offsets) (o : ℕ) → IsSome (len_at unit v o) → o ≡ o / unit * unit
  some_len v o live = (of_some_units v o live).1.first

  -- the length of a live range
  pub len-units : (v : Offsets) (o n : ℕ) → IsSome (len_at unit v o) → units_at v (o / unit) ≡ Some n → len_at unit v o ≡ Some (n * unit)
  len-units v o n live is = ap (len_at unit v) (some_len v o live) ∙ len_at-live v (o / unit) n is

  pub inside-units : (v : Offsets) (o n : ℕ) → IsSome (len_at unit v o) → (0 < n) × (o / unit + n ≤ v.units) → (0 < n * unit) × (o + n * unit ≤ v.units * unit)
  inside-units v o n live inside = (
    omega (arith, mul-le-mul_right unit inside.0),
    omega (arith, some_len v o live, scaled (o / unit) n v.units unit inside.1),
  )

  -- in an empty space no range is live
  pub len_at-empty : (v : Offsets) → IsEmpty v → (o : ℕ) → len_at unit v o ≡ None
  unfolding len_at IsEmpty
  len_at-empty v none o = ap (λ x. at_multiple (o % unit) (option_map (λ (n : ℕ). n * unit) x)) (none (o / unit)) ∙ at_none (o % unit)
    where
      at_none : (r : ℕ) → at_multiple r None ≡ None
      at_none zero = refl
      at_none (suc r) = refl

  -- where the ranges of all units but one are as they were, so are those of all offsets but its
  pub others : (v x : Offsets) (first : ℕ) → ((u : ℕ) → u ≢ first → units_at x u ≡ units_at v u) → (o : ℕ) → o ≢ first * unit
      → len_at unit x o ≡ len_at unit v o
  unfolding len_at
  others v x first same o other = go (o % unit) refl
    where
      go : (r : ℕ) → o % unit ≡ r
          → at_multiple r (option_map (λ (n : ℕ). n * unit) (units_at x (o / unit))) ≡ at_multiple r (option_map (λ (n : ℕ). n * unit) (units_at v (o / unit)))
      go zero e =
          let apart : o / unit ≢ first = λ at. other (omega (arith, div-add-mod' o unit, e, ap (λ (n : ℕ). n * unit) at)) in
          ap (option_map (λ (n : ℕ). n * unit)) (same (o / unit) apart)
      go (suc r) e = refl

  pub IsDivided-units : (v : Offsets) → IsSpace v → IsDivided unit v
  IsDivided-units v is = record {
    inside = λ o n told.
        let u = of_units v o n told in
        let inside = is.inside (o / unit) u.units u.live in
        (omega (arith, mul-le-mul_right unit inside.0), omega (arith, scaled (o / unit) u.units v.units unit inside.1));
    whole = λ o n told.
        let u = of_units v o n told in
        (subst (λ x. x % unit ≡ 0) (sym u.first) (whole_first (o / unit)), subst (λ x. x % unit ≡ 0) (sym u.len_is) (whole_first u.units));
    apart = λ o n p m told told' other.
        let u = of_units v o n told in
        let w = of_units v p m told' in
        let firsts : o / unit ≢ p / unit = λ same. other (u.first ∙ ap (λ (x : ℕ). x * unit) same ∙ sym w.first) in
        elim (is.apart (o / unit) u.units (p / unit) w.units u.live w.live firsts) [
          | inl before ↦ inl (omega (arith, scaled (o / unit) u.units (p / unit) unit before))
          | inr behind ↦ inr (omega (arith, scaled (p / unit) w.units (o / unit) unit behind))
        ];
  }

  -- ---- what calls do

  pub IsDeallocated-units : (v x : Offsets) (o : ℕ) → IsSome (len_at unit v o) → IsReleased v x (o / unit) → IsRangeDeallocated unit v x o
  IsDeallocated-units v x o some gone =
      let first = some_len v o some in
      let same : (p : ℕ) → p ≢ o → len_at unit x p ≡ len_at unit v p = λ p other.
      others v x (o / unit) (λ u apart. (gone.others u apart).0) p (λ e. other (e ∙ sym first)) in
      record {
        gone = ap (len_at unit x) first ∙ len_at-none x (o / unit) gone.gone.0;
        others = same;
        stay = λ p other live. subst IsSome (sym (same p other)) live;
        space = gone.space;
        units = gone;
      }

-- ---- lengths and alignments

module _ (unit : ℕ) (some : 0 < unit) (bytes : ℕ) where
  pub rounded-long : bytes ≤ rounded unit bytes
  rounded-long = omega (arith, div-add-mod' (bytes - 1) unit, mod-lt (bytes - 1) some)

  pub rounded-few : 0 < bytes → rounded unit bytes < bytes + unit
  rounded-few more = omega (arith, div-add-mod' (bytes - 1) unit)

-- what an alignment is in units
record IsUnitAlign (unit align units : ℕ) : Type 0 where
  power : IsPowerOfTwo units
  times : ℕ
  whole : units * unit ≡ times * align

unit_align : (unit align : ℕ) → IsPowerOfTwo unit → IsPowerOfTwo align → IsUnitAlign unit align (units_of_bytes unit align)
unit_align unit align is_unit is_align =
    let a = floor_log2 unit in
    let b = floor_log2 align in
    let unit_some = IsPowerOfTwo-positive unit is_unit in
    let align_some = IsPowerOfTwo-positive align is_align in
    elim (cases_lt a b) [
      | inl wide ↦
          let q = 2 ^ (b - a) in
          let exponent : b ≡ b - a + a = omega arith in
          let product : align ≡ q * unit = is_align ∙ ap (λ k. 2 ^ k) exponent ∙ pow-add 2 (b - a) a ∙ ap (λ k. q * k) (sym is_unit) in
          let positive : 0 < q = IsPowerOfTwo-positive q (IsPowerOfTwo-pow (b - a)) in
          let split : q ≡ q - 1 + 1 = omega (arith, positive) in
          let less : q * unit ≡ (q - 1 + 1) * unit = ap (λ k. k * unit) split in
          let whole : (align - 1) / unit ≡ q - 1 = div-eq_of_lt-le unit (omega (arith, less, product)) (omega (arith, less, product)) in
          let units : units_of_bytes unit align ≡ q = omega (arith, whole) in
          record {
            power = subst IsPowerOfTwo (sym units) (IsPowerOfTwo-pow (b - a));
            times = 1;
            whole = omega (arith, ap (λ k. k * unit) units, product);
          }
      | inr narrow ↦
          let q = 2 ^ (a - b) in
          let exponent : a ≡ a - b + b = omega arith in
          let product : unit ≡ q * align = is_unit ∙ ap (λ k. 2 ^ k) exponent ∙ pow-add 2 (a - b) b ∙ ap (λ k. q * k) (sym is_align) in
          let positive : 0 < q = IsPowerOfTwo-positive q (IsPowerOfTwo-pow (a - b)) in
          let below : align ≤ unit = omega (arith, product, mul-le-mul_right align positive) in
          let whole : (align - 1) / unit ≡ 0 = div-eq_of_lt-le unit (omega arith) (omega (arith, below)) in
          let units : units_of_bytes unit align ≡ 1 = omega (arith, whole) in
          record {
            power = subst IsPowerOfTwo (sym units) (IsPowerOfTwo-pow 0);
            times = q;
            whole = omega (arith, ap (λ k. k * unit) units, product);
          }
    ]

module _ (unit align : ℕ) (is_unit : IsPowerOfTwo unit) (is_align : IsPowerOfTwo align) where
  pub power_of_units : IsPowerOfTwo (units_of_bytes unit align)
  power_of_units = (unit_align unit align is_unit is_align).power

  -- a multiple of the alignment in units is one in bytes
  aligned : (first : ℕ) → first % units_of_bytes unit align ≡ 0 → first * unit % align ≡ 0
  aligned first none =
      let is = unit_align unit align is_unit is_align in
      let a = units_of_bytes unit align in
      let q = first / a in
      let whole : first ≡ q * a = omega (arith, div-add-mod' first a, none) in
      let bytes : first * unit ≡ align * (q * is.times) = ap (λ k. k * unit) whole ∙ mul_assoc q a unit ∙ ap (λ k. q * k) is.whole ∙ omega arith in
      subst (λ k. k % align ≡ 0) (sym bytes) (mul-mod_right align (q * is.times))

  pub IsAllocated-units : (v x : Offsets) (len first : ℕ) → IsReserved v x (units_of_bytes unit len) (units_of_bytes unit align) first
      → IsRangeAllocated unit v x len align (first * unit)
  IsAllocated-units v x len first made =
      let some = IsPowerOfTwo-positive unit is_unit in
      let n = units_of_bytes unit len in
      let o = first * unit in
      let new : len_at unit v o ≡ None = len_at-none unit some v first made.new in
      let other : (p : ℕ) → IsSome (len_at unit v p) → p ≢ o = λ p live same.
      true≢false (sym (subst IsSome (ap (len_at unit v) same ∙ new) live)) in
      let rest : (p : ℕ) → p ≢ o → len_at unit x p ≡ len_at unit v p = others unit some v x first (λ u apart. (made.others u apart).0) in
      record {
        live = len_at-live unit some x first n made.live;
        long = rounded-long unit some len;
        few = rounded-few unit some len;
        new = new;
        inside = omega (arith, scaled first n v.units unit made.inside);
        whole = subst (λ k. k % unit ≡ 0) (omega arith) (mul-mod_right unit first);
        aligned = aligned first made.aligned;
        apart = λ p m told.
            let u = of_units unit some v p m told in
            elim (made.apart (p / unit) u.units u.live) [
              | inl before ↦ inl (omega (arith, scaled (p / unit) u.units first unit before))
              | inr behind ↦ inr (omega (arith, scaled first n (p / unit) unit behind))
            ];
        other = other;
        others = rest;
        stay = λ p live. subst IsSome (sym (rest p (other p live))) live;
        space = made.space;
        units = subst (λ k. IsReserved v x n (units_of_bytes unit align) k) (sym (mul-div_left first some)) made;
      }

-- ---- in place

module _ (unit : ℕ) (some : 0 < unit) (v x : Offsets) (len o : ℕ) (live : IsSome (len_at unit v o)) where
  pub IsReallocated-units : IsRangeResized v x (units_of_bytes unit len) (o / unit) → IsRangeReallocated unit v x len o
  IsReallocated-units made =
      let n = units_of_bytes unit len in
      let first = some_len unit some v o live in
      let rest : (p : ℕ) → p ≢ o → len_at unit x p ≡ len_at unit v p = λ p other.
      others unit some v x (o / unit) (λ u apart. (made.others u apart).0) p (λ e. other (e ∙ sym first)) in
      let now : len_at unit x o ≡ Some (rounded unit len) = ap (len_at unit x) first ∙ len_at-live unit some x (o / unit) n made.live in
      record {
        live = now;
        long = rounded-long unit some len;
        few = rounded-few unit some len;
        inside = omega (arith, first, scaled (o / unit) n v.units unit made.inside);
        apart = λ p m other told.
            let u = of_units unit some v p m told in
            let firsts : p / unit ≢ o / unit = λ same. other (u.first ∙ ap (λ (y : ℕ). y * unit) same ∙ sym first) in
            elim (made.apart (p / unit) u.units firsts u.live) [
              | inl before ↦ inl (omega (arith, first, scaled (p / unit) u.units (o / unit) unit before))
              | inr behind ↦ inr (omega (arith, first, scaled (o / unit) n (p / unit) unit behind))
            ];
        others = rest;
        stay = λ p was. elim (cases_lt p o) [
          | inl less ↦ subst IsSome (sym (rest p (λ e. omega (arith, e, less)))) was
          | inr more ↦ elim (cases_lt o p) [
            | inl less ↦ subst IsSome (sym (rest p (λ e. omega (arith, e, less)))) was
            | inr same ↦ let at : p ≡ o = omega arith in subst IsSome (sym (ap (len_at unit x) at ∙ now)) refl
          ]
        ];
        space = made.space;
        units = made;
      }

-- where nothing changed, the ranges are those that were live
len_at-unchanged : (unit : ℕ) (v x : Offsets) → IsSpaceUnchanged v x → (p : ℕ) → len_at unit x p ≡ len_at unit v p
unfolding len_at
len_at-unchanged unit v x is p =
    let o = p / unit in
    let same = units_at-same v x o (ap (λ (s : State). align_at s (place o)) is.same) (ap (λ (s : State). bytes_at s (place o)) is.same) in
    ap (λ (u : Option ℕ). at_multiple (p % unit) (option_map (λ (n : ℕ). n * unit) u)) same

-- a reallocation in place that is done or refused leaves each live range live
pub still_live : (unit : ℕ) (v x : Offsets) (len o : ℕ) (result : Bool) → (result ≡ true → IsRangeReallocated unit v x len o) → (result ≡ false → IsSpaceUnchanged v x)
    → (p : ℕ) → IsSome (len_at unit v p) → IsSome (len_at unit x p)
still_live unit v x len o true made none p live = (made refl).stay p live
still_live unit v x len o false made none p live = subst IsSome (sym (len_at-unchanged unit v x (none refl) p)) live

-- a call that is refused changes no range
pub KeepsRanges-unchanged : (unit : ℕ) (v x : Offsets) → IsSpaceUnchanged v x → KeepsRanges unit v x
KeepsRanges-unchanged unit v x is = record {
  others = len_at-unchanged unit v x is;
  stay = λ p live. subst IsSome (sym (len_at-unchanged unit v x is p)) live;
  unchanged = is;
}

-- nor does one that is refused before it begins
pub KeepsRanges-same : (unit : ℕ) (v : Offsets) → KeepsRanges unit v v
KeepsRanges-same unit v = KeepsRanges-unchanged unit v v (record { space = refl; limit = refl; same = refl })

-- ---- a longer space

pub IsSpaceGrown-units : (unit : ℕ) (v x : Offsets) (len : ℕ) → IsLonger v x (len / unit) → IsSpaceGrown unit v x len
unfolding len_at
IsSpaceGrown-units unit v x len made = record {
  space = made.space;
  others = λ o. ap (λ (u : Option ℕ). at_multiple (o % unit) (option_map (λ (n : ℕ). n * unit) u)) (made.same (o / unit)).0;
  units = made;
}

module _ (unit : ℕ) (v x : Offsets) (len : ℕ) where
  -- a space that grows, or is refused to, keeps each live range
  pub grown_live : (result : Bool) → (result ≡ true → IsLonger v x (len / unit)) → (result ≡ false → IsSpaceUnchanged v x)
      → (p : ℕ) → IsSome (len_at unit v p) → IsSome (len_at unit x p)
  grown_live true made none p live = subst IsSome (sym ((IsSpaceGrown-units unit v x len (made refl)).others p)) live
  grown_live false made none p live = (KeepsRanges-unchanged unit v x (none refl)).stay p live

  -- and its length fits in a word
  pub grown_fits : (result : Bool) → (result ≡ true → IsLonger v x (len / unit)) → (result ≡ false → IsSpaceUnchanged v x)
      → v.units * unit < 2 ^ 64 → len < 2 ^ 64 → x.units * unit < 2 ^ 64
  grown_fits true made none old fits =
      let same : x.units * unit ≡ len / unit * unit = ap (λ (n : ℕ). n * unit) (made refl).space in
      omega (arith, same, div-add-mod' len unit, fits)
  grown_fits false made none old fits =
      let same : x.units * unit ≡ v.units * unit = ap (λ (n : ℕ). n * unit) (none refl).space in
      omega (arith, same, old)
