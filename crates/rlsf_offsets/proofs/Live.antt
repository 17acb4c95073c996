-- Marks of live ranges.
use Rattle.std.proofs.Common.{◌≡◌, ◌≢◌, ℕ, zero, suc, ◌*◌, ◌/◌, ◌%◌, ◌<◌, ◌≤◌, Bool, true, false, List, [], ◌∷◌, length, Option, Some, None, IsSome, true≢false, arith, inl, inr, refl, sym, ◌∙◌, ap}
use Rattle.std.proofs.lemmas.Bool.{cases_lt, ne_eqb}
use Rattle.std.specs.Option.{option_map}
use Rattle.std.specs.Prelude.{Err, Ok, get_or, is_some, nat_eq}
use Rattle.std.proofs.lemmas.Option.{none-some}
use Rattle.rlsf_model.specs.Callers.{align_at, bytes_at}
use Rattle.rlsf_model.specs.State.{State}
use Rattle.rlsf_offsets.specs.declared.error.OffsetError.TheVariants.{UnknownOffset}
use Rattle.rlsf_offsets.specs.declared.marks.Marks.{Marks}
use Rattle.rlsf_offsets.specs.Checked.{if_range_live}
use Rattle.rlsf_offsets.specs.Marks.{IsCheckedSpace, is_marked}
use Rattle.rlsf_offsets.specs.Offsets.{IsRangeAllocated, IsSpaceGrown, IsRangeReallocated, KeepsRanges, at_multiple, len_at}
use Rattle.rlsf_offsets.specs.Units.{Offsets, limit_of, place, units_at}
use Rattle.rlsf_offsets.proofs.Ranges.{units_at-same}
use Rattle.rlsf_offsets.proofs.Bytes.{len_at-first, some_units}

-- ---- whether a range is live

still_some : (unit : ℕ) (x : Option ℕ) → is_some x ≡ is_some (at_multiple zero (option_map (λ (n : ℕ). n * unit) x))
still_some unit None = refl
still_some unit (Some n) = refl

-- at a multiple of the unit the mark says so
pub live-whole : {unit : ℕ} {v : Offsets} {m : Marks} → IsCheckedSpace unit v m → (o : ℕ) → o % unit ≡ 0 → is_marked m (o / unit) ≡ is_some (len_at unit v o)
unfolding len_at
live-whole {unit} {v} is o e =
    let x = units_at v (o / unit) in
    is.marked (o / unit) ∙ still_some unit x ∙ ap (λ (r : ℕ). is_some (at_multiple r (option_map (λ (n : ℕ). n * unit) x))) (sym e)

-- elsewhere none is
pub live-other : (unit : ℕ) (v : Offsets) (o : ℕ) → o % unit ≢ 0 → nat_eq (o % unit) 0 ≡ is_some (len_at unit v o)
unfolding len_at
live-other unit v o other = ne_eqb (o % unit) 0 other ∙ go (o % unit) other
  where
    go : (r : ℕ) → r ≢ 0 → false ≡ is_some (at_multiple r (option_map (λ (n : ℕ). n * unit) (units_at v (o / unit))))
    go zero none = absurd (none refl)
    go (suc r) none = refl

pub none_at : (o : Option ℕ) → false ≡ is_some o → o ≡ None
none_at None dead = refl
none_at (Some n) dead = absurd (true≢false (sym dead))

-- what the checked calls return, by whether one is
pub unknown : {A : Type 0} (o : Option ℕ) (x : A) → false ≡ is_some o → Err UnknownOffset ≡ if_range_live o x
unknown None x dead = refl
unknown (Some n) x dead = absurd (true≢false (sym dead))

pub known : {A : Type 0} (o : Option ℕ) (x : A) → true ≡ is_some o → Ok x ≡ if_range_live o x
known None x live = absurd (true≢false live)
known (Some n) x live = refl

-- where no range begins, none of units does
pub none_live : (unit : ℕ) → 0 < unit → (v : Offsets) (first : ℕ) → len_at unit v (first * unit) ≡ None → false ≡ is_some (units_at v first)
none_live unit some v first none = go (units_at v first) (sym (len_at-first unit some v first) ∙ none)
  where
    go : (x : Option ℕ) → option_map (λ (n : ℕ). n * unit) x ≡ None → false ≡ is_some x
    go None e = refl
    go (Some n) e = absurd (none-some (n * unit) (sym e))

-- a mark that is set is one of those that there are
pub marked_inside : (xs : List Bool) (i : ℕ) → get_or xs i false ≡ true → i < length xs
marked_inside [] i e = absurd (true≢false (sym e))
marked_inside (x ∷ xs) zero e = omega arith
marked_inside (x ∷ xs) (suc i) e = let less = marked_inside xs i e in omega (arith, less)

-- so a live range begins at a unit that has a mark
pub live_inside : {unit : ℕ} {v : Offsets} {m : Marks} → IsCheckedSpace unit v m → (o : ℕ) → 0 < unit → IsSome (len_at unit v o) → o / unit < length m.marks.items
live_inside {unit} {v} {m} is o some live = marked_inside m.marks.items (o / unit) (is.marked (o / unit) ∙ some_units unit some v o live)

-- ---- what stays true

module _ {unit : ℕ} {v : Offsets} {m : Marks} (is : IsCheckedSpace unit v m) (x : Offsets) where
  -- where no range began or ended
  pub IsChecked-same : ((o : ℕ) → is_some (units_at x o) ≡ is_some (units_at v o)) → limit_of x ≡ limit_of v → x.units ≤ limit_of v → IsCheckedSpace unit x m
  IsChecked-same same limit few =
      let covers = is.covers in
      record {
        power = is.power;
        marked = λ o. is.marked o ∙ sym (same o);
        covers = omega (arith, limit, covers);
        few = omega (arith, limit, few);
      }

  -- where one began or ended, and its mark was set
  module _ (n : Marks) (first : ℕ) (set : Bool) (here : is_marked n first ≡ set) (marks : (o : ℕ) → o ≢ first → is_marked n o ≡ is_marked m o)
      (len : length n.marks.items ≡ length m.marks.items) where
    pub IsChecked-set : is_some (units_at x first) ≡ set → ((o : ℕ) → o ≢ first → units_at x o ≡ units_at v o) → x.units ≡ v.units
        → limit_of x ≡ limit_of v → IsCheckedSpace unit x n
    IsChecked-set at others space limit =
        let covers = is.covers in
        let few = is.few in
        let beside : (o : ℕ) → o ≢ first → is_marked n o ≡ is_some (units_at x o) = λ o other.
        marks o other ∙ is.marked o ∙ ap is_some (sym (others o other)) in
        record {
          power = is.power;
          marked = λ o. elim (cases_lt o first) [
            | inl less ↦ beside o (λ e. omega (arith, e, less))
            | inr more ↦ elim (cases_lt first o) [
              | inl less ↦ beside o (λ e. omega (arith, e, less))
              | inr same ↦ let e : o ≡ first = omega arith in ap (is_marked n) e ∙ here ∙ sym at ∙ ap (λ (k : ℕ). is_some (units_at x k)) (sym e)
            ]
          ];
          covers = omega (arith, limit, covers, len);
          few = omega (arith, limit, few, space);
        }

  pub IsChecked-refused : KeepsRanges unit v x → IsCheckedSpace unit x m
  IsChecked-refused none =
      let u = none.unchanged in
      IsChecked-same
      (λ o.
      let same : units_at x o ≡ units_at v o
      = units_at-same v x o (ap (λ (s : State). align_at s (place o)) u.same) (ap (λ (s : State). bytes_at s (place o)) u.same) in
      ap is_some same) u.limit (omega (arith, u.space, is.few))

  pub IsChecked-grown : (len : ℕ) → len / unit ≤ limit_of v → IsSpaceGrown unit v x len → IsCheckedSpace unit x m
  IsChecked-grown len fits made = IsChecked-same (λ o. ap is_some (made.units.same o).0) made.units.limit (omega (arith, made.space, fits))

  pub IsChecked-reallocated : (len o : ℕ) → 0 < unit → IsSome (len_at unit v o) → IsRangeReallocated unit v x len o → IsCheckedSpace unit x m
  IsChecked-reallocated len o some live made =
      let first = o / unit in
      let was : is_some (units_at v first) ≡ true = some_units unit some v o live in
      IsChecked-same
      (λ k. elim (cases_lt k first) [
        | inl less ↦ ap is_some (made.units.others k (λ e. omega (arith, e, less))).0
        | inr more ↦ elim (cases_lt first k) [
          | inl less ↦ ap is_some (made.units.others k (λ e. omega (arith, e, less))).0
          | inr same ↦
              let e : k ≡ first = omega arith in
              ap (λ (i : ℕ). is_some (units_at x i)) e ∙ ap is_some made.units.live ∙ sym was ∙ ap (λ (i : ℕ). is_some (units_at v i)) (sym e)
        ]
      ]) made.units.limit (omega (arith, made.units.space, is.few))

-- the range that was allocated begins at a unit that has a mark
pub allocated_inside : {unit : ℕ} {v : Offsets} {m : Marks} → IsCheckedSpace unit v m → (x : Offsets) (len align o : ℕ) → IsRangeAllocated unit v x len align o
    → o / unit < length m.marks.items
allocated_inside {unit} is x len align o made =
    omega (arith, is.covers, is.few, made.units.inside)
