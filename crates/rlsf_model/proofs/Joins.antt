-- The range that a join makes, side by side.
use Rattle.std.specs.Option.{option_map_or}
use Rattle.std.proofs.Common.{◌≡◌, ◌≢◌, ℕ, ◌+◌, ◌%◌, ◌<◌, ◌≤◌, Bool, List, Option, Some, None, find, true≢false, arith, refl, sym, ◌∙◌, ap}
use Rattle.std.proofs.Common.{subst, inl, inr}
use Rattle.std.proofs.lemmas.Bool.{eq-eqb, eqb-true}
use Rattle.rlsf_base.specs.declared.memory.range.Range.{Range}
use Rattle.rlsf_base.specs.Range.{end_of}
use Rattle.rlsf_model.specs.Join.{ends_at, starts_at, join}
use Rattle.rlsf_model.specs.Lists.{IsIn, without}
use Rattle.rlsf_model.specs.State.{between}
use Rattle.rlsf_model.specs.WellFormed.{covers, coverage, itself, IsWhole, IsApart}
use Rattle.rlsf_model.proofs.Coverage.{covers-empty, covers-split, coverage-without, find-some, find-none, without-none, IsIn-without}

-- ranges that aren't empty, begin and end at multiples of 32, and don't adjoin
pub record IsSound (free : List Range) : Type 0 where
  pub whole : (f : Range) → IsIn f free → IsWhole f × (0 < f.len)
  pub apart : IsApart free

pub IsSound-without : (p : Range → Bool) (free : List Range) → IsSound free → IsSound (without p free)
IsSound-without p free sound = grind (arith, IsIn-without)

-- a range is known by its start and its end
pub covers-same : (r s : Range) (a : ℕ) → r.start ≡ s.start → end_of r ≡ end_of s → covers r a ≡ covers s a
covers-same r s a start end = grind (arith, covers-empty, covers-split)

-- what the range before an address adds
pub record IsLeft (at : ℕ) (free : List Range) (o : Option Range) : Type 0 where
  pub order : option_map_or (λ f. f.start) o at ≤ at
  pub whole : option_map_or (λ f. f.start) o at % 32 ≡ 0
  pub cover : (a : ℕ) → coverage itself free a ≡ covers (between (option_map_or (λ f. f.start) o at) at) a + coverage itself (without (ends_at at) free) a
  pub ends : (g : Range) → IsIn g (without (ends_at at) free) → end_of g ≢ (option_map_or (λ f. f.start) o at)

pub left_of : (at : ℕ) (free : List Range) → at % 32 ≡ 0 → IsSound free → IsLeft at free (find (ends_at at) free)
left_of at free whole sound = go (find (ends_at at) free) refl
  where
    go : (o : Option Range) → find (ends_at at) free ≡ o → IsLeft at free o
    go None e = record {
      order = omega arith;
      whole = whole;
      cover = λ a. ap (λ l. coverage itself l a) (sym (without-none (ends_at at) free e)) ∙ omega (arith, covers-empty (between at at) a (omega arith));
      ends = λ g h same. true≢false (sym (eq-eqb (end_of g) at same) ∙ find-none (ends_at at) g free e (IsIn-without (ends_at at) g free h));
    }
    go (Some f) e =
        let is = find-some (ends_at at) f free e in
        let f_end : end_of f ≡ at = eqb-true (end_of f) at is.1 in
        let f_whole = sound.whole f is.0 in
        record {
          order = omega arith;
          whole = f_whole.0.start;
          cover =
              λ a. coverage-without itself (ends_at at) f free a e
              ∙ ap (λ n. n + coverage itself (without (ends_at at) free) a) (covers-same f (between f.start at) a refl (omega arith));
          ends = λ g h. sound.apart g f (IsIn-without (ends_at at) g free h) is.0;
        }

-- what the range behind an address adds
pub record IsRight (at : ℕ) (free : List Range) (o : Option Range) : Type 0 where
  pub order : at ≤ option_map_or end_of o at
  pub whole : option_map_or end_of o at % 32 ≡ 0
  pub cover : (a : ℕ) → coverage itself free a ≡ covers (between at (option_map_or end_of o at)) a + coverage itself (without (starts_at at) free) a
  pub starts : (g : Range) → IsIn g (without (starts_at at) free) → option_map_or end_of o at ≢ g.start

pub right_of : (at : ℕ) (free : List Range) → at % 32 ≡ 0 → IsSound free → IsRight at free (find (starts_at at) free)
right_of at free whole sound = go (find (starts_at at) free) refl
  where
    go : (o : Option Range) → find (starts_at at) free ≡ o → IsRight at free o
    go None e = record {
      order = omega arith;
      whole = whole;
      cover = λ a. ap (λ l. coverage itself l a) (sym (without-none (starts_at at) free e)) ∙ omega (arith, covers-empty (between at at) a (omega arith));
      starts = λ g h same. true≢false (sym (eq-eqb g.start at (sym same)) ∙ find-none (starts_at at) g free e (IsIn-without (starts_at at) g free h));
    }
    go (Some f) e =
        let is = find-some (starts_at at) f free e in
        let f_start : f.start ≡ at = eqb-true f.start at is.1 in
        let (f_whole, f_some) = sound.whole f is.0 in
        record {
          order = omega arith;
          whole = omega (arith, f_whole.start, f_whole.len);
          cover =
              λ a. coverage-without itself (starts_at at) f free a e
              ∙ ap (λ n. n + coverage itself (without (starts_at at) free) a) (covers-same f (between at (end_of f)) a f_start (omega arith));
          starts = λ g h. sound.apart f g is.0 (IsIn-without (starts_at at) g free h);
        }

-- ---- join

module _ (r : Range) (free : List Range) (r_whole : IsWhole r) (some : 0 < r.len) (sound : IsSound free) where
  left : IsLeft r.start free (find (ends_at r.start) free)
  left = left_of r.start free r_whole.start sound

  right : IsRight (end_of r) (without (ends_at r.start) free) (find (starts_at (end_of r)) (without (ends_at r.start) free))
  right = right_of (end_of r) (without (ends_at r.start) free) (omega (arith, r_whole.start, r_whole.len)) (IsSound-without (ends_at r.start) free sound)

  -- the union has the addresses of the range and of what was taken out
  pub coverage-join : (a : ℕ) → coverage itself (join r free) a ≡ covers r a + coverage itself free a
  coverage-join a =
      let low = option_map_or (λ f. f.start) (find (ends_at r.start) free) r.start in
      let high = option_map_or end_of (find (starts_at (end_of r)) (without (ends_at r.start) free)) (end_of r) in
      let l = left in
      let h = right in
      let first : covers (between low high) a ≡ covers (between low (end_of r)) a + covers (between (end_of r) high) a =
      covers-split low (end_of r) high a (omega arith) h.order (between low high) (between low (end_of r)) (between (end_of r) high) refl (omega arith) refl (omega arith) refl
      (omega arith) in
      let second : covers (between low (end_of r)) a ≡ covers (between low r.start) a + covers r a =
      covers-split low r.start (end_of r) a l.order (omega arith) (between low (end_of r)) (between low r.start) r refl (omega arith) refl (omega arith) refl refl in
      omega (arith, l.cover a, h.cover a, first, second)

  -- and is no shorter than the range
  pub IsIn-join : (f : Range) × IsIn f (join r free) × (r.len ≤ f.len)
  IsIn-join =
      let low = option_map_or (λ f. f.start) (find (ends_at r.start) free) r.start in
      let high = option_map_or end_of (find (starts_at (end_of r)) (without (ends_at r.start) free)) (end_of r) in
      (between low high, inl refl, omega (arith, left.order, right.order))

  pub IsSound-join : IsSound (join r free)
  IsSound-join =
      let low = option_map_or (λ f. f.start) (find (ends_at r.start) free) r.start in
      let high = option_map_or end_of (find (starts_at (end_of r)) (without (ends_at r.start) free)) (end_of r) in
      let l = left in
      let h = right in
      let others = IsSound-without (starts_at (end_of r)) (without (ends_at r.start) free) (IsSound-without (ends_at r.start) free sound) in
      let union_end : end_of (between low high) ≡ high = omega (arith, l.order, h.order) in
      record {
        whole = λ f. elim [
          | inl same ↦ subst (λ g. IsWhole g × (0 < g.len)) (sym same)
              (record { start = l.whole; len = omega (arith, l.whole, h.whole, l.order, h.order) }, omega (arith, l.order, h.order))
          | inr i ↦ others.whole f i
        ];
        apart = λ f g hf hg touch. elim hf [
          | inl f_is ↦
              let f_end : end_of f ≡ high = ap end_of f_is ∙ union_end in
              elim hg [
                | inl g_is ↦ let g_start : g.start ≡ low = ap (λ x. x.start) g_is in absurd (omega (arith, l.order, h.order))
                | inr j ↦ h.starts g j (sym f_end ∙ touch)
              ]
          | inr i ↦ elim hg [
            | inl g_is ↦ l.ends f (IsIn-without (starts_at (end_of r)) f (without (ends_at r.start) free) i) (touch ∙ ap (λ x. x.start) g_is)
            | inr j ↦ others.apart f g i j touch
          ]
        ];
      }
