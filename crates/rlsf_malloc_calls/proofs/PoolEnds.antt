-- The bytes of a range before and behind the chunks that an insert or an append makes of it.
use Rattle.std.proofs.Common.{◌≡◌, ℕ, zero, suc, ◌+◌, ◌-◌, ◌*◌, ◌/◌, ◌<◌, ◌≤◌, ◌⊎◌, List, [], ◌∷◌, Option, Some, None, arith, refl, sym, ap, subst, ◌∙◌, inl, inr}
use Rattle.std.proofs.lemmas.Bool.{cases_lt}
use Rattle.std.proofs.lemmas.Option.{none-some}
use Rattle.rlsf_base.specs.Addr.{reply_of}
use Rattle.rlsf_base.specs.declared.memory.range.Range.{Range}
use Rattle.rlsf_base.specs.Range.{end_of, range_at}
use Rattle.rlsf_model_sizes.specs.Rounding.{round32}
use Rattle.rlsf_model_sizes.specs.Sizes.{max_pool_size}
use Rattle.rlsf_model.specs.Insert.{Appends, Inserts, aligned_part, appended, appended_bytes, bytes_taken, cut, end_of_last, extended, with_chunks}
use Rattle.rlsf_model.specs.Lists.{IsIn}
use Rattle.rlsf_model.specs.State.{State}
use Rattle.rlsf_model.specs.WellFormed.{coverage, itself}
use Rattle.rlsf_model.proofs.AppendedRanges.{coverage-extended}
use Rattle.rlsf_model.proofs.Coverage.{covers-before, covers-behind}
use Rattle.rlsf_model.proofs.Cuts.{IsIn-cut_within, coverage-cut, coverage-cut_last}
use Rattle.rlsf_model.proofs.Insertions.{IsWhole-aligned_part}
use Rattle.rlsf_model.proofs.Untouched.{coverage-with_chunks}

reply-is : (n k : ℕ) → reply_of n ≡ Some k → n ≡ k
reply-is zero k e = absurd (none-some k e)
reply-is (suc n) k e = cc

reply-none : (n : ℕ) → reply_of n ≡ None → n ≡ 0
reply-none zero e = refl
reply-none (suc n) e = absurd (none-some (suc n) (sym e))

ends_at_one : (c : Range) (cs : List Range) → (d : Range) × IsIn d (c ∷ cs) × (end_of d ≡ end_of_last (end_of c) cs)
ends_at_one c [] = (c, inl refl, refl)
ends_at_one c (d ∷ ds) = let (x, is_in, ends) = ends_at_one d ds in (x, inr is_in, ends)

module _ (fllen : ℕ) (r : Range) where
  abbrev cs : List Range
  cs = cut (max_pool_size fllen) (aligned_part r)

  -- how many bytes are taken, as an insert and as an append say it
  taken-total : (n : ℕ) → reply_of n ≡ bytes_taken r.start cs → n ≡ (end_of_last r.start cs - r.start)
  taken-total n told = go cs told
    where
      go : (ds : List Range) → reply_of n ≡ bytes_taken r.start ds → n ≡ (end_of_last r.start ds - r.start)
      go [] e = let none = reply-none n e in omega (arith, none)
      go (d ∷ ds) e = reply-is n _ e

  -- no more than there are
  total-few : (end_of_last r.start cs - r.start) ≤ r.len
  total-few = go cs refl
    where
      go : (ds : List Range) → cs ≡ ds → (end_of_last r.start ds - r.start) ≤ r.len
      go [] is = omega arith
      go (d ∷ ds) is =
          let (c, i, ends) = ends_at_one d ds in
          let (from, to, some) = IsIn-cut_within fllen (aligned_part r) c (subst (IsIn c) (sym is) i) in
          omega (arith, ends, from, to, some)

  -- up to behind the first multiple of 32, if there are some
  total-past : (n : ℕ) → n ≡ (end_of_last r.start cs - r.start) → (n ≡ 0 → ⊥) → round32 r.start ≤ r.start + n
  total-past n told some = go cs refl
    where
      go : (ds : List Range) → cs ≡ ds → round32 r.start ≤ r.start + n
      go [] is = absurd (some (told ∙ ap (λ l. (end_of_last r.start l - r.start)) is ∙ omega arith))
      go (d ∷ ds) is =
          let (c, i, ends) = ends_at_one d ds in
          let (from, to, long) = IsIn-cut_within fllen (aligned_part r) c (subst (IsIn c) (sym is) i) in
          let total : (end_of_last r.start cs - r.start) ≡ end_of_last (end_of d) ds - r.start = ap (λ l. (end_of_last r.start l - r.start)) is in
          omega (arith, ends, from, told, total)

  module _ (s : State) (a : ℕ) (clear : coverage itself s.chunks a ≡ 0) where
    -- an address before or behind the chunks is in none
    chunks-beside : (a < round32 r.start) ⊎ (r.start + (end_of_last r.start cs - r.start) ≤ a) → coverage itself (with_chunks cs s).chunks a ≡ 0
    chunks-beside (inl low) =
        let part = coverage-cut (aligned_part r) (IsWhole-aligned_part r) (max_pool_size fllen) a in
        omega (arith, coverage-with_chunks cs s a, clear, part, covers-before (aligned_part r) a low)
    chunks-beside (inr high) = omega (arith, coverage-with_chunks cs s a, clear, go cs refl)
      where
        go : (ds : List Range) → cs ≡ ds → coverage itself cs a ≡ 0
        go [] is = ap (λ l. coverage itself l a) is
        go (d ∷ ds) is =
            let last = range_at (aligned_part r).start (end_of_last (aligned_part r).start cs - (aligned_part r).start) in
            let few = coverage-cut_last (max_pool_size fllen) (aligned_part r) a in
            let ends : end_of_last (aligned_part r).start cs ≡ end_of_last (end_of d) ds = ap (λ l. end_of_last (aligned_part r).start l) is in
            let total : (end_of_last r.start cs - r.start) ≡ end_of_last (end_of d) ds - r.start = ap (λ l. (end_of_last r.start l - r.start)) is in
            elim (cases_lt a (aligned_part r).start) [
              | inl low ↦ omega (arith, few, covers-before last a low)
              | inr from ↦ omega (arith, few, covers-behind last a (omega (arith, ends, total, high, from)))
            ]

  module _ (s t : State) (n : ℕ) where
    pub inserted-few : Inserts fllen s r (reply_of n) t → n ≤ r.len
    inserted-few step = omega (arith, taken-total n step.answer, total-few)

    pub inserted-past : Inserts fllen s r (reply_of n) t → (n ≡ 0 → ⊥) → round32 r.start ≤ r.start + n
    inserted-past step = total-past n (taken-total n step.answer)

    pub inserted-beside : Inserts fllen s r (reply_of n) t → (a : ℕ) → coverage itself s.chunks a ≡ 0 → (a < round32 r.start) ⊎ (r.start + n ≤ a)
        → coverage itself t.chunks a ≡ 0
    inserted-beside step a clear beside =
        subst (λ u. coverage itself u.chunks a ≡ 0) (sym step.after)
        (chunks-beside s a clear (subst (λ m. (a < round32 r.start) ⊎ (r.start + m ≤ a)) (taken-total n step.answer) beside))

    appended-by : (o : Option ℕ) → max_pool_size fllen ≡ o → Appends fllen s r n t
        → (n ≤ r.len) × ((a : ℕ) → coverage itself s.chunks a ≡ 0 → r.start + n ≤ a → coverage itself t.chunks a ≡ 0)
    appended-by None unlimited step =
        let told : n ≡ r.len / 32 * 32 = step.answer ∙ ap (λ o. appended_bytes o r) unlimited in
        let after : t ≡ extended r.start (r.len / 32 * 32) s = step.after ∙ ap (λ o. appended o r s) unlimited in (
          omega (arith, told),
          λ a clear behind.
              let new : coverage itself t.chunks a ≡ coverage itself (extended r.start (r.len / 32 * 32) s).chunks a = ap (λ u. coverage itself u.chunks a) after in
              let off = covers-behind (range_at r.start (r.len / 32 * 32)) a (omega (arith, told, behind)) in
              omega (arith, new, coverage-extended r.start (r.len / 32 * 32) s a, off, clear),
        )
    appended-by (Some most) limited step =
        let told : n ≡ (end_of_last r.start (cut (Some most) (aligned_part r)) - r.start) = step.answer ∙ ap (λ o. appended_bytes o r) limited in
        let same : end_of_last r.start cs - r.start ≡ end_of_last r.start (cut (Some most) (aligned_part r)) - r.start =
        ap (λ o. end_of_last r.start (cut o (aligned_part r)) - r.start) limited in
        let after : t ≡ with_chunks (cut (Some most) (aligned_part r)) s = step.after ∙ ap (λ o. appended o r s) limited in
        let chunks : t ≡ with_chunks cs s = after ∙ ap (λ o. with_chunks (cut o (aligned_part r)) s) (sym limited) in (
          omega (arith, told, same, total-few),
          λ a clear behind.
              subst (λ u. coverage itself u.chunks a ≡ 0) (sym chunks) (chunks-beside s a clear (inr (omega (arith, told, same, behind)))),
        )

    pub appended-few : Appends fllen s r n t → n ≤ r.len
    appended-few step = (appended-by (max_pool_size fllen) refl step).0

    pub appended-beside : Appends fllen s r n t → (a : ℕ) → coverage itself s.chunks a ≡ 0 → r.start + n ≤ a → coverage itself t.chunks a ≡ 0
    appended-beside step = (appended-by (max_pool_size fllen) refl step).1
