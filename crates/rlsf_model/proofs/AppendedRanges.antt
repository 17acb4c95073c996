-- What an append leaves of the bytes that chunks have.
use Rattle.std.specs.Option.{option_map_or}
use Rattle.std.proofs.Common.{◌≡◌, ℕ, zero, suc, ◌+◌, ◌*◌, ◌/◌, ◌≤◌, Option, Some, None, find, arith, refl, sym, ◌∙◌, ap, subst, inl, inr}
use Rattle.std.proofs.lemmas.Bool.{eqb-true}
use Rattle.rlsf_base.specs.declared.memory.range.Range.{Range}
use Rattle.rlsf_base.specs.Range.{AreApart, end_of, range_at}
use Rattle.rlsf_model_sizes.specs.Sizes.{max_pool_size}
use Rattle.rlsf_model.specs.Insert.{aligned_part, appended, Appends, bytes_taken, cut, extended, IsUntouched, with_chunks, grown}
use Rattle.rlsf_model.specs.Join.{ends_at}
use Rattle.rlsf_model.specs.State.{State}
use Rattle.rlsf_model.specs.WellFormed.{covers, coverage, itself}
use Rattle.rlsf_model.proofs.Coverage.{covers-before, covers-behind, covers-split, coverage-without, find-some}
use Rattle.rlsf_model.proofs.Untouched.{untouched_inserted}

-- a chunk that grows gets no bytes but those behind it
pub coverage-extended : (at n : ℕ) (s : State) (a : ℕ) → coverage itself (extended at n s).chunks a ≤ covers (range_at at n) a + coverage itself s.chunks a
coverage-extended at zero s a = omega arith
coverage-extended at (suc n) s a = go (find (ends_at at) s.chunks) refl
  where
    go : (o : Option Range) → find (ends_at at) s.chunks ≡ o
        → coverage itself (option_map_or (λ c. grown c (suc n) s) o s).chunks a ≤ covers (range_at at (suc n)) a + coverage itself s.chunks a
    go None e = omega arith
    go (Some c) e =
        let ends : end_of c ≡ at = eqb-true (end_of c) at (find-some (ends_at at) c s.chunks e).1 in
        let found : find (ends_at (end_of c)) s.chunks ≡ Some c = subst (λ b. find (ends_at b) s.chunks ≡ Some c) (sym ends) e in
        let longer = range_at c.start (c.len + suc n) in
        omega (
          arith,
          covers-split c.start (end_of c) (end_of longer) a (omega arith) (omega arith) longer c (range_at at (suc n)) refl refl refl refl (sym ends) (omega (arith, ends)),
          coverage-without itself (ends_at (end_of c)) c s.chunks a found,
        )

-- a range that an append's doesn't overlap stays untouched
pub untouched_appended : (fllen : ℕ) (s t : State) (r : Range) (reply : ℕ) → Appends fllen s r reply t → (q : Range) → IsUntouched s.chunks q → AreApart r q
    → IsUntouched t.chunks q
unfolding IsUntouched
untouched_appended fllen s t r reply step q clear apart = by (max_pool_size fllen) refl
  where
    longer : (n : ℕ) → n ≤ r.len → IsUntouched (extended r.start n s).chunks q
    longer n fits a from to =
        let off : covers (range_at r.start n) a ≡ 0 = elim apart [
          | inl before ↦ covers-behind (range_at r.start n) a (omega arith)
          | inr behind ↦ covers-before (range_at r.start n) a (omega arith)
        ] in
        omega (arith, coverage-extended r.start n s a, off, clear a from to)

    by : (o : Option ℕ) → max_pool_size fllen ≡ o → IsUntouched t.chunks q
    by None unlimited = subst (λ u. IsUntouched u.chunks q) (sym (step.after ∙ ap (λ o. appended o r s) unlimited)) (longer (r.len / 32 * 32) (omega arith))
    by (Some most) limited =
        let after : t ≡ with_chunks (cut (Some most) (aligned_part r)) s = step.after ∙ ap (λ o. appended o r s) limited in
        let chunks : t ≡ with_chunks (cut (max_pool_size fllen) (aligned_part r)) s = after ∙ ap (λ o. with_chunks (cut o (aligned_part r)) s) (sym limited) in
        untouched_inserted fllen s t r (bytes_taken r.start (cut (max_pool_size fllen) (aligned_part r))) (record { answer = refl; after = chunks }) q clear apart
