-- Inserting memory behind a chunk leaves a state well-formed.
use Rattle.std.specs.Option.{option_map_or}
use Rattle.std.proofs.Common.{◌≡◌, ℕ, zero, suc, ◌+◌, ◌-◌, ◌*◌, ◌/◌, ◌%◌, ◌^◌, ◌<◌, ◌≤◌, Option, Some, None, find, arith, refl, sym}
use Rattle.std.proofs.Common.{◌∙◌, subst, inl, inr}
use Rattle.std.proofs.lemmas.Bool.{eqb-true}
use Rattle.std.proofs.Math.Pow.{pow_mono}
use Rattle.rlsf_base.specs.declared.memory.range.Range.{Range}
use Rattle.rlsf_base.specs.Range.{end_of, range_at}
use Rattle.rlsf_model_sizes.specs.Sizes.{max_pool_size}
use Rattle.rlsf_base.proofs.SizeClasses.Reach.{IsValidClass-class_of}
use Rattle.rlsf_model.specs.Insert.{cut, aligned_part, with_chunks, IsFresh, grown, extended, appended, Appends}
use Rattle.rlsf_model.specs.Join.{ends_at}
use Rattle.rlsf_model.specs.Lists.{without}
use Rattle.rlsf_model.specs.State.{State}
use Rattle.rlsf_model.specs.WellFormed.{covers, coverage, itself, last_bytes, IsWhole, IsChunk, IsWellFormed}
use Rattle.rlsf_model.proofs.Coverage.{inside, before, behind, where_is, covers-split, coverage-without, find-some, IsIn-without}
use Rattle.rlsf_model.proofs.Cuts.{max_pool-cases}
use Rattle.rlsf_model.proofs.Insertions.{AreNew-cut, IsWellFormed-with_chunks}
use Rattle.rlsf_model.proofs.Joins.{coverage-join, IsSound-join}
use Rattle.rlsf_model.proofs.Releases.{IsSound-free}
use Rattle.rlsf_model.proofs.Tiling.{IsWellFormed-from}

module _ {fllen sllen : ℕ} {memory : Range} {s : State} (w : IsWellFormed fllen sllen memory s) (r : Range) (fresh : IsFresh memory s r) where
  -- a chunk that ends where a fresh range begins grows into it
  pub IsWellFormed-grown : (c : Range) (n : ℕ) → 64 ≤ 5 + fllen → 0 < n → n % 32 ≡ 0 → n ≤ r.len → end_of c ≡ r.start
      → find (ends_at (end_of c)) s.chunks ≡ Some c → IsWellFormed fllen sllen memory (grown c n s)
  IsWellFormed-grown c n large some n32 fits ends found =
      let is = find-some (ends_at (end_of c)) c s.chunks found in
      let chunk = w.chunks c is.0 in
      let (c_from, c_to) = chunk.lies_in in
      let (r_from, r_to) = fresh.lies_in in
      let room = chunk.has_room in
      let whole = chunk.whole in
      let c' = range_at c.start (c.len + n) in
      let more = range_at (end_of c - 32) n in
      let more_whole : IsWhole more = record { start = omega (arith, whole.start, whole.len); len = n32 } in
      let sound = IsSound-join more s.free more_whole some (IsSound-free w) in
      let wide : 2 ^ 64 ≤ 2 ^ (5 + fllen) = pow_mono {i = 64} large in
      let addressable = w.addressable in
      let new_chunk : IsChunk fllen sllen memory c' = record {
        whole = record { start = whole.start; len = omega (arith, whole.len) };
        lies_in = (c_from, omega arith);
        has_room = omega arith;
        valid = (IsValidClass-class_of sllen (c'.len - 32) (omega arith) fllen).1 (omega arith);
      } in
      let rest = without (ends_at (end_of c)) s.chunks in
      let added = range_at (end_of c) n in
      let longer = λ (a : ℕ). covers-split c.start (end_of c) (end_of c') a (omega arith) (omega arith) c' c added refl refl refl refl refl (omega arith) in
      let chunks_out = λ (a : ℕ). coverage-without itself (ends_at (end_of c)) c s.chunks a found in
      let last_out = λ (a : ℕ). coverage-without last_bytes (ends_at (end_of c)) c s.chunks a found in
      let span = range_at (end_of c - 32) (n + 32) in
      let span_old =
      λ (a : ℕ). covers-split (end_of c - 32) (end_of c) (end_of c + n) a (omega arith) (omega arith) span (last_bytes c) added refl (omega arith) refl (omega arith) refl
      refl in
      let span_new =
      λ (a : ℕ). covers-split (end_of c - 32) (end_of c' - 32) (end_of c + n) a (omega arith) (omega arith) span more (last_bytes c') refl (omega arith) refl (omega arith)
      refl (omega arith) in
      let clear : (a : ℕ) → covers added a + coverage itself s.chunks a ≤ 1 = λ a. elim (where_is added a) [
        | inside one low high ↦ omega (arith, fresh.apart a (omega arith) (omega arith))
        | before none low ↦ omega (arith, w.disjoint a)
        | behind none high ↦ omega (arith, w.disjoint a)
      ] in
      IsWellFormed-from (record {
        rows = w.rows;
        row_length = w.row_length;
        addressable = w.addressable;
        chunks = λ d. elim [ inl same ↦ subst (IsChunk fllen sllen memory) (sym same) new_chunk | inr i ↦ w.chunks d (IsIn-without (ends_at (end_of c)) d s.chunks i) ];
        used = w.used;
        whole = sound.whole;
        disjoint = λ a. omega (arith, longer a, chunks_out a, clear a);
        tiled = λ a. omega (arith, longer a, chunks_out a, last_out a, span_old a, span_new a, coverage-join more s.free more_whole some (IsSound-free w) a, w.tiled a);
        apart = sound.apart;
      })

  IsWellFormed-extended : (n : ℕ) → 64 ≤ 5 + fllen → n % 32 ≡ 0 → n ≤ r.len → IsWellFormed fllen sllen memory (extended r.start n s)
  IsWellFormed-extended zero large n32 fits = w
  IsWellFormed-extended (suc n) large n32 fits = go (find (ends_at r.start) s.chunks) refl
    where
      go : (o : Option Range) → find (ends_at r.start) s.chunks ≡ o → IsWellFormed fllen sllen memory (option_map_or (λ c. grown c (suc n) s) o s)
      go None e = w
      go (Some c) e =
          let ends : end_of c ≡ r.start = eqb-true (end_of c) r.start (find-some (ends_at r.start) c s.chunks e).1 in
          IsWellFormed-grown c (suc n) large (omega arith) n32 fits ends (subst (λ a. find (ends_at a) s.chunks ≡ Some c) (sym ends) e)

  IsWellFormed-appended : (o : Option ℕ) → max_pool_size fllen ≡ o → IsWellFormed fllen sllen memory (appended o r s)
  IsWellFormed-appended None e = elim (max_pool-cases fllen) [
    | inl some ↦ let bad : Some (2 ^ (5 + fllen)) ≡ None = sym some ∙ e in absurd (cc)
    | inr (none, large) ↦ IsWellFormed-extended (r.len / 32 * 32) large (omega arith) (omega arith)
  ]
  IsWellFormed-appended (Some most) e =
      subst (λ o. IsWellFormed fllen sllen memory (with_chunks (cut o (aligned_part r)) s)) e
      (IsWellFormed-with_chunks (cut (max_pool_size fllen) (aligned_part r)) s w (AreNew-cut w r fresh))

  -- an append keeps a state well-formed
  pub Appends-keeps : (reply : ℕ) (t : State) → Appends fllen s r reply t → IsWellFormed fllen sllen memory t
  Appends-keeps reply t step = subst (IsWellFormed fllen sllen memory) (sym step.after) (IsWellFormed-appended (max_pool_size fllen) refl)
