-- What a step leaves of the chunks.
use Rattle.std.specs.Option.{option_map_or}
use Rattle.std.proofs.Common.{◌≡◌, ℕ, zero, suc, ◌+◌, ◌*◌, ◌/◌, ◌%◌, ◌≤◌, ◌⊎◌, Bool, List, [], ◌∷◌, Option, Some, None, find, arith}
use Rattle.std.proofs.Common.{refl, sym, ◌∙◌, ap, subst, inl, inr}
use Rattle.std.proofs.lemmas.Bool.Decides.{nat_tests}
use Rattle.std.proofs.lemmas.Bool.{eqb-true}
use Rattle.rlsf_base.specs.declared.memory.range.Range.{Range}
use Rattle.rlsf_base.specs.Range.{end_of, range_at}
use Rattle.rlsf_model_sizes.specs.Sizes.{max_pool_size}
use Rattle.rlsf_model.specs.Allocate.{Allocates}
use Rattle.rlsf_model.specs.Insert.{cut, aligned_part, with_chunks, extended, appended, Inserts, Appends, grown}
use Rattle.rlsf_model.specs.Join.{ends_at}
use Rattle.rlsf_model.specs.Laws.{IsChunkKept, ChunksStay, InsertedChunksLieInRange}
use Rattle.rlsf_model.specs.Lists.{IsIn, without}
use Rattle.rlsf_model.specs.Reallocate.{Plan, plan, ReallocatesBy, Reallocates}
use Rattle.rlsf_model.specs.Release.{Deallocates}
use Rattle.rlsf_model.specs.Run.{insert, append, allocate, reallocate, remove, trim, Fills}
use Rattle.rlsf_model.specs.State.{State, Used}
use Rattle.rlsf_model.proofs.Coverage.{find-some}
use Rattle.rlsf_model.proofs.Cuts.{IsIn-cut_within}
use Rattle.rlsf_model.proofs.Names.{with_chunk}

-- without the element that was found, each other one is left
pub IsIn-without_found : {A : Type 0} (p : A → Bool) (x y : A) (xs : List A) → find p xs ≡ Some x → IsIn y xs → (y ≡ x) ⊎ IsIn y (without p xs)
IsIn-without_found p x y [] found h = absurd h
IsIn-without_found p x y (z ∷ xs) found h = grind (arith, nat_tests, IsIn-without_found p x y xs)

-- more chunks leave the old ones
pub IsIn-with_chunks_old : (c : Range) (cs : List Range) (r : State) → IsIn c r.chunks → IsIn c (with_chunks cs r).chunks
IsIn-with_chunks_old c [] r i = i
IsIn-with_chunks_old c (d ∷ cs) r i = IsIn-with_chunks_old c cs (with_chunk d r) (inr i)

module _ (c : Range) (s t : State) (i : IsIn c s.chunks) where
  stays : (r : State) → IsIn c r.chunks → t ≡ r → IsChunkKept c t
  stays r j after = (c, subst (λ x. IsIn c x.chunks) (sym after) j, refl, inl refl)

  grown_kept : (at n : ℕ) → 32 ≤ n → (o : Option Range) → find (ends_at at) s.chunks ≡ o → IsChunkKept c (option_map_or (λ c. grown c n s) o s)
  grown_kept at n long None found = (c, i, refl, inl refl)
  grown_kept at n long (Some d) found =
      let ends : end_of d ≡ at = eqb-true (end_of d) at (find-some (ends_at at) d s.chunks found).1 in
      elim (IsIn-without_found (ends_at (end_of d)) d c s.chunks (subst (λ a. find (ends_at a) s.chunks ≡ Some d) (sym ends) found) i) [
        | inl same ↦
            let start : c.start ≡ d.start = ap (λ r. r.start) same in
            let len : c.len ≡ d.len = ap (λ r. r.len) same in
            (range_at d.start (d.len + n), inl refl, sym start, inr (omega arith))
        | inr j ↦ (c, inr j, refl, inl refl)
      ]

  extended_kept : (at n : ℕ) → n % 32 ≡ 0 → IsChunkKept c (extended at n s)
  extended_kept at zero whole = (c, i, refl, inl refl)
  extended_kept at (suc n) whole = grown_kept at (suc n) (omega arith) (find (ends_at at) s.chunks) refl

  appended_kept : (o : Option ℕ) (r : Range) → IsChunkKept c (appended o r s)
  appended_kept None r = extended_kept r.start (r.len / 32 * 32) (omega arith)
  appended_kept (Some most) r = (c, IsIn-with_chunks_old c (cut (Some most) (aligned_part r)) s i, refl, inl refl)

  allocate_kept : (sllen size align : ℕ) (reply : Option ℕ) → Allocates sllen s size align reply t → IsChunkKept c t
  allocate_kept sllen size align None step = stays s i step.1
  allocate_kept sllen size align (Some addr) step = stays _ i step.after

  reallocate_kept : (sllen size : ℕ) (u : Used) (o : Option Plan) (reply : Option ℕ) → ReallocatesBy sllen s u size o reply t → IsChunkKept c t
  reallocate_kept sllen size u (Some p) None step = absurd step
  reallocate_kept sllen size u (Some p) (Some addr) step = stays _ i step.after
  reallocate_kept sllen size u None None step = stays s i step.1
  reallocate_kept sllen size u None (Some addr) step =
      stays _ (subst (λ x. IsIn c x.chunks) (sym step.allocated.after) i) step.released.after

pub chunks_stay : ChunksStay
chunks_stay fllen sllen s t (insert r reply) c lasts step i = stays c s t i _ (IsIn-with_chunks_old c (cut (max_pool_size fllen) (aligned_part r)) s i) step.after
chunks_stay fllen sllen s t (append r reply) c lasts step i = subst (IsChunkKept c) (sym step.after) (appended_kept c s t i (max_pool_size fllen) r)
chunks_stay fllen sllen s t (allocate size align reply) c lasts step i = allocate_kept c s t i sllen size align reply step
chunks_stay fllen sllen s t (reallocate addr size reply) c lasts step i = reallocate_kept c s t i sllen size step.block (plan s step.block size) reply step.step
chunks_stay fllen sllen s t (remove r) c lasts step i = absurd (lasts tt)
chunks_stay fllen sllen s t (trim count) c lasts step i = absurd step
chunks_stay fllen sllen s t e c lasts step i = stays c s t i _ i step.after

-- ---- steps that change no chunk

pub chunks-allocated : (sllen : ℕ) (s t : State) (size align : ℕ) (reply : Option ℕ) → Allocates sllen s size align reply t → t.chunks ≡ s.chunks
chunks-allocated sllen s t size align o step = grind arith

pub chunks-deallocated : (s t : State) (addr : ℕ) → Deallocates s addr t → t.chunks ≡ s.chunks
chunks-deallocated s t addr step = ap (λ x. x.chunks) step.after

pub chunks-reallocated : (sllen : ℕ) (s t : State) (addr size : ℕ) (reply : Option ℕ) → Reallocates sllen s addr size reply t → t.chunks ≡ s.chunks
chunks-reallocated sllen s t addr size reply step = go (plan s step.block size) reply step.step
  where
    go : (o : Option Plan) (q : Option ℕ) → ReallocatesBy sllen s step.block size o q t → t.chunks ≡ s.chunks
    go o o' by = grind arith

pub chunks-filled : (s t : State) (addr : ℕ) (bytes : List ℕ) → Fills s addr bytes t → t.chunks ≡ s.chunks
chunks-filled s t addr bytes step = ap (λ x. x.chunks) step.after

-- ---- what an insert makes

pub IsIn-with_chunks : (c : Range) (cs : List Range) (r : State) → IsIn c (with_chunks cs r).chunks → IsIn c cs ⊎ IsIn c r.chunks
IsIn-with_chunks c [] r i = inr i
IsIn-with_chunks c (d ∷ cs) r i = grind (arith, IsIn-with_chunks c cs (with_chunk d r) i)

pub inserted_chunks_lie_in_range : InsertedChunksLieInRange
inserted_chunks_lie_in_range fllen s t r reply c step i =
    let cs = cut (max_pool_size fllen) (aligned_part r) in
    elim (IsIn-with_chunks c cs s (subst (λ x. IsIn c x.chunks) step.after i)) [
      | inl new ↦ let (from, to, some) = IsIn-cut_within fllen (aligned_part r) c new in inr (omega arith, omega arith)
      | inr old ↦ inl old
    ]

-- ---- inserted memory leaves the used blocks

used-with_chunks : (cs : List Range) (s : State) → (with_chunks cs s).used ≡ s.used
used-with_chunks [] s = refl
used-with_chunks (c ∷ cs) s = used-with_chunks cs (with_chunk c s)

used-grown_if : (o : Option Range) (n : ℕ) (s : State) → (option_map_or (λ c. grown c n s) o s).used ≡ s.used
used-grown_if o n s = grind arith

used-extended : (at n : ℕ) (s : State) → (extended at n s).used ≡ s.used
used-extended at n' s = grind (arith, used-grown_if)

used-appended_by : (o : Option ℕ) (r : Range) (s : State) → (appended o r s).used ≡ s.used
used-appended_by o r s = grind (arith, used-extended, used-with_chunks)

pub used-inserted : (fllen : ℕ) (s t : State) (r : Range) (reply : Option ℕ) → Inserts fllen s r reply t → t.used ≡ s.used
used-inserted fllen s t r reply step = ap (λ x. x.used) step.after ∙ used-with_chunks (cut (max_pool_size fllen) (aligned_part r)) s

pub used-appended : (fllen : ℕ) (s t : State) (r : Range) (reply : ℕ) → Appends fllen s r reply t → t.used ≡ s.used
used-appended fllen s t r reply step = ap (λ x. x.used) step.after ∙ used-appended_by (max_pool_size fllen) r s
