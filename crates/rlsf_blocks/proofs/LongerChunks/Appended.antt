-- What an append does, by the greatest length of a chunk.
use Rattle.std.proofs.Common.{◌≡◌, ℕ, ◌+◌, ◌*◌, ◌/◌, ◌^◌, ◌<◌, true, false, List, [], ◌∷◌, length, Option, Some, None, find, ◌-◌}
use Rattle.std.proofs.Common.{true≢false, arith, refl, sym, ◌∙◌, ap, subst, inl, inr}
use Rattle.std.proofs.lemmas.Bool.{eq-eqb, eqb-true}
use Rattle.std.specs.Option.{is_some}
use Rattle.std.specs.Prelude.{if◌then◌else◌}
use Rattle.rlsf_base.specs.declared.memory.range.Range.{Range}
use Rattle.rlsf_base.specs.Range.{end_of}
use Rattle.rlsf_model_sizes.specs.Sizes.{max_pool_size}
use Rattle.rlsf_base.specs.Space.{Space}
use Rattle.rlsf_table.specs.Counts.{Costs}
use Rattle.rlsf_model.specs.Insert.{aligned_part, appended, appended_bytes, bytes_taken, cut, extended, grown, Appends, Inserts, IsNext, end_of_last}
use Rattle.rlsf_model.specs.Join.{ends_at}
use Rattle.rlsf_model.specs.State.{State}
use Rattle.rlsf_model.proofs.Coverage.{find-none, find-some}
use Rattle.rlsf_model.proofs.Cuts.{max_pool-cases}
use Rattle.rlsf_blocks.specs.Steps.Extension.{IsExtensible}

-- ---- whether chunks have a greatest length

pub some_most : (fllen : ℕ) → is_some (max_pool_size fllen) ≡ true → max_pool_size fllen ≡ Some (2 ^ (5 + fllen))
some_most fllen is = elim (max_pool-cases fllen) [ inl some ↦ some | inr (none, large) ↦ absurd (true≢false (sym is ∙ ap is_some none)) ]

pub no_most : (fllen : ℕ) → is_some (max_pool_size fllen) ≡ false → max_pool_size fllen ≡ None
no_most fllen is = elim (max_pool-cases fllen) [ inl some ↦ absurd (true≢false (sym (ap is_some some) ∙ is)) | inr (none, large) ↦ none ]

-- what an append costs, where the range becomes chunks of its own
pub Costs-cut : (fllen : ℕ) (r : Range) {m n : Space} → is_some (max_pool_size fllen) ≡ true → Costs m n (13 * length (cut (max_pool_size fllen) (aligned_part r))) 0
    → Costs m n (if is_some (max_pool_size fllen) then 13 * length (cut (max_pool_size fllen) (aligned_part r)) else 34) 0
Costs-cut fllen r {m} {n} is costs = let of = 13 * length (cut (max_pool_size fllen) (aligned_part r)) in subst (λ b. Costs m n (if b then of else 34) 0) (sym is) costs

-- and where a chunk grows
pub Costs-grown : (fllen : ℕ) (r : Range) {m n : Space} → is_some (max_pool_size fllen) ≡ false → Costs m n 34 0
    → Costs m n (if is_some (max_pool_size fllen) then 13 * length (cut (max_pool_size fllen) (aligned_part r)) else 34) 0
Costs-grown fllen r {m} {n} is costs = let of = 13 * length (cut (max_pool_size fllen) (aligned_part r)) in subst (λ b. Costs m n (if b then of else 34) 0) (sym is) costs

-- ---- chunks of their own

-- the number, or 0 where there is none
abbrev pub or_zero : Option ℕ → ℕ
or_zero None = 0
or_zero (Some n) = n

bytes_taken-total : (at : ℕ) (cs : List Range) → or_zero (bytes_taken at cs) ≡ (end_of_last at cs - at)
bytes_taken-total at [] = omega arith
bytes_taken-total at (c ∷ cs) = refl

-- where chunks have a greatest length, an append is an insertion
pub Appends-inserted : (fllen most : ℕ) (s : State) (r : Range) (reply : Option ℕ) (number : ℕ) (t : State) → max_pool_size fllen ≡ Some most → number ≡ or_zero reply
    → Inserts fllen s r reply t → Appends fllen s r number t
Appends-inserted fllen most s r reply number t limited same step = grind (arith, bytes_taken-total)

-- ---- a longer chunk

module _ (fllen : ℕ) (s : State) (r : Range) (unlimited : max_pool_size fllen ≡ None) where
  grows : (reply : ℕ) (t : State) → reply ≡ r.len / 32 * 32 → t ≡ extended r.start (r.len / 32 * 32) s → Appends fllen s r reply t
  grows reply t answer after = record { answer = answer ∙ ap (λ o. appended_bytes o r) (sym unlimited); after = after ∙ ap (λ o. appended o r s) (sym unlimited) }

  -- the chunk that is found
  pub found_chunk : (memory : Range) → 0 < r.len / 32 * 32 → IsNext memory s r → (c : Range) × IsExtensible fllen memory s c (r.len / 32 * 32) × (end_of c ≡ r.start)
  found_chunk memory some next = go (find (ends_at r.start) s.chunks) refl
    where
      go : (o : Option Range) → find (ends_at r.start) s.chunks ≡ o → (c : Range) × IsExtensible fllen memory s c (r.len / 32 * 32) × (end_of c ≡ r.start)
      go None e = absurd (true≢false (sym (eq-eqb (end_of next.chunk) r.start next.ends) ∙ find-none (ends_at r.start) next.chunk s.chunks e next.is_chunk))
      go (Some c) e =
          let ends : end_of c ≡ r.start = eqb-true (end_of c) r.start (find-some (ends_at r.start) c s.chunks e).1 in
          let (from, to) = next.fresh.lies_in in (
            c,
            record {
              unlimited = unlimited;
              found = subst (λ a. find (ends_at a) s.chunks ≡ Some c) (sym ends) e;
              some = some;
              whole = omega arith;
              fresh = record { lies_in = (omega arith, omega arith); apart = λ a low high. next.fresh.apart a (omega arith) (omega arith) };
            },
            ends,
          )

  pub Appends-grown : {memory : Range} (len : ℕ) (c : Range) → len ≡ r.len / 32 * 32 → IsExtensible fllen memory s c len → end_of c ≡ r.start
      → Appends fllen s r len (grown c len s)
  Appends-grown len c whole is ends = grind (arith, grows)
