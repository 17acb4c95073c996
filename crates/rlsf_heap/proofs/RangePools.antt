-- The pool of a range: an insertion makes it, and once it is removed no chunk overlaps the range.
use Rattle.std.proofs.Common.{◌≡◌, ℕ, ◌+◌, ◌-◌, List, [], ◌∷◌, Option, Some, None, arith, inl, inr, refl, sym, ap, subst, true, ◌∙◌, ◌<◌, ◌≤◌}
use Rattle.std.proofs.lemmas.Bool.{and_parts, cases_Bool, cases_lt, leb-true}
use Rattle.std.proofs.lemmas.Option.{none-some, same_Some}
use Rattle.std.specs.declared.num.NonZeroUsize.{NonZeroUsize}
use Rattle.std.specs.Prelude.{◌⊎◌, not}
use Rattle.rlsf_base.specs.declared.memory.range.Range.{Range}
use Rattle.rlsf_base.specs.Addr.{at, reply}
use Rattle.rlsf_base.specs.Range.{AreApart, end_of, range_at}
use Rattle.rlsf_model_sizes.specs.Sizes.{max_pool_size}
use Rattle.rlsf_base.proofs.Numbers.Roundings.{round32-le}
use Rattle.rlsf_model.specs.Insert.{Inserts, IsUntouched, aligned_part, bytes_taken, cut, end_of_last}
use Rattle.rlsf_model.specs.Lists.{IsIn}
use Rattle.rlsf_model.specs.Remove.{Removes, lies_within}
use Rattle.rlsf_model.specs.State.{State}
use Rattle.rlsf_model.specs.WellFormed.{coverage, itself}
use Rattle.rlsf_model.proofs.ChunkRows.{IsRow-inserted, IsRow-kept}
use Rattle.rlsf_model.proofs.Coverage.{IsIn-filter_from, covers-some}
use Rattle.rlsf_model.proofs.Cuts.{IsIn-cut_within, coverage-cut_last, end_of_last-cut}
use Rattle.rlsf_model.proofs.Untouched.{coverage-with_chunks}
use Rattle.rlsf_blocks.specs.Blocks.{walked}
use Rattle.rlsf_heap.specs.Lending.{HasPool, InsertsPool, KeepsPools}

-- the last chunk's end, from the number of bytes that were taken
last_end : (start from n : ℕ) (cs : List Range) → bytes_taken start cs ≡ Some n → n ≡ end_of_last from cs - start
last_end start from n [] e = absurd (none-some n e)
last_end start from n (c ∷ cs) e = sym (same_Some _ _ e)

some_taken : (start n : ℕ) (cs : List Range) → bytes_taken start cs ≡ Some n → (c : Range) × IsIn c cs
some_taken start n [] e = absurd (none-some n e)
some_taken start n (c ∷ cs) e = (c, inl refl)

-- a range in no chunk is inserted
pool_inserted : (fllen : ℕ) (s t : State) (r : Range) (n : ℕ) → 0 < fllen → IsUntouched s.chunks r → Inserts fllen s r (Some n) t → HasPool t.chunks r n
unfolding HasPool IsUntouched
pool_inserted fllen s t r n rows clear step =
    let part = aligned_part r in
    let cs = cut (max_pool_size fllen) part in
    let last = range_at part.start (end_of_last part.start cs - part.start) in
    let ends = last_end r.start part.start n cs (sym step.answer) in
    let (c, i) = some_taken r.start n cs (sym step.answer) in
    let (first, last_of, room) = IsIn-cut_within fllen part c i in (
      omega (arith, ends, first, last_of, room, (end_of_last-cut fllen part rows (omega arith)).0),
      IsRow-inserted fllen s t r n step,
      λ a low high some.
          let new : coverage itself t.chunks a ≡ coverage itself cs a + coverage itself s.chunks a =
          ap (λ u. coverage itself u.chunks a) step.after ∙ coverage-with_chunks cs s a in
          let (from, to) = covers-some last a (omega (arith, some, new, clear a low high, coverage-cut_last (max_pool_size fllen) part a)) in
          (from, omega (arith, to, ends)),
    )

-- it makes no chunk
none_taken : (start : ℕ) (cs : List Range) → bytes_taken start cs ≡ None → (a : ℕ) → coverage itself cs a ≡ 0
none_taken start [] e a = refl
none_taken start (c ∷ cs) e a = absurd (none-some (end_of_last (end_of c) cs - start) (sym e))

no_pool : (fllen : ℕ) (s t : State) (r : Range) → IsUntouched s.chunks r → Inserts fllen s r None t → HasPool t.chunks r 0
unfolding HasPool IsUntouched
no_pool fllen s t r clear step = grind (arith, round32-le, coverage-with_chunks, none_taken)

-- an address that is in a chunk afterwards was in one before, where ranges that overlap none stay so
was_covered : (s t : State) (a : ℕ) → (IsUntouched s.chunks (range_at a 1) → IsUntouched t.chunks (range_at a 1)) → 0 < coverage itself t.chunks a
    → 0 < coverage itself s.chunks a
unfolding IsUntouched
was_covered s t a stays some = grind (arith, cases_lt)

-- the pools of other ranges stay
pub pools_inserted : (fllen : ℕ) (s t : State) (r : Range) (answer : Option ℕ) → Inserts fllen s r answer t
    → ((q : Range) → IsUntouched s.chunks q → AreApart r q → IsUntouched t.chunks q) → KeepsPools s.chunks t.chunks r
unfolding HasPool
pools_inserted fllen s t r answer step stays p n pool apart = (
  pool.0,
  IsRow-kept fllen s t r (walked (range_at p.start n)) answer step pool.1,
  λ a low high some. pool.2 a low high (was_covered s t a (λ clear. stays (range_at a 1) clear (elim apart [
    | inl before ↦ inl (omega (arith, before, low))
    | inr behind ↦ inr (omega (arith, behind, high))
  ])) some),
)

pub pool_if : (s t : State) (r : Range) (answer : Option NonZeroUsize) (fllen : ℕ) → 0 < fllen → IsUntouched s.chunks r → Inserts fllen s r (reply answer) t
    → ((q : Range) → IsUntouched s.chunks q → AreApart r q → IsUntouched t.chunks q) → InsertsPool s.chunks t.chunks r answer
pool_if s t r None fllen rows clear step stays = (tt, no_pool fllen s t r clear step, pools_inserted fllen s t r None step stays)
pool_if s t r (Some n) fllen rows clear step stays = (pool_inserted fllen s t r (at n) rows clear step, tt, pools_inserted fllen s t r (Some (at n)) step stays)

-- the pool of a range is removed
pub pool_gone : (s t : State) (r : Range) (n : ℕ) → HasPool s.chunks r n → ((q : Range) → IsUntouched s.chunks q → IsUntouched t.chunks q)
    → IsUntouched t.chunks (walked (range_at r.start n)) → IsUntouched t.chunks r
unfolding HasPool IsUntouched
pool_gone s t r n pool stays gone a low high = elim (cases_lt 0 (coverage itself t.chunks a)) [
  | inl some ↦
      let (from, to) = pool.2 a low high (was_covered s t a (stays (range_at a 1)) some) in
      absurd (omega (arith, some, gone a from (omega (arith, from, to))))
  | inr none ↦ omega (arith, none)
]

-- a chunk of another range's pool isn't removed
chunk_stays : (q c : Range) (a : ℕ) → c.start ≤ a → a < end_of c → (end_of q ≤ c.start) ⊎ (a < q.start) → not (lies_within q c) ≡ true
chunk_stays q c a low high apart = grind (arith, cases_Bool, and_parts, leb-true)

pub pools_removed : (s t : State) (r : Range) (n : ℕ) → HasPool s.chunks r n → Removes s (walked (range_at r.start n)) t
    → ((q : Range) → IsUntouched s.chunks q → IsUntouched t.chunks q) → KeepsPools s.chunks t.chunks r
unfolding HasPool
pools_removed s t r n mine step stays p k pool apart =
    let q = walked (range_at r.start n) in (
      pool.0,
      λ a from to.
          let (c, i, first, low, high, last) = pool.1 a from to in
          let kept = chunk_stays q c a low high (elim apart [
            | inl before ↦ inl (omega (arith, before, mine.0, first, from, to))
            | inr behind ↦ inr (omega (arith, behind, pool.0, from, to))
          ]) in
          (c, subst (λ (u : State). IsIn c u.chunks) (sym step) (IsIn-filter_from (λ (d : Range). not (lies_within q d)) c s.chunks i kept), first, low, high, last),
      λ a low high some. pool.2 a low high (was_covered s t a (stays (range_at a 1)) some),
    )
