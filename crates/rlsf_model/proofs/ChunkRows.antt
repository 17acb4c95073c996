-- Rows of chunks over the steps.
use Rattle.std.specs.Option.{option_map_or}
use Rattle.std.proofs.Common.{◌≡◌, ◌≢◌, ℕ, zero, suc, ◌+◌, ◌-◌, ◌*◌, ◌/◌, ◌<◌, ◌≤◌, List, [], ◌∷◌, ◌++◌, Option, Some, None, find}
use Rattle.std.proofs.Common.{arith, refl, sym, ◌∙◌, ap, subst, inl, inr}
use Rattle.std.proofs.lemmas.Bool.Decides.{nat_tests}
use Rattle.std.proofs.lemmas.Bool.{cases_lt, eq-eqb, eqb-true}
use Rattle.rlsf_base.specs.declared.memory.range.Range.{Range}
use Rattle.rlsf_base.specs.Range.{end_of, range_at}
use Rattle.rlsf_model_sizes.specs.Rounding.{round32}
use Rattle.rlsf_model_sizes.specs.Sizes.{max_pool_size}
use Rattle.rlsf_model.specs.ChunkRows.{IsRow}
use Rattle.rlsf_model.specs.Insert.{adjacent, remainder, cut, aligned_part, with_chunks, end_of_last, bytes_taken, extended, appended, appended_bytes, grown}
use Rattle.rlsf_model.specs.Insert.{IsClear, Inserts, Appends}
use Rattle.rlsf_model.specs.Join.{ends_at}
use Rattle.rlsf_model.specs.Lists.{IsIn}
use Rattle.rlsf_model.specs.State.{State, between}
use Rattle.rlsf_model.specs.WellFormed.{itself, IsWellFormed}
use Rattle.rlsf_model.proofs.AddedChunks.{IsIn-with_chunks_new}
use Rattle.rlsf_model.proofs.Chunks.{IsIn-without_found, IsIn-with_chunks_old}
use Rattle.rlsf_model.proofs.Coverage.{covers-inside, coverage-IsIn, find-some, find-none}
use Rattle.rlsf_model.proofs.Cuts.{remainder-none, remainder-one}
use Rattle.rlsf_model.proofs.Orders.{one_ends}

-- ---- chunks one behind another

-- the ranges are one behind another, the first one at the address
IsAdjacent : ℕ → List Range → Type 0
IsAdjacent at [] = Unit {0}
IsAdjacent at (c ∷ cs) = (c.start ≡ at) × IsAdjacent (end_of c) cs

IsAdjacent-adjacent : (n at len : ℕ) (cs : List Range) → IsAdjacent (at + n * len) cs → IsAdjacent at (adjacent at len n ++ cs)
unfolding IsAdjacent
IsAdjacent-adjacent zero at len cs h = let same : at + zero * len ≡ at = omega arith in subst (λ a. IsAdjacent a cs) same h
IsAdjacent-adjacent (suc n) at len cs h = grind (arith, IsAdjacent-adjacent n (at + len) len cs, IsAdjacent)

IsAdjacent-remainder : (at len : ℕ) → IsAdjacent at (remainder at len)
unfolding IsAdjacent
IsAdjacent-remainder at len = grind (arith, cases_lt, remainder-none, remainder-one)

IsAdjacent-cut : (o : Option ℕ) (part : Range) → IsAdjacent part.start (cut o part)
IsAdjacent-cut o part = grind (arith, IsAdjacent-remainder, IsAdjacent-adjacent)

end_of_last-le : (at : ℕ) (cs : List Range) → IsAdjacent at cs → at ≤ end_of_last at cs
unfolding IsAdjacent
end_of_last-le at [] h = omega arith
end_of_last-le at (c ∷ cs) (start, rest) = omega (arith, end_of_last-le (end_of c) cs rest)

-- the range from low to high has the address a in a chunk of the list that lies in the range
abbrev IsInOne : List Range → ℕ → ℕ → ℕ → Type 0
IsInOne cs low high a = (c : Range) × IsIn c cs × (low ≤ c.start) × (c.start ≤ a) × (a < end_of c) × (end_of c ≤ high)

IsInOne-adjacent : (at : ℕ) (cs : List Range) → IsAdjacent at cs → (a : ℕ) → at ≤ a → a < end_of_last at cs → IsInOne cs at (end_of_last at cs) a
unfolding IsAdjacent
IsInOne-adjacent at [] h a low high = absurd (omega arith)
IsInOne-adjacent at (c ∷ cs) (start, rest) a low high = elim (cases_lt a (end_of c)) [
  | inl here ↦ (c, inl refl, omega arith, omega arith, here, end_of_last-le (end_of c) cs rest)
  | inr behind ↦ more (IsInOne-adjacent (end_of c) cs rest a behind high)
]
  where
    more : IsInOne cs (end_of c) (end_of_last (end_of c) cs) a → IsInOne (c ∷ cs) at (end_of_last (end_of c) cs) a
    more (d, i, from, low', high', to) = (d, inr i, omega arith, low', high', to)

-- ---- rows that stay

-- a row of a state is one of each state that has its chunks
pub IsRow-with : (s t : State) (p : Range) → ((c : Range) → IsIn c s.chunks → IsIn c t.chunks) → IsRow s p → IsRow t p
IsRow-with s t p stays row a low high = let (c, i, from, low', high', to) = row a low high in (c, stays c i, from, low', high', to)

-- as over each step but an insert and an append
pub IsRow-same : (s t : State) (p : Range) → t.chunks ≡ s.chunks → IsRow s p → IsRow t p
IsRow-same s t p same = IsRow-with s t p (λ c i. subst (IsIn c) (sym same) i)

IsRow-with_chunks : (s : State) (cs : List Range) (p : Range) → IsRow s p → IsRow (with_chunks cs s) p
IsRow-with_chunks s cs p = IsRow-with s (with_chunks cs s) p (λ c i. IsIn-with_chunks_old c cs s i)

-- an insert leaves the rows
pub IsRow-kept : (fllen : ℕ) (s t : State) (r p : Range) (reply : Option ℕ) → Inserts fllen s r reply t → IsRow s p → IsRow t p
IsRow-kept fllen s t r p reply step row = subst (λ x. IsRow x p) (sym step.after) (IsRow-with_chunks s (cut (max_pool_size fllen) (aligned_part r)) p row)

-- ---- the row of what is inserted

-- the chunks of an aligned part, up to the last one's end
IsRow-cut : (s : State) (o : Option ℕ) (part : Range) (a : ℕ) → part.start ≤ a → a < end_of_last part.start (cut o part)
    → IsInOne (with_chunks (cut o part) s).chunks part.start (end_of_last part.start (cut o part)) a
IsRow-cut s o part a low high =
    let (c, i, from, low', high', to) = IsInOne-adjacent part.start (cut o part) (IsAdjacent-cut o part) a low high in
    (c, (IsIn-with_chunks_new c (cut o part) s i).0, from, low', high', to)

-- the last chunk's end, from the bytes that were taken
bytes_taken-some : (start at len : ℕ) (cs : List Range) → start ≤ at → IsAdjacent at cs → bytes_taken start cs ≡ Some len → start + len ≡ end_of_last at cs
unfolding IsAdjacent
bytes_taken-some start at len l order h e = grind (arith, end_of_last-le)

-- what an insert takes is a row, from the first multiple of 32 on
pub IsRow-inserted : (fllen : ℕ) (s t : State) (r : Range) (len : ℕ) → Inserts fllen s r (Some len) t → IsRow t (between (round32 r.start) (r.start + len))
IsRow-inserted fllen s t r len step a low high =
    let part = aligned_part r in
    let cs = cut (max_pool_size fllen) part in
    let order : r.start ≤ part.start = omega arith in
    let ends : r.start + len ≡ end_of_last part.start cs = bytes_taken-some r.start part.start len cs order (IsAdjacent-cut (max_pool_size fllen) part) (sym step.answer) in
    let (c, i, from, low', high', to) = IsRow-cut s (max_pool_size fllen) part a low (omega arith) in
    (c, subst (λ x. IsIn c x.chunks) (sym step.after) i, from, low', high', omega arith)

-- ---- appends

module _ (s : State) (r p : Range) (clear : IsClear r s.chunks) (apart : end_of p ≢ r.start) (row : IsRow s p) where
  -- a chunk of the row doesn't end where the range begins: no chunk has that address
  not_at_end : (c : Range) → IsIn c s.chunks → 0 < r.len → end_of c ≡ r.start → end_of c ≤ end_of p → p.start ≤ end_of c → ⊥
  not_at_end c i some ends to from =
      let behind : end_of c < end_of p = omega arith in
      let (d, j, _, low, high, _) = row (end_of c) from behind in
      omega (arith, clear r.start (omega arith) (omega arith), coverage-IsIn itself d s.chunks r.start j, covers-inside d r.start (omega arith) (omega arith))

  grown_if-row : (n : ℕ) → 0 < r.len → (o : Option Range) → find (ends_at r.start) s.chunks ≡ o → IsRow (option_map_or (λ c. grown c n s) o s) p
  grown_if-row n some None found a low high = row a low high
  grown_if-row n some (Some d) found a low high =
      let is = find-some (ends_at r.start) d s.chunks found in
      let ends : end_of d ≡ r.start = eqb-true (end_of d) r.start is.1 in
      let (c, i, from, low', high', to) = row a low high in
      elim (IsIn-without_found (ends_at (end_of d)) d c s.chunks (subst (λ e. find (ends_at e) s.chunks ≡ Some d) (sym ends) found) i) [
        | inl same ↦
            let c_ends : end_of c ≡ r.start = ap end_of same ∙ ends in
            absurd (not_at_end c i some c_ends to (omega arith))
        | inr j ↦ (c, inr j, from, low', high', to)
      ]

  extended-row : (n : ℕ) → n ≤ r.len → IsRow (extended r.start n s) p
  extended-row zero fits = row
  extended-row (suc n) fits = grown_if-row (suc n) (omega arith) (find (ends_at r.start) s.chunks) refl

  appended-row : (o : Option ℕ) → IsRow (appended o r s) p
  appended-row None = extended-row (r.len / 32 * 32) (omega arith)
  appended-row (Some most) = IsRow-with_chunks s (cut (Some most) (aligned_part r)) p row

  -- an append that doesn't begin at a row's end leaves the row
  pub IsRow-kept_apart : (fllen reply : ℕ) (t : State) → Appends fllen s r reply t → IsRow t p
  IsRow-kept_apart fllen reply t step = subst (λ x. IsRow x p) (sym step.after) (appended-row (max_pool_size fllen))

module _ {fllen sllen : ℕ} {memory : Range} {s : State} (w : IsWellFormed fllen sllen memory s) (r p : Range) (ends : end_of p ≡ r.start) (some : 0 < p.len)
    (row : IsRow s p) where
  -- the row's last chunk ends where the range begins
  last_chunk : (c : Range) × IsIn c s.chunks × (p.start ≤ c.start) × (end_of c ≡ r.start)
  last_chunk = let (c, i, from, low, high, to) = row (end_of p - 1) (omega arith) (omega arith) in (c, i, from, omega arith)

  grown_if-longer : (n : ℕ) → 0 < n → (o : Option Range) → find (ends_at r.start) s.chunks ≡ o → IsRow (option_map_or (λ c. grown c n s) o s) (range_at p.start (p.len + n))
  grown_if-longer n more None found a low high = grind (arith, nat_tests, last_chunk, find-none)
  grown_if-longer n more (Some d) found a low high =
      let is = find-some (ends_at r.start) d s.chunks found in
      let d_ends : end_of d ≡ r.start = eqb-true (end_of d) r.start is.1 in
      let (l, k, l_from, l_to) = last_chunk in
      let last : d ≡ l = one_ends w r.start d l is.0 k is.1 (eq-eqb (end_of l) r.start l_to) in
      let d_from : d.start ≡ l.start = ap (λ x. x.start) last in
      let grown_chunk = range_at d.start (d.len + n) in
      elim (cases_lt a (end_of p)) [
        | inl old ↦
            let (c, i, from, low', high', to) = row a low old in
            elim (IsIn-without_found (ends_at (end_of d)) d c s.chunks (subst (λ e. find (ends_at e) s.chunks ≡ Some d) (sym d_ends) found) i) [
              | inl same ↦
                  let c_from : c.start ≡ d.start = ap (λ x. x.start) same in
                  let c_to : end_of c ≡ end_of d = ap end_of same in
                  (grown_chunk, inl refl, omega arith, omega arith, omega arith, omega arith)
              | inr j ↦ (c, inr j, from, low', high', omega arith)
            ]
        | inr new ↦
            let room = (w.chunks d is.0).has_room in
            (grown_chunk, inl refl, omega arith, omega arith, omega arith, omega arith)
      ]

  extended-longer : (n : ℕ) → IsRow (extended r.start n s) (range_at p.start (p.len + n))
  extended-longer zero a low high = let (c, i, from, low', high', to) = row a low (omega arith) in (c, i, from, low', high', omega arith)
  extended-longer (suc n) a low high = grown_if-longer (suc n) (omega arith) (find (ends_at r.start) s.chunks) refl a low high

  appended-longer : (o : Option ℕ) → IsRow (appended o r s) (range_at p.start (p.len + appended_bytes o r))
  appended-longer None a low high = extended-longer (r.len / 32 * 32) a low high
  appended-longer (Some most) a low high =
      let part = aligned_part r in
      let cs = cut (Some most) part in
      let (l, k, l_from, l_to) = last_chunk in
      let whole = (w.chunks l k).whole in
      let at : part.start ≡ r.start = omega (arith, whole.start, whole.len) in
      let last : end_of_last r.start cs ≡ end_of_last part.start cs = ap (λ x. end_of_last x cs) (sym at) in
      let order : part.start ≤ end_of_last part.start cs = end_of_last-le part.start cs (IsAdjacent-cut (Some most) part) in
      elim (cases_lt a (end_of p)) [
        | inl old ↦
            let (c, i, from, low', high', to) = row a low old in
            (c, IsIn-with_chunks_old c cs s i, from, low', high', omega arith)
        | inr new ↦
            let (c, i, from, low', high', to) = IsRow-cut s (Some most) part a (omega arith) (omega arith) in
            (c, i, omega arith, low', high', omega arith)
      ]

  -- an append that begins at a row's end makes the row longer
  pub IsRow-appended : (more : ℕ) (t : State) → Appends fllen s r more t → IsRow t (range_at p.start (p.len + more))
  IsRow-appended more t step =
      subst (λ x. IsRow x (range_at p.start (p.len + more))) (sym step.after)
      (subst (λ n. IsRow (appended (max_pool_size fllen) r s) (range_at p.start (p.len + n))) (sym step.answer) (appended-longer (max_pool_size fllen)))
