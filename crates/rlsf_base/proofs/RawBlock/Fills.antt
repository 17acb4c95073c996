-- A run of bytes that grows by one, and what each byte is then.
use Rattle.std.proofs.Common.{◌≡◌, ℕ, ◌+◌, ◌-◌, ◌<◌, ◌≤◌, inl, inr, List, [], ◌∷◌, ◌++◌, length, take, drop, slice_index, replicate, arith, ap, sym, ◌∙◌}
use Rattle.std.proofs.Common.{length-take}
use Rattle.std.proofs.Math.Seq.{take-add}
use Rattle.std.proofs.lemmas.Bool.{cases_lt}
use Rattle.std.proofs.lemmas.List.{append_assoc, take_at}
use Rattle.std.proofs.lemmas.Slice.{drop-append-drop}
use Rattle.std.proofs.lemmas.Grind.{common_steps}
use Rattle.std.specs.List.{splice}
use Rattle.rlsf_base.specs.Out.{Change, is_own}
use Rattle.rlsf_base.specs.Changes.{AreBytesHere, IsOwn, IsAllOwn, came_back, came_raw}
use Rattle.rlsf_base.proofs.Changes.{changed-there, changed-before, changed-behind, back-there, back-before, back-behind, none-out}

pub all_own : (cs : List Change) (i n : ℕ) → IsAllOwn cs → IsAllOwn (came_raw i n cs)
all_own cs i n was k = grind (arith, cases_lt, changed-before, changed-there, changed-behind)

pub none_own : IsAllOwn []
none_own k = ap is_own (none-out k)

pub filled : (old : List ℕ) (i value : ℕ) → i < length old
    → splice (replicate i value ++ drop i old) i (i + 1) (value ∷ []) ≡ replicate (i + 1) value ++ drop (i + 1) old
filled old i value in_row = grind (arith, common_steps)

pub long_filled : (old : List ℕ) (from i value : ℕ) → from ≤ i → i ≤ length old → length (take from old ++ replicate (i - from) value) ≡ i
long_filled old from i value behind in_row = grind (arith, common_steps)

once_more : (n value : ℕ) → replicate n value ++ (value ∷ []) ≡ replicate (n + 1) value
once_more n value = grind (arith, common_steps)

pub filled-from : (old : List ℕ) (from i value : ℕ) → from ≤ i → i < length old
    → splice (take from old ++ (replicate (i - from) value ++ drop i old)) i (i + 1) (value ∷ []) ≡ take from old ++ (replicate (i + 1 - from) value ++ drop (i + 1) old)
filled-from old from i value behind in_row =
    let front : List ℕ = take from old in let now : List ℕ = replicate (i - from) value in let rest : List ℕ = drop (i + 1) old in
    let long : length (front ++ now) ≡ i = long_filled old from i value behind (omega (arith, in_row)) in
    let more : i - from + 1 ≡ i + 1 - from = omega (arith, behind) in
    let next : now ++ (value ∷ []) ≡ replicate (i + 1 - from) value = once_more (i - from) value ∙ ap (λ n. replicate n value) more in
    (λ k. splice (sym (append_assoc front now (drop i old)) k) i (i + 1) (value ∷ []))
    ∙ (λ k. take_at (front ++ now) (drop i old) i long k ++ (value ∷ drop-append-drop i old (front ++ now) (i + 1) (omega arith) long k))
    ∙ append_assoc front now (value ∷ rest) ∙ (λ k. front ++ sym (append_assoc now (value ∷ []) rest) k) ∙ (λ k. front ++ (next k ++ rest))

pub grows : (cs : List Change) (i : ℕ) → AreBytesHere cs 0 i → AreBytesHere (came_back i 1 cs) 0 (i + 1)
grows cs i was k lo hi = elim (cases_lt k i) [
  | inl before ↦ back-before cs i 1 k before ∙ was k lo (omega (arith, before))
  | inr behind ↦ back-there cs i 1 k behind (omega (arith, hi))
]

pub own-written : (cs : List Change) (i n j m : ℕ) → IsOwn cs j m → IsOwn (came_back i n cs) j m
own-written cs i n j m was k lo hi = grind (arith, cases_lt, back-before, back-there, back-behind)

pub one_more : (old new : List ℕ) (i : ℕ) → i < length new → length old ≡ length new
    → splice (take i new ++ drop i old) i (i + 1) (slice_index new i ∷ []) ≡ take (i + 1) new ++ drop (i + 1) old
one_more old new i in_row long = grind (arith, common_steps)

pub grows-by : (cs : List Change) (i n : ℕ) → AreBytesHere cs 0 i → AreBytesHere (came_back i n cs) 0 (i + n)
grows-by cs i n was k lo hi = grind (arith, cases_lt, back-before, back-there)

pub more-by : (old new : List ℕ) (i n : ℕ) → i + n ≤ length new
    → splice (take i new ++ drop i old) i (i + n) (take n (drop i new)) ≡ take (i + n) new ++ drop (i + n) old
more-by old new i n in_row = grind (arith, length-take, take_at, drop-append-drop, append_assoc, take-add)
