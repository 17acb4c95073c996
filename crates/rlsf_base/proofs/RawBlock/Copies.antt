-- Bytes that are copied in two parts, the first to where they overlap nothing, are as if they were copied at once.
use Rattle.std.proofs.Common.{◌≡◌, ℕ, ◌+◌, ◌-◌, ◌≤◌, ◌⊎◌, List, ◌++◌, length, take, drop, arith, inl, inr, refl, sym, ap, ◌∙◌, take-append-drop}
use Rattle.std.proofs.lemmas.List.{drop-append-le, drop-drop, drop-take, drop_at, length-append, length-drop, length-take-le, take-take, take_at}
use Rattle.std.proofs.lemmas.Grind.{common_steps}
use Rattle.std.specs.List.{splice}
use Rattle.core.specs.List.{copy_within}
use Rattle.rlsf_base.specs.Lends.{refilled}
use Rattle.rlsf_base.proofs.Words.Splices.{length-part, splice-after, splice-before, splice-inside}

take-parts : (xs : List ℕ) (i k n : ℕ) → n ≡ i + k → take n xs ≡ take i xs ++ take k (drop i xs)
take-parts xs i k n e =
    let le : i ≤ i + k = omega arith in
    ap (λ j. take j xs) e ∙ sym (take-append-drop i (take (i + k) xs)) ∙ (λ j. take-take i (i + k) xs le j ++ drop-take i k xs j)

up-within : (xs : List ℕ) (by len : ℕ) → by ≤ len → length xs ≡ len → copy_within xs 0 (len - by) by ≡ take by xs ++ take (len - by) xs
up-within xs by len less long = grind (arith, common_steps)

down-within : (xs : List ℕ) (by len : ℕ) → by ≤ len → length xs ≡ len → copy_within xs by len 0 ≡ take (len - by) (drop by xs) ++ drop (len - by) xs
down-within xs by len less long = grind (arith, common_steps)

up-sides : (a b c x r : List ℕ) → a ++ ((b ++ c) ++ (x ++ r)) ≡ (a ++ b) ++ ((c ++ x) ++ r)
up-sides a b c x r = grind (arith, common_steps)

down-sides : (a x c d r : List ℕ) → (a ++ x) ++ ((c ++ d) ++ r) ≡ a ++ ((x ++ c) ++ (d ++ r))
down-sides a x c d r = grind (arith, common_steps)

filled : (old : List ℕ) (i len : ℕ) (w : List ℕ) → length w ≡ len → refilled old i len w ≡ take i old ++ (w ++ drop (i + len) old)
filled old i len w long = ap (λ l. take i old ++ (l ++ drop (i + len) old)) (take_at w (drop (length w) (drop i old)) len long)

module _ (xs ys : List ℕ) (at by len : ℕ) (less : by ≤ len) (room : at + by + len ≤ length xs) where
  pub up-in_parts : ys ≡ splice xs (at + len) (at + len + by) (take by (drop (at + len - by) xs))
      → refilled ys at len (copy_within (take len (drop at ys)) 0 (len - by) by) ≡ splice xs (at + by) (at + by + len) (take len (drop at xs))
  up-in_parts first =
      let run = drop at xs in let part = take by (drop (at + len - by) xs) in
      let fits : at + len + by ≤ length xs = omega (arith, room) in
      let full : length part ≡ by = length-take-le by (drop (at + len - by) xs) (omega (arith, room, less, length-drop (at + len - by) xs)) in
      let whole : length (take len run) ≡ len = length-take-le len run (omega (arith, room, length-drop at xs)) in
      let front : take at ys ≡ take at xs = ap (take at) first ∙ splice-before xs part (at + len) by fits full 0 at (omega arith) in
      let before : take len (drop at ys) ≡ take len run = ap (λ l. take len (drop at l)) first ∙ splice-before xs part (at + len) by fits full at len (omega arith) in
      let behind : drop (at + len) ys ≡ part ++ drop (at + len + by) xs =
      ap (drop (at + len)) first ∙ drop_at (take (at + len) xs) (part ++ drop (at + len + by) xs) (at + len) (length-take-le (at + len) xs (omega (arith, room))) in
      let less' : len - by ≤ len = omega arith in
      let moved : copy_within (take len (drop at ys)) 0 (len - by) by ≡ take by run ++ take (len - by) run =
      ap (λ l. copy_within l 0 (len - by) by) before ∙ up-within (take len run) by len less whole
      ∙ (λ i. take-take by len run less i ++ take-take (len - by) len run less' i) in
      let last : part ≡ take by (drop (len - by) run) = let e : at + len - by ≡ at + (len - by) = omega (arith, less) in
      ap (λ k. take by (drop k xs)) e ∙ ap (take by) (sym (drop-drop (len - by) at xs)) in
      let long : length (copy_within (take len (drop at ys)) 0 (len - by) by) ≡ len =
      omega (
        arith,
        less,
        less',
        room,
        ap length moved,
        length-append (take by run) (take (len - by) run),
        length-take-le by run (omega (arith, room, less, length-drop at xs)),
        length-take-le (len - by) run (omega (arith, room, less, length-drop at xs)),
      ) in
      let end : at + len + by ≡ at + by + len = omega arith in
      filled ys at len (copy_within (take len (drop at ys)) 0 (len - by) by) long
      ∙ (λ i. front i ++ (moved i ++ behind i))
      ∙ up-sides (take at xs) (take by run) (take (len - by) run) part (drop (at + len + by) xs)
      ∙ (λ i. sym (take-parts xs at by (at + by) (λ _. at + by)) i ++ ((take (len - by) run ++ last i) ++ drop (end i) xs))
      ∙ ap (λ l. take (at + by) xs ++ (l ++ drop (at + by + len) xs)) (sym (take-parts run (len - by) by len (omega (arith, less))))

  pub down-in_parts : ys ≡ splice xs at (at + by) (take by (drop (at + by) xs))
      → refilled ys (at + by) len (copy_within (take len (drop (at + by) ys)) by len 0) ≡ splice xs at (at + len) (take len (drop (at + by) xs))
  down-in_parts first =
      let run = drop (at + by) xs in let part = take by run in
      let fits : at + by ≤ length xs = omega (arith, room) in
      let many : length run ≡ length xs - (at + by) = length-drop (at + by) xs in
      let full : length part ≡ by = length-take-le by run (omega (arith, room, less, many)) in
      let whole : length (take len run) ≡ len = length-take-le len run (omega (arith, room, many)) in
      let front : take at ys ≡ take at xs = ap (take at) first ∙ splice-before xs part at by fits full 0 at (omega arith) in
      let there : take by (drop at ys) ≡ part = ap (λ l. take by (drop at l)) first ∙ splice-inside xs part at by fits full in
      let up_to : take (at + by) ys ≡ take at xs ++ part = take-parts ys at by (at + by) (λ _. at + by) ∙ (λ i. front i ++ there i) in
      let after : drop (at + by) ys ≡ run = ap (drop (at + by)) first ∙ splice-after xs part at by fits full (at + by) (omega arith) in
      let behind : drop (at + by + len) ys ≡ drop (at + by + len) xs = ap (drop (at + by + len)) first ∙ splice-after xs part at by fits full (at + by + len) (omega arith) in
      let less' : len - by ≤ len = omega arith in
      let inner : drop by (take len run) ≡ take (len - by) (drop by run) = let e : len ≡ by + (len - by) = omega (arith, less) in
      ap (λ k. drop by (take k run)) e ∙ drop-take by (len - by) run in
      let moved : copy_within (take len (drop (at + by) ys)) by len 0 ≡ take (len - by) (drop by run) ++ drop (len - by) (take len run) =
      ap (λ l. copy_within (take len l) by len 0) after ∙ down-within (take len run) by len less whole
      ∙ ap (λ l. l ++ drop (len - by) (take len run)) (ap (take (len - by)) inner ∙ take-take (len - by) (len - by) (drop by run) (omega arith)) in
      let long : length (copy_within (take len (drop (at + by) ys)) by len 0) ≡ len =
      omega (
        arith,
        less,
        room,
        many,
        whole,
        ap length moved,
        length-append (take (len - by) (drop by run)) (drop (len - by) (take len run)),
        length-drop (len - by) (take len run),
        length-take-le (len - by) (drop by run) (omega (arith, room, less, many, length-drop by run)),
      ) in
      let rest : drop (at + len) xs ≡ drop (len - by) (take len run) ++ drop (at + by + len) xs =
      let e : at + len ≡ at + by + (len - by) = omega (arith, less) in
      ap (λ k. drop k xs) e ∙ sym (drop-drop (len - by) (at + by) xs) ∙ ap (drop (len - by)) (sym (take-append-drop len run))
      ∙ drop-append-le (len - by) (take len run) (drop len run) (omega (arith, whole)) ∙ ap (λ l. drop (len - by) (take len run) ++ l) (drop-drop len (at + by) xs) in
      filled ys (at + by) len (copy_within (take len (drop (at + by) ys)) by len 0) long
      ∙ (λ i. up_to i ++ (moved i ++ behind i))
      ∙ down-sides (take at xs) part (take (len - by) (drop by run)) (drop (len - by) (take len run)) (drop (at + by + len) xs)
      ∙ (λ i. take at xs ++ (sym (take-parts run by (len - by) len (omega (arith, less))) i ++ sym rest i))

-- ---- units are copied one after the other

more-sides : (a b c r : List ℕ) → (a ++ b) ++ (c ++ r) ≡ a ++ ((b ++ c) ++ r)
more-sides a b c r = grind (arith, common_steps)

-- where some are copied, the next ones are as they were, unless they are overwritten later
pub copied-more : (xs ys : List ℕ) (at from i n : ℕ) → at + (i + n) ≤ length xs → from + (i + n) ≤ length xs → (from + (i + n) ≤ at) ⊎ (at ≤ from)
    → ys ≡ splice xs at (at + i) (take i (drop from xs))
    → splice ys (at + i) (at + i + n) (take n (drop (from + i) ys)) ≡ splice xs at (at + (i + n)) (take (i + n) (drop from xs))
copied-more xs ys at from i n room there side first =
    let part = take i (drop from xs) in
    let fits : at + i ≤ length xs = omega (arith, room) in
    let full : length part ≡ i = length-part i from xs (omega (arith, there)) in
    let next : take n (drop (from + i) ys) ≡ take n (drop (from + i) xs) = ap (λ l. take n (drop (from + i) l)) first ∙ (elim side [
      | inl below ↦ splice-before xs part at i fits full (from + i) n (omega (arith, below))
      | inr above ↦ ap (take n) (splice-after xs part at i fits full (from + i) (omega (arith, above)))
    ]) in
    let front : take at ys ≡ take at xs = ap (take at) first ∙ splice-before xs part at i fits full 0 at (omega arith) in
    let written : take i (drop at ys) ≡ part = ap (λ l. take i (drop at l)) first ∙ splice-inside xs part at i fits full in
    let up_to : take (at + i) ys ≡ take at xs ++ part = take-parts ys at i (at + i) refl ∙ (λ j. front j ++ written j) in
    let end : at + i + n ≡ at + (i + n) = omega arith in
    let behind : drop (at + i + n) ys ≡ drop (at + (i + n)) xs =
    ap (drop (at + i + n)) first ∙ splice-after xs part at i fits full (at + i + n) (omega arith) ∙ ap (λ k. drop k xs) end in
    let all : part ++ take n (drop (from + i) xs) ≡ take (i + n) (drop from xs) =
    ap (λ l. part ++ take n l) (sym (drop-drop i from xs)) ∙ sym (take-parts (drop from xs) i n (i + n) refl) in
    (λ j. up_to j ++ (next j ++ behind j)) ∙ more-sides (take at xs) part (take n (drop (from + i) xs)) (drop (at + (i + n)) xs)
    ∙ ap (λ l. take at xs ++ (l ++ drop (at + (i + n)) xs)) all
