-- A part of a list: its length, and what the list is where it is replaced by as many elements.
use Rattle.std.proofs.Common.{◌≡◌, ℕ, ◌+◌, ◌-◌, ◌≤◌, List, ◌++◌, length, take, drop, arith, sym, ◌∙◌, ap}
use Rattle.std.proofs.lemmas.List.{drop-append-le, drop-drop, drop-take, drop_at, length-append, length-drop, length-take-le, take-append-le, take-take, take_at}
use Rattle.std.specs.List.{splice}

pub length-part : {A : Type 0} (k i : ℕ) (xs : List A) → i + k ≤ length xs → length (take k (drop i xs)) ≡ k
length-part k i xs room = length-take-le k (drop i xs) (omega (arith, room, length-drop i xs))

module _ {A : Type 0} (xs ys : List A) (i k : ℕ) (room : i + k ≤ length xs) (full : length ys ≡ k) where
  front : length (take i xs) ≡ i
  front = length-take-le i xs (omega arith)

  pub length-splice : length (splice xs i (i + k) ys) ≡ length xs
  length-splice =
      omega (arith, front, length-append (take i xs) (ys ++ drop (i + k) xs), length-append ys (drop (i + k) xs), length-drop (i + k) xs)

  -- the part is what was put there
  pub splice-inside : take k (drop i (splice xs i (i + k) ys)) ≡ ys
  splice-inside = ap (take k) (drop_at (take i xs) (ys ++ drop (i + k) xs) i front) ∙ take_at ys (drop (i + k) xs) k full

  -- a part before it is as it was
  pub splice-before : (j n : ℕ) → j + n ≤ i → take n (drop j (splice xs i (i + k) ys)) ≡ take n (drop j xs)
  splice-before j n before =
      let rest = ys ++ drop (i + k) xs in
      let part : i ≡ j + (i - j) = omega arith in
      let cut : drop j (take i xs) ≡ take (i - j) (drop j xs) = ap (λ e. drop j (take e xs)) part ∙ drop-take j (i - j) xs in
      let long : n ≤ length (drop j (take i xs)) = omega (arith, length-drop j (take i xs), front) in
      ap (take n) (drop-append-le j (take i xs) rest (omega (arith, front)))
      ∙ take-append-le n (drop j (take i xs)) rest long
      ∙ ap (take n) cut ∙ take-take n (i - j) (drop j xs) (omega arith)

  -- what comes after it is as it was
  pub splice-after : (j : ℕ) → i + k ≤ j → drop j (splice xs i (i + k) ys) ≡ drop j xs
  splice-after j after =
      let rest = drop (i + k) xs in
      let parts : (i + k) + (j - (i + k)) ≡ j = omega arith in
      let past : (i + k) + (j - (i + k)) ≡ j = omega arith in
      ap (λ e. drop e (splice xs i (i + k) ys)) (sym past)
      ∙ sym (drop-drop (j - (i + k)) (i + k) (splice xs i (i + k) ys))
      ∙ ap (drop (j - (i + k))) (sym (drop-drop k i (splice xs i (i + k) ys)) ∙ ap (drop k) (drop_at (take i xs) (ys ++ rest) i front) ∙ drop_at ys rest k full)
      ∙ drop-drop (j - (i + k)) (i + k) xs ∙ ap (λ e. drop e xs) parts
