-- Lists that begin with other lists.
use Rattle.std.proofs.Common.{◌≡◌, ℕ, ◌+◌, ◌-◌, ◌≤◌, List, ◌++◌, length, min, take, drop, arith, refl, sym, ◌∙◌, ap}
use mathlib.Core.Path.{ap₂}
use Rattle.std.proofs.Math.Seq.{take-append-add, take-append_seam}
use Rattle.std.proofs.lemmas.List.{drop-take, length-append, length-take, length-take-le, take-take}
use Rattle.std.specs.List.{splice}
use Rattle.rlsf_base.proofs.Words.Splices.{length-splice}

-- a list that begins with another is as long, or longer
pub front-le : {A : Type 0} (front xs : List A) → take (length front) xs ≡ front → length front ≤ length xs
front-le front xs begins = omega (arith, length-take (length front) xs, ap length begins)

-- what is replaced in a list is replaced in its front
pub take-splice : {A : Type 0} (xs ys : List A) (i n : ℕ) → i + length ys ≤ n → n ≤ length xs → take n (splice xs i (i + length ys) ys) ≡ splice (take n xs) i
    (i + length ys) ys
take-splice xs ys i n inside room =
    let k = length ys in
    let m = n - (i + k) in
    let front = take i xs in
    let rest = drop (i + k) xs in
    let long : length front ≡ i = length-take-le i xs (omega arith) in
    let parts : n ≡ length front + (k + m) = omega arith in
    let whole : n ≡ i + k + m = omega arith in
    let left : take n (front ++ (ys ++ rest)) ≡ front ++ (ys ++ take m rest) = ap (λ j. take j (front ++ (ys ++ rest))) parts ∙ take-append-add front (ys ++ rest) (k + m)
    ∙ ap (λ l. front ++ l) (take-append-add ys rest m) in
    let first : take i (take n xs) ≡ front = take-take i n xs (omega arith) in
    let last : drop (i + k) (take n xs) ≡ take m rest = ap (λ j. drop (i + k) (take j xs)) whole ∙ drop-take (i + k) m xs in
    left ∙ sym (ap₂ (λ f l. f ++ (ys ++ l)) first last)

-- what is written in the front of a longer list is written in the list that it begins with
pub front-splice : (front xs ys : List ℕ) (i : ℕ) → take (length front) xs ≡ front → i + length ys ≤ length front
    → take (length (splice front i (i + length ys) ys)) (splice xs i (i + length ys) ys) ≡ splice front i (i + length ys) ys
front-splice front xs ys i begins inside =
    let n = length front in
    let long : length (splice front i (i + length ys) ys) ≡ n = length-splice front ys i (length ys) inside refl in
    ap (λ j. take j (splice xs i (i + length ys) ys)) long ∙ take-splice xs ys i n inside (front-le front xs begins) ∙ ap (λ l. splice l i (i + length ys) ys) begins

-- what is written behind the front of a longer list is appended to it
pub front-append : (front xs ys : List ℕ) (i : ℕ) → length front ≡ i → take i xs ≡ front → take (length (front ++ ys)) (splice xs i (i + length ys) ys) ≡ front
    ++ ys
front-append front xs ys i at begins =
    let rest = drop (i + length ys) xs in
    let long : length (front ++ ys) ≡ length (take i xs) + (length ys + 0) = omega (arith, length-append front ys, ap length begins) in
    ap (λ j. take j (take i xs ++ (ys ++ rest))) long ∙ take-append-add (take i xs) (ys ++ rest) (length ys + 0)
    ∙ ap (λ l. take i xs ++ l) (ap (λ j. take j (ys ++ rest)) (omega arith) ∙ take-append_seam ys rest) ∙ ap (λ l. l ++ ys) begins

-- a list begins with as much of another as a third one does that keeps it
pub front-kept : (front old new : List ℕ) → take (length front) old ≡ front → length front ≤ length new
    → take (min (length old) (length new)) new ≡ take (min (length old) (length new)) old
    → take (length front) new ≡ front
front-kept front old new begins room kept =
    let n = length front in
    let m = min (length old) (length new) in
    let within = front-le front old begins in
    let below : n ≤ min (length old) (length new) = omega arith in
    sym (take-take n m new below) ∙ ap (take n) kept ∙ take-take n m old below ∙ begins
