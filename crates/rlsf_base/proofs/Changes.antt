-- What the bytes of a memory are after a change of some of them.
use Rattle.std.proofs.Common.{◌≡◌, ℕ, zero, suc, ◌+◌, ◌-◌, ◌<◌, ◌≤◌, ◌⊎◌, Bool, true, false, List, [], ◌∷◌, ap, refl, subst, sym, ◌∙◌}
use Rattle.std.proofs.Common.{arith, inl, inr, le-leb, lt-ltb, le-ltb}
use mathlib.Core.Path.{ap₂}
use borrow.Author.Tests.{lt-leb}
use Rattle.std.specs.Prelude.{leb, ltb, ◌&&◌, if◌then◌else◌}
use Rattle.std.proofs.lemmas.Bool.{cases_lt, false≢true}
use Rattle.std.proofs.Math.Nat.{eq-or-lt_of_le}
use Rattle.rlsf_base.specs.Out.{Change, Kept, here, raw, out, is_here, is_own, all_here, in_run, kept_at}
use Rattle.rlsf_base.specs.Changes.{change, AreBytesHere, IsOwn, came_back, came_raw, shifted}

pub and-false : (t : Bool) → (t && false) ≡ false
and-false true = refl
and-false false = refl

pub in_run-yes : (i n k : ℕ) → i ≤ k → k < i + n → in_run i n k ≡ true
in_run-yes i n k lo hi = ap (λ t. t && ltb k (i + n)) (le-leb i k lo) ∙ lt-ltb k (i + n) hi

pub in_run-before : (i n k : ℕ) → k < i → in_run i n k ≡ false
in_run-before i n k lo = ap (λ t. t && ltb k (i + n)) (lt-leb i k lo)

pub in_run-behind : (i n k : ℕ) → i + n ≤ k → in_run i n k ≡ false
in_run-behind i n k hi = ap (λ t. leb i k && t) (le-ltb k (i + n) hi) ∙ and-false (leb i k)

pub changed-there : (t : Kept) (cs : List Change) (i n k : ℕ) → i ≤ k → k < i + n → kept_at (change t i n ∷ cs) k ≡ t
unfolding kept_at
changed-there t cs i n k lo hi = ap (λ c. if c then t else kept_at cs k) (in_run-yes i n k lo hi)

pub changed-before : (t : Kept) (cs : List Change) (i n k : ℕ) → k < i → kept_at (change t i n ∷ cs) k ≡ kept_at cs k
unfolding kept_at
changed-before t cs i n k lo = ap (λ c. if c then t else kept_at cs k) (in_run-before i n k lo)

pub changed-behind : (t : Kept) (cs : List Change) (i n k : ℕ) → i + n ≤ k → kept_at (change t i n ∷ cs) k ≡ kept_at cs k
unfolding kept_at
changed-behind t cs i n k hi = ap (λ c. if c then t else kept_at cs k) (in_run-behind i n k hi)

pub none-out : (k : ℕ) → kept_at [] k ≡ here
unfolding kept_at
none-out k = refl

pub own-in : (cs : List Change) (i n : ℕ) → AreBytesHere cs i n → IsOwn cs i n
own-in cs i n h k lo hi = ap is_own (h k lo hi)

pub raw-own : (cs : List Change) (i n : ℕ) → IsOwn (came_raw i n cs) i n
raw-own cs i n k lo hi = ap is_own (changed-there raw cs i n k lo hi)

-- ---- bytes whose places are counted from one of them on

run-shifted : (i start len k : ℕ) → in_run (start - i) (start + len - i - (start - i)) k ≡ in_run start len (i + k)
run-shifted i start len k = grind (arith, cases_lt, in_run-before, in_run-yes, in_run-behind)

pub shifted-at : (i : ℕ) (cs : List Change) (k : ℕ) → kept_at (shifted i cs) k ≡ kept_at cs (i + k)
unfolding kept_at
shifted-at i [] k = refl
shifted-at i (c ∷ cs) k = λ j. if run-shifted i c.start c.len k j then c.kept else shifted-at i cs k j

pub shifted-own : (i : ℕ) (cs : List Change) (n : ℕ) → IsOwn cs i n → IsOwn (shifted i cs) 0 n
shifted-own i cs n own k lo hi = ap is_own (shifted-at i cs k) ∙ own (i + k) (omega arith) (omega (arith, hi))

-- ---- bytes that are all here

is-here : (t : Kept) → is_here t ≡ true → t ≡ here
is-here here e = refl
is-here raw e = absurd (false≢true e)
is-here out e = absurd (false≢true e)

and-left : (t u : Bool) → (t && u) ≡ true → t ≡ true
and-left true u e = refl
and-left false u e = absurd (false≢true e)

and-right : (t u : Bool) → (t && u) ≡ true → u ≡ true
and-right true u e = e
and-right false u e = absurd (false≢true e)

pub all-of : (cs : List Change) (i n : ℕ) → AreBytesHere cs i n → all_here cs i n ≡ true
all-of cs i zero h = refl
all-of cs i (suc n) h = ap₂ (λ t u. is_here t && u) (h i (omega arith) (omega arith)) (all-of cs (suc i) n (λ k lo hi. h k (omega arith) (omega arith)))

pub of-all : (cs : List Change) (i n : ℕ) → all_here cs i n ≡ true → AreBytesHere cs i n
of-all cs i zero e k lo hi = absurd (omega arith)
of-all cs i (suc n) e k lo hi = elim (eq-or-lt_of_le lo) [
  | inl same ↦ subst (λ j. kept_at cs j ≡ here) same (is-here (kept_at cs i) (and-left _ _ e))
  | inr more ↦ of-all cs (suc i) n (and-right _ _ e) k more (omega arith)
]

-- ---- bytes that were written, or came back

back-if : (t : Bool) (cs : List Change) (i n k : ℕ) → (t ≡ true → AreBytesHere cs i n)
    → kept_at (if t then cs else change here i n ∷ cs) k ≡ kept_at (change here i n ∷ cs) k
back-if false cs i n k are = refl
back-if true cs i n k are = elim (cases_lt k i) [
  | inl before ↦ sym (changed-before here cs i n k before)
  | inr behind ↦ elim (cases_lt k (i + n)) [
    | inl inside ↦ are refl k behind inside ∙ sym (changed-there here cs i n k behind inside)
    | inr past ↦ sym (changed-behind here cs i n k past)
  ]
]

-- whether they were here before makes no difference to what they are
pub back-at : (cs : List Change) (i n k : ℕ) → kept_at (came_back i n cs) k ≡ kept_at (change here i n ∷ cs) k
back-at cs i n k = back-if (all_here cs i n) cs i n k (of-all cs i n)

pub back-there : (cs : List Change) (i n k : ℕ) → i ≤ k → k < i + n → kept_at (came_back i n cs) k ≡ here
back-there cs i n k lo hi = back-at cs i n k ∙ changed-there here cs i n k lo hi

pub back-before : (cs : List Change) (i n k : ℕ) → k < i → kept_at (came_back i n cs) k ≡ kept_at cs k
back-before cs i n k lo = back-at cs i n k ∙ changed-before here cs i n k lo

pub back-behind : (cs : List Change) (i n k : ℕ) → i + n ≤ k → kept_at (came_back i n cs) k ≡ kept_at cs k
back-behind cs i n k hi = back-at cs i n k ∙ changed-behind here cs i n k hi

-- of bytes none of which left, none has to come back
pub back-none : (cs : List Change) (i n : ℕ) → cs ≡ [] → came_back i n cs ≡ []
back-none cs i n none = ap (came_back i n) none ∙ ap (λ t. if t then [] else change here i n ∷ []) (all-of [] i n (λ k lo hi. none-out k))

-- what they were before makes no difference, either
pub back-over : (t : Kept) (cs : List Change) (i n k : ℕ) → kept_at (came_back i n (change t i n ∷ cs)) k ≡ kept_at (came_back i n cs) k
back-over t cs i n k = grind (arith, cases_lt, back-before, changed-before, back-there, back-behind, changed-behind)

-- a run that is written is the same as a longer one, whose other bytes are here
pub back-more : (cs : List Change) (i n j m : ℕ) → j ≤ i → i + n ≤ j + m → ((k : ℕ) → j ≤ k → k < j + m → (k < i) ⊎ (i + n ≤ k) → kept_at cs k ≡ here)
    → (k : ℕ) → kept_at (came_back i n cs) k ≡ kept_at (came_back j m cs) k
back-more cs i n j m from to others k = grind (arith, cases_lt, back-before, back-there, back-behind)

-- bytes that are here are so after a change of others, and after any that are written
pub here-beside : (t : Kept) (cs : List Change) (i n j m : ℕ) → (j + m ≤ i) ⊎ (i + n ≤ j) → AreBytesHere cs j m → AreBytesHere (change t i n ∷ cs) j m
here-beside t cs i n j m side were k lo hi = grind (arith, changed-before, changed-behind)

pub here-back : (cs : List Change) (i n j m : ℕ) → AreBytesHere cs j m → AreBytesHere (came_back i n cs) j m
here-back cs i n j m were k lo hi = grind (arith, cases_lt, back-before, back-there, back-behind)

-- bytes that are here and are written are as they were
pub back-same : (cs : List Change) (i n : ℕ) → AreBytesHere cs i n → came_back i n cs ≡ cs
back-same cs i n are = ap (λ t. if t then cs else change here i n ∷ cs) (all-of cs i n are)

-- a run is written, and then the bytes behind it
pub back-then : (cs now : List Change) (i m n : ℕ) → ((k : ℕ) → kept_at now k ≡ kept_at (came_back i m cs) k)
    → (k : ℕ) → kept_at (came_back (i + m) n now) k ≡ kept_at (came_back i (m + n) cs) k
back-then cs now i m n first k = grind (arith, cases_lt, back-before, back-there, back-behind)
