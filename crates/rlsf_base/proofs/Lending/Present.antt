-- Bytes that are here, by addresses and by places.
use Rattle.std.proofs.Common.{◌≡◌, ℕ, ◌+◌, ◌-◌, ◌≤◌, ap, ◌∙◌, arith, List, []}
use Rattle.rlsf_base.specs.declared.memory.range.Range.{Range}
use Rattle.rlsf_base.specs.Range.{end_of}
use Rattle.rlsf_base.specs.Out.{Change, is_own, kept_at}
use Rattle.rlsf_base.specs.Changes.{AreBytesHere, IsOwn}
use Rattle.rlsf_base.specs.Space.{Space, out_at, word_range}
use Rattle.rlsf_base.specs.OpenSpace.{IsHere, IsOwned, SameOwn}

pub here-in : (out : List Change) (m : Space) (r : Range) (i : ℕ) → out ≡ m.out → m.start ≤ r.start → i ≡ r.start - m.start → IsHere m r → AreBytesHere out i r.len
here-in out m r i same inside place here k lo hi =
    let a = k + m.start in let back : k ≡ a - m.start = omega arith in
    ap (λ (u : List Change). kept_at u k) same ∙ ap (λ (j : ℕ). kept_at m.out j) back ∙ here a (omega (arith, place, lo)) (omega (arith, place, hi, inside))

pub own-in : (out : List Change) (m : Space) (r : Range) (i : ℕ) → out ≡ m.out → m.start ≤ r.start → i ≡ r.start - m.start → IsOwned m r → IsOwn out i r.len
own-in out m r i same inside place own k lo hi =
    let a = k + m.start in let back : k ≡ a - m.start = omega arith in
    ap (λ (u : List Change). is_own (kept_at u k)) same ∙ ap (λ (j : ℕ). is_own (kept_at m.out j)) back
    ∙ own a (omega (arith, place, lo)) (omega (arith, place, hi, inside))

-- a range is here in a memory in which as much is out
pub here-same : (m n : Space) (r : Range) → n.start ≡ m.start → n.out ≡ m.out → IsHere m r → IsHere n r
here-same m n r start out here a lo hi = (λ i. kept_at (out i) (a - start i)) ∙ here a lo hi

-- and so is what lies in it
pub here-inside : (m : Space) (r q : Range) → r.start ≤ q.start → end_of q ≤ end_of r → IsHere m r → IsHere m q
here-inside m r q from to here a lo hi = here a (omega arith) (omega arith)

-- and each that lies in a memory of which nothing is out
pub here-none : (m : Space) (r : Range) → m.out ≡ [] → IsHere m r
unfolding kept_at
here-none m r none a lo hi = ap (λ cs. kept_at cs (a - m.start)) none

-- the word at an address of a range
pub here-word : (m : Space) (r : Range) (a : ℕ) → IsHere m r → r.start ≤ a → a + 8 ≤ end_of r → IsHere m (word_range a)
here-word m r a here from to = here-inside m r (word_range a) from to here

-- the same of what is the memory's own
pub own-same : (m n : Space) → n.start ≡ m.start → n.out ≡ m.out → SameOwn m n
own-same m n start out a inside i = is_own (kept_at (out i) (a - start i))

pub own-there : (m n : Space) (r : Range) → m.start ≤ r.start → SameOwn m n → IsOwned m r → IsOwned n r
own-there m n r inside same own a lo hi = same a (omega arith) ∙ own a lo hi

pub owned-same : (m n : Space) (r : Range) → n.start ≡ m.start → n.out ≡ m.out → IsOwned m r → IsOwned n r
owned-same m n r start out own a lo hi = (λ i. is_own (kept_at (out i) (a - start i))) ∙ own a lo hi

pub own-inside : (m : Space) (r q : Range) → r.start ≤ q.start → end_of q ≤ end_of r → IsOwned m r → IsOwned m q
own-inside m r q from to own a lo hi = own a (omega arith) (omega arith)

pub own-word : (m : Space) (r : Range) (a : ℕ) → IsOwned m r → r.start ≤ a → a + 8 ≤ end_of r → IsOwned m (word_range a)
own-word m r a own from to = own-inside m r (word_range a) from to own

pub own-here : (m : Space) (r : Range) → IsHere m r → IsOwned m r
own-here m r here a lo hi = ap is_own (here a lo hi)

pub out-same : (m n : Space) (a : ℕ) → n.start ≡ m.start → n.out ≡ m.out → out_at n a ≡ out_at m a
out-same m n a start out i = kept_at (out i) (a - start i)

pub own-none : (m : Space) (r : Range) → m.out ≡ [] → IsOwned m r
own-none m r none = own-here m r (here-none m r none)
